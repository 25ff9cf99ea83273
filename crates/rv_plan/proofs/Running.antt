-- What is loaded is told, and what is due is written, as the plans say.
use Rattle.std.proofs.Common.{◌≡◌, Ok, Err, sym, ◌∙◌, ap, subst, option_map}
use Rattle.rv_host.specs.Views.{ShelfView}
use Rattle.rv_plan.specs.Plan.{Outcome, Plan, with_due}
use Rattle.rv_plan.specs.Endings.{Reaches}
use Rattle.rv_plan.specs.FileCalls.{IsUnchanged, Performs, Stops, Writes}
use Rattle.rv_plan.specs.declared.faults.Fault.{Fault}
use Rattle.rv_plan.specs.declared.told.Told.{Told}
use Rattle.rv_plan.proofs.Plans.{writes-fail}

pub performs-done : (plan : Plan) (s s' s'' : ShelfView) (told : Told) (o : Outcome) → IsUnchanged s s' → Reaches s.files plan o → told.status ≡ o.status → told.text ≡ o.text → Writes o.writes s' s'' (Ok tt) → Performs plan s s'' (Ok told)
performs-done plan s s' s'' told o same reached status text wrote =
    (o, reached, status, text, record { files = wrote.files ∙ ap (option_map (λ fs. with_due fs o.writes)) same.files; writes = λ name. wrote.writes name ∙ same.writes name })

pub performs-torn : (plan : Plan) (s s' s'' : ShelfView) (o : Outcome) (f : Fault) → IsUnchanged s s' → Reaches s.files plan o → Writes o.writes s' s'' (Err f) → Stops plan s s'' f
performs-torn plan s s' s'' o f same reached wrote =
    subst (λ x. Stops plan s s'' x) (sym wrote.0) (o, reached, writes-fail o.writes s s' s'' same wrote.1)
