use Rattle.std.proofs.Common.{ℕ, List, [], ◌∷◌, ◌++◌, ap, sym, ◌∙◌, decimal, append_assoc}
use Rattle.std.specs.Prelude.{codes}
use Rattle.rv_plan.specs.Lines.{part_line}
use Rattle.rv_plan.proofs.faults.part_line.Goals as goal

pub returns : goal.returns
returns c =
    c.in_ok-line.ensures.ok ∙ ap (λ (text : List ℕ). codes "fault part " ++ text) (sym (append_assoc (decimal c.args.number) (32 ∷ c.part_fault_name-what.result.now) (10 ∷ [])))
    ∙ ap (part_line c.args.number) c.part_fault_name-what.ensures
