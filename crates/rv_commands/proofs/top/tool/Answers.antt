use Rattle.std.proofs.Common.{Some, sym, subst}
use Rattle.rv_plan.specs.Answers.{Answers}
use Rattle.rv_commands.specs.Commands.{words_of}
use Rattle.rv_commands.specs.Outcome.{plan, plan_of}
use Rattle.rv_commands.specs.Trials.{TrialEnds}
use Rattle.rv_commands.proofs.Listed.{plan-listed}
use Rattle.rv_commands.proofs.Trying.{trial-ends}
use Rattle.rv_commands.proofs.top.tool.Goals as goal

pub returns-in-Some-clause-answers : goal.returns-in-Some-clause-answers
returns-in-Some-clause-answers g c =
    let w = words_of c.in-Some.asked in
    subst (λ spelled. Answers (plan spelled) (g.S.Shelf.view c.args.shelf.now) (g.S.Shelf.view c.perform_by_team.new.shelf) (g.K.Sink.view c.args.out.now) (g.K.Sink.view c.tell.new.out) c.tell.result) (sym c.in-Some.ensures.command)
    (c.tell.ensures.answers (plan_of w) _ _ (plan-listed (Some w)) c.perform_by_team.ensures.performs)

pub returns-in-Some-clause-tried : goal.returns-in-Some-clause-tried
returns-in-Some-clause-tried g c =
    let w = words_of c.in-Some.asked in
    subst (λ spelled. TrialEnds spelled (g.K.Sink.view c.args.out.now) (g.K.Sink.view c.tell.new.out) c.tell.result) (sym c.in-Some.ensures.command)
    (trial-ends c.in-Some.asked c.in-Some.ensures.ranges _ _ _ _ c.tell.result (c.tell.ensures.answers (plan_of w) _ _ (plan-listed (Some w)) c.perform_by_team.ensures.performs))
