use Rattle.std.proofs.Common.{subst}
use Rattle.rv_plan.specs.Answers.{Prints}
use Rattle.rv_plan.specs.FileCalls.{Performs}
use Rattle.rv_plan.proofs.Answering.{fault-answers, told-answers}
use Rattle.rv_plan.proofs.telling.tell.Goals as goal

pub returns-in-Ok-clause-answers : goal.returns-in-Ok-clause-answers
returns-in-Ok-clause-answers g c = λ plan before after listed performs.
    told-answers plan listed before after _ _ c.in-Ok.told c.print.result (subst (Performs plan before after) c.in-Ok.is performs)
    (subst (λ text. Prints (g.K.Sink.view c.args.out.now) (g.K.Sink.view c.print.new.out) c.in-Ok.told.status text c.print.result) c.text.ensures c.print.ensures)

pub returns-in-Err-clause-answers : goal.returns-in-Err-clause-answers
returns-in-Err-clause-answers g c = λ plan before after listed performs.
    fault-answers plan listed before after _ _ c.in-Err.fault c.print_fault.result (subst (Performs plan before after) c.in-Err.is performs) c.print_fault.ensures
