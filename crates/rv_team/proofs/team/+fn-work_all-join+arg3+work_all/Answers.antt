use Rattle.std.proofs.Common.{rules}
use Rattle.std.proofs.lemmas.Result.{IfOk-weaker}
use Rattle.rv_team.specs.Work.{AreDone, IsDone}
use Rattle.rv_team.proofs.Working.{done-more}
use Rattle.rv_team.proofs.team.+fn-work_all-join+arg3+work_all.Goals as goal

pub returns : goal.returns
returns g t c =
    let rest : AreDone c.pop.new.self.items c.in_ok-others.field-0.items = search rules in
    let last : IsDone c.in-Some.last c.in_ok-last-2.field-0 = search rules in
    IfOk-weaker c.put_behind-2.result _ _ (λ all behind. done-more c.args.passes.items c.pop.new.self.items c.in-Some.last c.in_ok-last-2.field-0 all.items c.in_ok-others.field-0.items c.in-Some.ensures.items rest last behind) c.put_behind-2.ensures
