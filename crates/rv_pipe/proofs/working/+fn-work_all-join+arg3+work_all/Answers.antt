use Rattle.std.proofs.Common.{rules, ◌≡◌, ◌+◌, false, ap, subst, arith}
use Rattle.std.specs.Prelude.{IfOk}
use Rattle.crossbeam_queue.specs.Passes.{view}
use Rattle.rv_pipe.specs.declared.view.Hand.{Hand}
use Rattle.rv_pipe.specs.Took.{HasMade}
use Rattle.rv_pipe.proofs.Moves.{forks}
use Rattle.rv_pipe.proofs.working.+fn-work_all-join+arg3+work_all.Goals as goal

pub another-rest-requires-clause-rule : goal.another-rest-requires-clause-rule
another-rest-requires-clause-rule g t c = forks _ _ _ _ (omega (arith, c.requires.parts, c.if-others-eq0.false))

pub returns-clause-made : goal.returns-clause-made
returns-clause-made g t c =
    let piece = g.P.Maker.piece c.args.maker.now in
    let rest = view c.another-rest.result in
    let mine : HasMade piece false 1 0 c.in_ok-mine.field-0 = search rules in
    let theirs : HasMade piece false rest.parts 0 c.in_ok-theirs.field-0 = search rules in
    let all : 1 + rest.parts ≡ (view c.args.pass).parts = omega (arith, ap (λ (v : Hand). v.parts) c.another-rest.ensures.rule.1, c.requires.parts) in
    subst (λ m. IfOk c.gather.result (HasMade piece false m 0)) all (c.gather.ensures.made piece false 1 rest.parts 0 mine theirs)
