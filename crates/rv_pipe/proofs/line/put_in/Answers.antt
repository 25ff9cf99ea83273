use Rattle.std.proofs.Common.{sym, ap, ◌∙◌, subst, arith}
use Rattle.rv_point.specs.declared.start.ShardStart.{ShardStart}
use Rattle.rv_pipe.specs.declared.view.Hand.{Hand}
use Rattle.rv_pipe.proofs.Moves.{pushes}
use Rattle.rv_pipe.proofs.line.put_in.Goals as goal

pub push_as-requires-clause-rule : goal.push_as-requires-clause-rule
push_as-requires-clause-rule g c =
    let l = c.loop.invariant in (
      pushes _ _ _ _ _ _ (ap (λ (v : Hand). v.walks) l.1 ∙ c.requires.walks.0) (omega (arith, ap (λ (v : Hand). v.parts) l.1, c.requires.walks.1))
          (ap (λ (s : ShardStart). s.index) l.2 ∙ c.requires.next.0 ∙ sym (ap (λ (v : Hand). v.pushed) l.1)) (subst g.J.Run.due (sym l.2) c.requires.next.1) c.requires.waiting,
      λ items views k at. tt,
    )
