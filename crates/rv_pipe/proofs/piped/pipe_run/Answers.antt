use Rattle.std.proofs.Common.{rules, ◌≡◌, ◌+◌, ◌-◌, true, false, map, ap, ◌∙◌, subst, arith}
use Rattle.std.specs.List.{range_with_len}
use Rattle.crossbeam_queue.specs.Passes.{view}
use Rattle.rv_base.specs.declared.limits.TheConstants.{WORKERS_LIMIT}
use Rattle.rv_pipe.specs.declared.view.Hand.{Hand}
use Rattle.rv_pipe.specs.Made.{HasFed}
use Rattle.rv_pipe.specs.Took.{HasMade}
use Rattle.rv_pipe.specs.Whole.{HasAll}
use Rattle.rv_pipe.proofs.Moves.{forks-whole}
use Rattle.rv_pipe.proofs.Taking.{makes-own}
use Rattle.rv_pipe.proofs.piped.pipe_run.Goals as goal

pub another-rest-requires-clause-rule : goal.another-rest-requires-clause-rule
another-rest-requires-clause-rule g c = forks-whole _ _ _ _ (search rules)

pub drain-requires-clause-made : goal.drain-requires-clause-made
drain-requires-clause-made g c κs within =
    let piece = g.P.Maker.piece c.args.maker.now in
    let n = c.in_ok-whole.field-0.whole.shards in
    let fed : HasFed piece (g.W.Walking.state c.args.walk) c.in_ok-whole.field-0 = search rules in
    let theirs : HasMade piece false (WORKERS_LIMIT - 1) 0 c.in_ok-made.field-0 = search rules in
    let all : 1 + (WORKERS_LIMIT - 1) ≡ WORKERS_LIMIT = omega arith in
    makes-own piece true WORKERS_LIMIT n _ _ (subst (λ m. HasMade piece true m n c.in_ok-took.took) all (c.in_ok-took.ensures.made piece true 1 (WORKERS_LIMIT - 1) n fed.took theirs))

pub returns-clause-pieces : goal.returns-clause-pieces
returns-clause-pieces g c =
    let piece = g.P.Maker.piece c.args.maker.now in
    let n = c.in_ok-whole.field-0.whole.shards in
    let fed : HasFed piece (g.W.Walking.state c.args.walk) c.in_ok-whole.field-0 = search rules in
    let theirs : HasMade piece false (WORKERS_LIMIT - 1) 0 c.in_ok-made.field-0 = search rules in
    let made = c.in_ok-took.ensures.made piece true 1 (WORKERS_LIMIT - 1) n fed.took theirs in
    let all : HasAll piece (view c.in_ok-took.took.pass).pushed c.in_ok-pieces.pieces.items = c.in_ok-pieces.ensures in
    c.sort_pieces.ensures piece (view c.in_ok-took.took.pass).pushed all.0 all.1 c.requires.index all.2 ∙ ap (λ m. map piece (range_with_len 0 m)) (ap (λ (v : Hand). v.pushed) made.known)
