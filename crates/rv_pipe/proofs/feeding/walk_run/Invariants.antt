use Rattle.std.proofs.Common.{◌≡◌, true}
use Rattle.crossbeam_queue.specs.Passes.{view, IsPassOf}
use Rattle.rv_point.specs.Walk.{IsSameWalk}
use Rattle.rv_pipe.specs.Took.{Makes}
use Rattle.rv_pipe.proofs.feeding.walk_run.Given as goal

abbrev pub invariant-loop : goal.invariant-loop
invariant-loop g l =
    IsSameWalk (g.W.Walking.state l.fn.walk) (g.W.Walking.state l.walk) × ((g.W.Walking.state l.walk).given ≡ l.given)
    × IsPassOf l.line l.pass × Makes (g.P.Maker.piece l.maker) true 1 l.given (view l.pass) l.pieces.items
