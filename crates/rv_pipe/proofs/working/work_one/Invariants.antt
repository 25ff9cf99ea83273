use Rattle.std.proofs.Common.{false}
use Rattle.crossbeam_queue.specs.Passes.{view, IsPassOf}
use Rattle.rv_pipe.specs.Took.{Makes}
use Rattle.rv_pipe.proofs.working.work_one.Given as goal

abbrev pub invariant-loop : goal.invariant-loop
invariant-loop g l = IsPassOf l.line l.pass × Makes (g.P.Maker.piece l.maker) false (view l.fn.pass).parts 0 (view l.pass) l.pieces.items
