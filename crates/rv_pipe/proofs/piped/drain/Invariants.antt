use Rattle.std.proofs.Common.{true}
use Rattle.crossbeam_queue.specs.Passes.{view, IsPassOf}
use Rattle.rv_base.specs.declared.limits.TheConstants.{WORKERS_LIMIT}
use Rattle.rv_pipe.specs.Took.{Makes}
use Rattle.rv_pipe.proofs.piped.drain.Given as goal

abbrev pub invariant-loop : goal.invariant-loop
invariant-loop g l = IsPassOf l.line l.pass × Makes (g.P.Maker.piece l.maker) true WORKERS_LIMIT (view l.fn.took.pass).pushed (view l.pass) l.pieces.items
