use Rattle.std.proofs.Common.{◌≤◌}
use Rattle.rv_claim.specs.Passes.{IsOf}
use Rattle.bench_board.proofs.draw_all.Given as goal

abbrev pub invariant-loop : goal.invariant-loop
invariant-loop g l = IsOf l.fn.board l.pass × (l.count ≤ l.counter)
