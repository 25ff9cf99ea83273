use Rattle.std.proofs.Common.{◌≡◌, ◌≤◌, ◌++◌, ℕ, List, take, drop, length}
use Rattle.std.specs.List.{flat_map, AllByRecursion}
use Rattle.rv_spec.specs.Trace.{Row}
use Rattle.rv_spec.specs.Record.{row_bytes}
use Rattle.rv_spec.specs.Grammar.{RowFits}
use Rattle.rv_query.specs.Accesses.{numbered}
use Rattle.rv_query.specs.Following.{GoPast}
use Rattle.rv_query.proofs.following.follow_rows.Given as goal

abbrev pub invariant-loop-row : goal.invariant-loop-row
invariant-loop-row l =
    (rs : List Row) (tail : List ℕ) → AllByRecursion RowFits rs → l.rows ≤ length rs → l.bytes ≡ flat_map row_bytes rs ++ tail
    → (l.rest ≡ flat_map row_bytes (drop l.row rs) ++ tail) × GoPast l.first l.until l.fn.trails l.trails (numbered l.step (take l.row rs))
