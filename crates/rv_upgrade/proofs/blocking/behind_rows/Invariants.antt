use Rattle.std.proofs.Common.{◌≡◌, ◌≤◌, ◌++◌, ℕ, List, drop, length}
use Rattle.std.specs.List.{flat_map, AllByRecursion}
use Rattle.rv_spec.specs.Trace.{Row}
use Rattle.rv_spec.specs.Record.{row_bytes}
use Rattle.rv_spec.specs.Grammar.{RowFits}
use Rattle.rv_upgrade.proofs.blocking.behind_rows.Given as goal

abbrev pub invariant-loop : goal.invariant-loop
invariant-loop l =
    (rs : List Row) (tail : List ℕ) → AllByRecursion RowFits rs → l.rows ≤ length rs → l.bytes ≡ flat_map row_bytes rs ++ tail
    → l.rest ≡ flat_map row_bytes (drop l.counter rs) ++ tail
