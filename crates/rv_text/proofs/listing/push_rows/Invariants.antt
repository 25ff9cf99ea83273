use Rattle.std.proofs.Common.{◌≡◌, ◌++◌, ℕ, List, take, drop, length, string_bytes}
use Rattle.std.specs.List.{flat_map, AllByRecursion}
use Rattle.rv_spec.specs.Trace.{Row}
use Rattle.rv_spec.specs.Record.{row_bytes}
use Rattle.rv_spec.specs.Grammar.{RowFits}
use Rattle.rv_text.specs.Within.{lines_within}
use Rattle.rv_text.proofs.listing.push_rows.Given as goal

abbrev pub invariant-loop-r : goal.invariant-loop-r
invariant-loop-r l =
    (rs : List Row) (tail : List ℕ) → AllByRecursion RowFits rs → length rs ≡ l.rows → l.bytes ≡ flat_map row_bytes rs ++ tail
    → (l.rest ≡ flat_map row_bytes (drop l.r rs) ++ tail) × (string_bytes l.text ≡ string_bytes l.fn.text ++ lines_within l.version l.from l.until l.first (take l.r rs))
