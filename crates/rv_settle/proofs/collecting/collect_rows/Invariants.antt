use Rattle.std.proofs.Common.{◌≡◌, ℕ, List, ◌++◌, length, take, drop}
use Rattle.std.specs.List.{flat_map}
use Rattle.rv_spec.specs.Trace.{Row}
use Rattle.rv_spec.specs.Record.{row_bytes}
use Rattle.rv_spec.specs.Tuples.{events}
use Rattle.rv_settle.specs.Collecting.{GainsEvents}
use Rattle.rv_settle.specs.Spelled.{SpellRows}
use Rattle.rv_settle.proofs.collecting.collect_rows.Given as goal

abbrev pub invariant-loop-row : goal.invariant-loop-row
invariant-loop-row l =
    (rs : List Row) (tail : List ℕ) → length rs ≡ l.rows → SpellRows rs l.bytes tail
    → (l.rest ≡ flat_map row_bytes (drop l.row rs) ++ tail) × GainsEvents l.fn.tuples l.tuples (events l.step (take l.row rs))
