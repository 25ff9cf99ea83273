use Rattle.std.proofs.Common.{◌≡◌, ◌-◌, ◌≤◌, length}
use Rattle.rv_file.specs.Skipping.{rows_left}
use Rattle.rv_file.proofs.skipping.skip_rows.Given as goal

abbrev pub invariant-loop-row : goal.invariant-loop-row
invariant-loop-row l = record {
  same : rows_left (l.rows - l.row) l.shard l.row l.rest ≡ rows_left l.rows l.shard 0 l.bytes;
  within : length l.rest ≤ length l.bytes;
}
