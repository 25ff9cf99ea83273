use Rattle.std.proofs.Common.{◌≡◌, ◌++◌, take, drop, string_bytes}
use Rattle.std.specs.List.{flat_map}
use Rattle.rv_spec.specs.Record.{shard_bytes, table_bytes}
use Rattle.rv_text.specs.Within.{lines_within}
use Rattle.rv_text.proofs.Shards.{rows_in}
use Rattle.rv_text.proofs.listing.lines_of.Given as goal

abbrev pub invariant-loop-i : goal.invariant-loop-i
invariant-loop-i l = record {
  written : string_bytes l.text ≡ lines_within l.parsed.header.version l.from l.until 0 (rows_in (take l.i l.parsed.shards));
  left : l.rest ≡ flat_map shard_bytes (drop l.i l.parsed.shards) ++ table_bytes l.parsed.table;
}
