use Rattle.std.proofs.Common.{◌≡◌, ◌≤◌, ◌<◌, ◌-◌, ◌++◌, drop}
use Rattle.std.specs.List.{flat_map}
use Rattle.rv_spec.specs.Record.{shard_bytes, table_bytes}
use Rattle.rv_upgrade.proofs.blocking.last_shard.Given as goal

abbrev pub invariant-loop : goal.invariant-loop
invariant-loop l = record {
  some : 0 < l.counter;
  within : l.counter ≤ l.parsed.header.shards;
  left : l.rest ≡ flat_map shard_bytes (drop (l.counter - 1) l.parsed.shards) ++ table_bytes l.parsed.table;
}
