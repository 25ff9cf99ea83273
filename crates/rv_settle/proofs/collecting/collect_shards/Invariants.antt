use Rattle.std.proofs.Common.{◌≡◌, ℕ, ◌*◌, ◌≤◌, List, ◌++◌, drop}
use Rattle.std.specs.List.{flat_map}
use Rattle.rv_spec.specs.Record.{Shard, shard_bytes}
use Rattle.rv_settle.specs.Spelled.{SpellShards}
use Rattle.rv_settle.proofs.Gaining.{IsBehind}
use Rattle.rv_settle.proofs.collecting.collect_shards.Given as goal

abbrev pub invariant-loop-shard : goal.invariant-loop-shard
invariant-loop-shard l = record {
  bound : l.step ≤ l.shard * 65536;
  behind : (ss : List Shard) (tail : List ℕ) → SpellShards l.h ss l.bytes tail
      → (l.rest ≡ flat_map shard_bytes (drop l.shard ss) ++ tail) × IsBehind l.fn.tuples l.tuples l.step l.shard ss;
}
