use Rattle.std.proofs.Common.{◌≡◌, ◌-◌, ◌≤◌, length}
use Rattle.rv_file.specs.Parsing.{behind_shards, HoldsShards}
use Rattle.rv_parts.proofs.cutting.behind_first.Given as goal

abbrev pub invariant-loop : goal.invariant-loop
invariant-loop l = record {
  same : behind_shards (l.shards - l.counter) l.rest ≡ behind_shards l.shards l.bytes;
  holds : HoldsShards (l.shards - l.counter) l.rest;
  within : length l.rest ≤ length l.bytes;
}
