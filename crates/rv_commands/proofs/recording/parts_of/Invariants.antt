use Rattle.std.proofs.Common.{◌≡◌, ◌++◌, take}
use Rattle.std.specs.List.{flat_map}
use Rattle.rv_commands.proofs.recording.parts_of.Given as goal

abbrev pub invariant-loop-shard : goal.invariant-loop-shard
invariant-loop-shard l = flat_map (λ part. part.now) l.parts.items ≡ l.fn.front ++ l.fn.output ++ flat_map (λ part. part.now) (take l.shard-index l.fn.shards)
