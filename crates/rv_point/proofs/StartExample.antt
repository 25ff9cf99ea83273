-- The start of a shard of the first worked program, whose previous times lie in the shards before it.
use Rattle.std.proofs.Common.{◌≡◌, [], ◌∷◌, refl}
use Rattle.rv_spec.specs.Elf.{image}
use Rattle.rv_spec.proofs.Computes.{computes}
use Rattle.rv_spec.proofs.RecordExample.{elf}
use Rattle.rv_rules.proofs.Computes.{judges}
use Rattle.rv_point.specs.Start.{steps_from, shard_start}

third-start : shard_start (image 1 elf) [] 1 2 ≡ record { index = 2; rows = 1; step = 2; place = record { pc = 0x10008; input = 0; output = 0 }; cells = record { cell = 0x4002; value = 0x73; time = 0 } ∷ record { cell = 0x4000000A; value = 42; time = 7 } ∷ record { cell = 0x40000011; value = 93; time = 23 } ∷ [] }
unfolding computes judges steps_from
third-start = refl
