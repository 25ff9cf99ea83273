-- The piece that the replay of a shard gives.
use Rattle.std.specs.Prelude.{◌+◌, ◌*◌, ℕ, List, None}
use Rattle.rv_spec.specs.Elf.{Image}
use Rattle.rv_spec.specs.Digest.{Lanes}
use Rattle.rv_spec.specs.Record.{place_at, shard_bytes, shard_of}
use Rattle.rv_book.specs.declared.task.Piece.{Piece}
use Rattle.rv_point.specs.Start as point
use Rattle.rv_point.specs.Start.{steps_from}

-- a piece as the definitions know it
abbrev pub piece_view : Piece → point.Piece
piece_view p = record { index = p.index; bytes = p.bytes; reads = p.reads.lanes; writes = p.writes.lanes; place = p.place; fault = p.fault }

-- the piece of n rows from step k on, as shard number j
abbrev pub piece_of : Lanes → Image → List ℕ → ℕ → ℕ → ℕ → Piece
piece_of lanes i input j k n =
    let s = shard_of lanes i input j k n in
    record { index = j; bytes = shard_bytes s; reads = record { lanes = s.reads }; writes = record { lanes = s.writes }; place = place_at i input (k + n); fault = None }

-- the piece of shard j of a run in shards of a size
abbrev pub shard_piece : Lanes → Image → List ℕ → ℕ → ℕ → Piece
shard_piece lanes i input size j = piece_of lanes i input j (j * size) (steps_from i input (j * size) size)
