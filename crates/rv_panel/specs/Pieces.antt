-- What a worker finds of a shard.
use Rattle.std.specs.Prelude.{◌≡◌, refl, ℕ, List, [], replicate, Some, None, Result, Ok, Err}
use Rattle.rv_base.specs.declared.record.Refusal.{Refusal}
use Rattle.rv_book.specs.declared.task.Piece.{Piece}
use Rattle.rv_spec.specs.Digest.{Lanes}
use Rattle.rv_spec.specs.Record.{Shard}
use Rattle.rv_rules.specs.Reading.{Reading}
use Rattle.rv_file.specs.Parsing.{behind_shards}
use Rattle.rv_judge.specs.declared.alone.ShardSeen.{ShardSeen}
use Rattle.rv_judge.specs.Subject.{Subject}
use Rattle.rv_judge.specs.Alone.{read_alone}

-- a shard that was read alone: its digests and the place behind it, or its first broken check; its bytes are the file's, and are not kept
abbrev pub piece_of : ℕ → Result (Reading Shard) Refusal → Piece
piece_of i (Ok x) = record { index = i; bytes = []; reads = record { lanes = x.part.reads }; writes = record { lanes = x.part.writes }; place = x.place; fault = None }
piece_of i (Err r) =
    record { index = i; bytes = []; reads = record { lanes = replicate 16 0 }; writes = record { lanes = replicate 16 0 }; place = record { pc = 0; input = 0; output = 0 }; fault = Some r }

-- shard i of those that begin these bytes
abbrev pub shard_piece : Lanes → Subject → List ℕ → ℕ → Piece
shard_piece lanes s shards i = piece_of i (read_alone lanes s i (behind_shards i shards))

-- its index
pub shard_piece-index : (lanes : Lanes) (s : Subject) (shards : List ℕ) (i : ℕ) → (shard_piece lanes s shards i).index ≡ i
shard_piece-index lanes s shards i = go (read_alone lanes s i (behind_shards i shards))
  where
    go : (r : Result (Reading Shard) Refusal) → (piece_of i r).index ≡ i
    go (Ok x) = refl
    go (Err r) = refl

-- the piece of what was seen
abbrev pub IsPieceOf : ℕ → Result ShardSeen Refusal → Piece → Type 0
IsPieceOf i (Ok seen) p = p ≡ record { index = i; bytes = []; reads = seen.reads; writes = seen.writes; place = seen.after; fault = None }
IsPieceOf i (Err r) p =
    p ≡ record { index = i; bytes = []; reads = record { lanes = replicate 16 0 }; writes = record { lanes = replicate 16 0 }; place = record { pc = 0; input = 0; output = 0 }; fault = Some r }
