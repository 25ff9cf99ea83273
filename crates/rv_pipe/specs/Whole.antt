-- What comes of a pipe.
use Rattle.std.specs.Prelude.{◌≡◌, ℕ, List, None, map, nat_lt}
use Rattle.std.specs.List.{range_with_len}
use Rattle.rv_spec.specs.Elf.{Image}
use Rattle.rv_spec.specs.Digest.{Lanes}
use Rattle.rv_book.specs.BoardLaws.{one, times}
use Rattle.rv_book.specs.declared.task.Piece.{Piece}
use Rattle.rv_point.specs.Walk.{IsWhole}
use Rattle.rv_point.specs.WalkState.{WalkState}
use Rattle.rv_replay.specs.Piece.{shard_piece}
use Rattle.rv_pipe.specs.declared.piped.Piped.{Piped}

-- the pieces of the indices below n, each once, in some order
abbrev pub HasAll : (ℕ → Piece) → ℕ → List Piece → Type 0
HasAll piece n pieces = (taken : List ℕ) × (pieces ≡ map piece taken) × ((x : ℕ) → times x taken ≡ one (nat_lt x n))

-- the walk over a run that gave nothing
abbrev pub opened_walk : Image → List ℕ → ℕ → ℕ → WalkState
opened_walk i input size budget = record { image = i; input = input; size = size; budget = budget; given = 0; ended = None; fault = None }

-- the whole of the run, and the pieces of all its shards, in order
pub record IsPiped (lanes : Lanes) (i : Image) (input : List ℕ) (size budget : ℕ) (p : Piped) : Type 0 where
  pub whole : IsWhole (opened_walk i input size budget) p.whole
  pub pieces : p.pieces ≡ map (shard_piece lanes i input size) (range_with_len 0 p.whole.shards)
