-- What the walk gives back, and what comes of the whole.
use Rattle.std.specs.Prelude.{ℕ, true}
use Rattle.rv_book.specs.declared.task.Piece.{Piece}
use Rattle.rv_point.specs.declared.start.ShardStart.{ShardStart}
use Rattle.rv_point.specs.Course.{IsNextStart}
use Rattle.rv_point.specs.Walk.{IsWhole}
use Rattle.rv_point.specs.WalkState.{WalkState}
use Rattle.rv_pipe.specs.declared.feeding.Fed.{Fed}
use Rattle.rv_pipe.specs.Took.{HasMade}

-- each start that a walk gives is due
abbrev pub AreStartsDue : WalkState → (ShardStart → Type 0) → Type 0
AreStartsDue w due = (given : ℕ) (s : ShardStart) → IsNextStart w.image w.input w.size w.budget given s → due s

-- the whole of the run of a walk, and as many starts pushed as it has shards
pub record HasFed (piece : ℕ → Piece) (w : WalkState) (f : Fed) : Type 0 where
  pub whole : IsWhole w f.whole
  pub took : HasMade piece true 1 f.whole.shards f.took
