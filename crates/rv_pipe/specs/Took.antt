-- What a worker knows and has made.
use Rattle.std.specs.Prelude.{◌≡◌, ℕ, Bool, List, map}
use Rattle.crossbeam_queue.specs.Passes.{view}
use Rattle.rv_book.specs.declared.task.Piece.{Piece}
use Rattle.rv_pipe.specs.declared.view.Hand.{Hand}
use Rattle.rv_pipe.specs.declared.working.Took.{Took}
use Rattle.rv_pipe.specs.Hands.{hand}

-- the pieces of the indices that were taken, in their order
pub record Makes (piece : ℕ → Piece) (walks : Bool) (parts pushed : ℕ) (v : Hand) (ps : List Piece) : Type 0 where
  pub known : v ≡ hand walks parts pushed v.taken
  pub made : ps ≡ map piece v.taken

abbrev pub HasMade : (ℕ → Piece) → Bool → ℕ → ℕ → Took → Type 0
HasMade piece walks parts pushed t = Makes piece walks parts pushed (view t.pass) t.pieces.items
