-- What a worker is given, and what it gives back.
use Rattle.std.specs.Prelude.{◌≡◌, ℕ, ◌<◌, true, List, [], length, slice_index_or}
use Rattle.rv_claim.specs.declared.board.Board.{Board}
use Rattle.rv_claim.specs.declared.pass.Pass.{Pass}
use Rattle.rv_claim.specs.Views.{is_past}
use Rattle.rv_claim.specs.Passes.{IsOf, IsSame, drawn_of, deposited_of}
use Rattle.rv_claim.specs.Closing.{is_settled}

module _ {T : Type 0} where
  -- a pass of the board that drew and deposited nothing
  abbrev pub IsFresh : Board T → Pass → Type 0
  IsFresh b p = IsOf b p × (drawn_of p ≡ []) × (deposited_of p ≡ [])

  abbrev pub AreFresh : Board T → List Pass → Type 0
  AreFresh b ps = (k : ℕ) (d : Pass) → k < length ps → IsFresh b (slice_index_or ps k d)

-- the same pass, which may draw no more and has deposited what it drew below n
abbrev pub IsDone : Pass → Pass → Type 0
IsDone p q = IsSame p q × (is_past q.shards (drawn_of q) ≡ true) × is_settled q.shards (drawn_of q) (deposited_of q)

abbrev pub AreDone : List Pass → List Pass → Type 0
AreDone ps qs = (length qs ≡ length ps) × ((k : ℕ) (d : Pass) → k < length ps → IsDone (slice_index_or ps k d) (slice_index_or qs k d))
