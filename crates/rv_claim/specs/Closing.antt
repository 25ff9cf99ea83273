-- What a closed board's book says.
use Rattle.std.specs.Prelude.{◌≡◌, ℕ, ◌+◌, ◌<◌, true, cond, List, [], ◌∷◌, Option, Some, None, IsTrue, length, map, slice_index_or}
use Rattle.std.specs.List.{flat_map, range_with_len}
use Rattle.rv_book.specs.declared.event.BoardEvent.{BoardEvent}
use Rattle.rv_book.specs.Board.{Board as Machine, Reaches, drawn_by, is_done, is_in}
use Rattle.rv_book.specs.BoardLaws.{times}
use Rattle.rv_book.specs.declared.entry.Entry.{Entry}
use Rattle.rv_book.specs.declared.task.Piece.{Piece}
use Rattle.rv_book.specs.Journal.{entry}
use Rattle.rv_claim.specs.declared.board.Board.{Board}
use Rattle.rv_claim.specs.declared.pass.Pass.{Pass}
use Rattle.rv_claim.specs.declared.view.Deposit.{Deposit}
use Rattle.rv_claim.specs.Views.{kept, is_past}
use Rattle.rv_claim.specs.History.{BeginsWithSeen, entries_of}
use Rattle.rv_claim.specs.Making.{own_of}
use Rattle.rv_claim.specs.Passes.{number_of, drawn_of, deposited_of, shards_of, workers_of, IsOf}

-- the pass that deposited i, of passes from number p on
abbrev pub depositor : ℕ → List (List ℕ) → ℕ → Option ℕ
depositor i [] p = None
depositor i (d ∷ ds) p = cond (is_in i d) (Some p) (depositor i ds (p + 1))

abbrev pub entry_by : Option ℕ → ℕ → List Entry
entry_by None i = []
entry_by (Some p) i = entry p i ∷ []

-- who deposited which of the first n numbers, in rising order, by the lists that the passes deposited
abbrev pub closing : List (List ℕ) → ℕ → List Entry
closing ds n = flat_map (λ i. entry_by (depositor i ds 0) i) (range_with_len 0 n)

abbrev pub slot_by : (ℕ → Piece) → Option ℕ → ℕ → Option Deposit
slot_by piece None i = None
slot_by piece (Some p) i = Some (kept p (piece i))

-- what a pass drew below n is deposited
abbrev pub is_settled : ℕ → List ℕ → List ℕ → Type 0
is_settled n drawn deposited = (i : ℕ) → i < n → is_in i drawn ≡ true → is_in i deposited ≡ true

-- each pass drew a number that is not below n
abbrev pub AreAllPast : ℕ → List Pass → Type 0
AreAllPast n ps = (k : ℕ) (d : Pass) → k < length ps → is_past n (drawn_of (slice_index_or ps k d)) ≡ true

-- There is a list of permitted events, the whole run of the board. It begins with what each pass has seen, and leads to a board with what
-- the passes drew and, in some order, the entries of what they deposited. Where each pass drew n or more, that board is done.
pub record IsRun (n workers : ℕ) (ps : List Pass) : Type 0 where
  pub events : List BoardEvent
  pub board : Machine
  pub reached : Reaches n workers events board
  pub seen : (k : ℕ) (d : Pass) → k < length ps → BeginsWithSeen events (own_of (slice_index_or ps k d))
  pub drawn : board.drawn ≡ map drawn_of ps
  pub journal : (p i : ℕ) → entries_of p i board.journal ≡ times i (drawn_by (map deposited_of ps) p)
  pub done : AreAllPast n ps → IsTrue (is_done n board)

module _ {T : Type 0} where
  -- these are all the board's passes, in order of number
  abbrev pub AreAll : Board T → List Pass → Type 0
  AreAll b ps = (length ps ≡ workers_of b) × ((k : ℕ) (d : Pass) → k < length ps → IsOf b (slice_index_or ps k d) × (number_of (slice_index_or ps k d) ≡ k))

  abbrev pub AreSettled : Board T → List Pass → Type 0
  AreSettled b ps = (k : ℕ) (d : Pass) → k < length ps → is_settled (shards_of b) (drawn_of (slice_index_or ps k d)) (deposited_of (slice_index_or ps k d))

  -- each pass drew a number that is not below the number of shards
  abbrev pub ArePast : Board T → List Pass → Type 0
  ArePast b ps = AreAllPast (shards_of b) ps

  -- the passes ended as a run of the board's machine
  abbrev pub EndsAsRun : Board T → List Pass → Type 0
  EndsAsRun b ps = IsRun (shards_of b) (workers_of b) ps
