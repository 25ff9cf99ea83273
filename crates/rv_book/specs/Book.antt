-- What the fields of a book keep.
use Rattle.std.specs.Prelude.{◌≡◌, ℕ, ◌<◌, ◌≤◌, Bool, true, false, cond, List, Option, Some, None, length, count_by, slice_get}
use Rattle.rv_book.specs.declared.entry.Entry.{Entry}
use Rattle.rv_book.specs.declared.task.Piece.{Piece}
use Rattle.rv_book.specs.Journal.{is_entered, named_once, total_of, read_lanes, write_lanes}

abbrev pub is_full : Option Piece → Bool
is_full None = false
is_full (Some p) = true

-- The slots of the journal's indices have the task's pieces, all others are empty, and the sums are those of the journal.
pub record RepresentsBook (pieces : List Piece) (slots_of : List (Option Piece)) (journal : List Entry) (read_sum write_sum : List ℕ) : Type 0 where
  pub long : length slots_of ≡ length pieces
  pub slots : (i : ℕ) → i < length pieces → slice_get slots_of i ≡ Some (cond (is_entered i journal) (slice_get pieces i) None)
  pub within : (i : ℕ) → length pieces ≤ i → is_entered i journal ≡ false
  pub count : count_by is_full slots_of ≡ length journal
  pub once : named_once journal ≡ true
  pub reads : read_sum ≡ total_of read_lanes pieces journal
  pub writes : write_sum ≡ total_of write_lanes pieces journal
