-- What a book says: the task's pieces, and a journal of those that were entered.
use Rattle.std.specs.Prelude.{◌≡◌, ℕ, ◌<◌, Bool, true, false, cond, not, ◌&&◌, List, [], ◌∷◌, ◌++◌, Option, Some, None, map, fold, replicate, slice_get, ◌==◌}
use Rattle.std.specs.List.{list_any, range_with_len}
use Rattle.rv_rules.specs.Sums.{add_lanes}
use Rattle.rv_book.specs.declared.entry.Entry.{Entry}
use Rattle.rv_book.specs.declared.entry.Deposited.{Deposited}
use Rattle.rv_book.specs.declared.entry.Deposited.TheVariants.{New, There}
use Rattle.rv_book.specs.declared.task.Piece.{Piece}

abbrev pub entry : ℕ → ℕ → Entry
entry p i = record { pass = p; index = i }

-- whether a journal names an index
abbrev pub is_entered : ℕ → List Entry → Bool
is_entered i es = list_any (λ e. e.index == i) es

abbrev pub indices : List Entry → List ℕ
indices es = map (λ e. e.index) es

-- a journal names no index twice
abbrev pub named_once : List Entry → Bool
named_once [] = true
named_once (e ∷ es) = not (is_entered e.index es) && named_once es

-- the first n pieces
abbrev pub pieces_of : (ℕ → Piece) → ℕ → List Piece
pieces_of piece n = map piece (range_with_len 0 n)

-- a book of these pieces, with what was entered
pub record BookState : Type 0 where
  pub pieces : List Piece
  pub journal : List Entry

-- the book after a pass has entered a piece
abbrev pub with_entry : BookState → ℕ → ℕ → BookState
with_entry b p i = record b { journal = b.journal ++ entry p i ∷ [] }

-- the piece of an index that is in the journal
abbrev pub piece_at : BookState → ℕ → Option Piece
piece_at b i = cond (is_entered i b.journal) (slice_get b.pieces i) None

abbrev pub zeros : List ℕ
zeros = replicate 16 0

-- the digest of a piece, and zeros for none
abbrev pub lanes_of : (Piece → List ℕ) → Option Piece → List ℕ
lanes_of f None = zeros
lanes_of f (Some p) = f p

abbrev pub lanes_at : (Piece → List ℕ) → List Piece → ℕ → List ℕ
lanes_at f ps i = lanes_of f (slice_get ps i)

-- the sum of the digests of the pieces that a journal names
abbrev pub total_of : (Piece → List ℕ) → List Piece → List Entry → List ℕ
total_of f ps es = fold (λ sum e. add_lanes sum (lanes_at f ps e.index)) zeros es

-- the sum of the digests of a list of pieces
abbrev pub sum_of : (Piece → List ℕ) → List Piece → List ℕ
sum_of f ps = fold (λ sum p. add_lanes sum (f p)) zeros ps

abbrev pub read_lanes : Piece → List ℕ
read_lanes p = p.reads.lanes

abbrev pub write_lanes : Piece → List ℕ
write_lanes p = p.writes.lanes

-- A deposit enters a new index. Of one that is in the book it answers the index, and leaves the book as it was.
abbrev pub IsDeposit : BookState → ℕ → ℕ → Deposited → BookState → Type 0
IsDeposit b p i New c = (is_entered i b.journal ≡ false) × (c ≡ with_entry b p i)
IsDeposit b p i (There k) c = (is_entered i b.journal ≡ true) × (k ≡ i) × (c ≡ b)

-- The book has each of the first n pieces, entered in rising order, and the sums of all their digests.
pub record IsWhole (piece : ℕ → Piece) (n : ℕ) (b : BookState) : Type 0 where
  pub pieces : b.pieces ≡ pieces_of piece n
  pub order : indices b.journal ≡ range_with_len 0 n
  pub each : (i : ℕ) → i < n → piece_at b i ≡ Some (piece i)
  pub reads : total_of read_lanes b.pieces b.journal ≡ sum_of read_lanes (pieces_of piece n)
  pub writes : total_of write_lanes b.pieces b.journal ≡ sum_of write_lanes (pieces_of piece n)
