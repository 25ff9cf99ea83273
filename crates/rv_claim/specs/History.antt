-- The board of the definition that a state of the table shows, and the history of events that led to it.
use Rattle.std.specs.Prelude.{◌≡◌, ℕ, ◌<◌, true, cond, List, [], ◌∷◌, ◌++◌, Option, length, sum_by, slice_index, ◌==◌}
use mathlib.Core.Option.{some}
use lib.ListN.{get_elem?}
use Rattle.atomic_table.specs.Table.{State, Me}
use Rattle.rv_book.specs.declared.event.BoardEvent.{BoardEvent}
use Rattle.rv_book.specs.declared.task.Piece.{Piece}
use Rattle.rv_book.specs.Board.{Board, Reaches, drawn_by}
use Rattle.rv_book.specs.BoardLaws.{one}
use Rattle.rv_claim.specs.declared.view.Deposit.{Deposit}
use Rattle.rv_claim.specs.declared.view.Lists.{Lists}
use Rattle.rv_claim.specs.declared.view.View.{View}
use Rattle.rv_claim.specs.Rule.{Ruled}
use Rattle.rv_claim.specs.Views.{put, put_by, numbered, total}

-- a state of the table, and what a seat knows and holds
abbrev pub TableState : Type 0
TableState = State (Option Deposit) View

abbrev pub SeatState : Type 0
SeatState = Me (Option Deposit) View

-- how often a journal has the entry of p for i
abbrev pub entries_of : ℕ → ℕ → List (ℕ × ℕ) → ℕ
entries_of p i es = sum_by (λ e. cond (e.0 == p) (one (e.1 == i)) 0) es

-- a fact of each pass that a view tells of
abbrev pub EachPass : (Lists → Type 0) → View → Type 0
EachPass P v = (v.live ≡ true → P v.own) × ((k : ℕ) (l : Lists) → get_elem? v.gathered k ≡ some l → P l)

-- the board has what the pass drew, in its order
abbrev pub DrewOn : Board → Lists → Type 0
DrewOn b l = (l.number < length b.drawn) × (drawn_by b.drawn l.number ≡ l.drawn)

-- The state shows this board: next, what each pass drew, and which entries the journal has. Their order isn't seen in a state.
pub record Shows (workers : ℕ) (s : TableState) (b : Board) : Type 0 where
  pub next : b.next ≡ slice_index s.words 0
  pub passes : length b.drawn ≡ workers
  pub drawn : (seat : ℕ) (v : View) → get_elem? s.views seat ≡ some v → EachPass (DrewOn b) v
  pub unmade : (p : ℕ) → total (numbered p) s.views ≡ 0 → drawn_by b.drawn p ≡ []
  pub journal : (p i : ℕ) → entries_of p i b.journal ≡ total (put_by p i) s.views

-- the events begin with those that a pass has seen
abbrev pub BeginsWithSeen : List BoardEvent → Lists → Type 0
BeginsWithSeen es l = (later : List BoardEvent) × (es ≡ l.seen ++ later)

-- There is one list of permitted events. It leads from the opening to the board that the state shows, and begins with what each pass has seen.
pub record History (n workers : ℕ) (s : TableState) : Type 0 where
  pub events : List BoardEvent
  pub board : Board
  pub reached : Reaches n workers events board
  pub shows : Shows workers s board
  pub seen : (seat : ℕ) (v : View) → get_elem? s.views seat ≡ some v → EachPass (BeginsWithSeen events) v

-- what holds between any two steps of the table
pub record Kept (piece : ℕ → Piece) (n workers : ℕ) (s : TableState) : Type 0 where
  pub ruled : Ruled piece n workers s
  pub history : History n workers s

-- An event of a pass, of which l was known before it and m is after it. All events so far, each permitted where it came, begin with
-- those that the pass had seen and end with this one, and lead to a board with what the pass has drawn and deposited. A step can't tell the
-- number of passes, so it is some number here.
pub record Happens (n : ℕ) (l : Lists) (e : BoardEvent) (m : Lists) : Type 0 where
  pub between : List BoardEvent
  pub seen : m.seen ≡ (l.seen ++ between) ++ e ∷ []
  pub passes : ℕ
  pub board : Board
  pub reached : Reaches n passes m.seen board
  pub drawn : DrewOn board m
  pub entered : (i : ℕ) → entries_of m.number i board.journal ≡ put i m
