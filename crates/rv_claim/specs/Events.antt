-- Each kind of step of the running board, with the event of the board's definition that it is.
use Rattle.std.specs.Prelude.{◌≡◌, ℕ, suc, ◌+◌, ◌%◌, ◌^◌, ◌<◌, false, List, [], ◌∷◌, ◌++◌, Option, Some, None, IsTrue, length, slice_index, slice_set}
use mathlib.Core.Option.{some, none}
use lib.ListN.{get_elem?}
use Rattle.atomic_table.specs.Table.{Step, Act, Valid, step, stepped, carried_after}
use Rattle.rv_book.specs.declared.event.BoardEvent.{BoardEvent}
use Rattle.rv_book.specs.declared.event.BoardEvent.TheVariants.{Claim, Deposit as Deposits}
use Rattle.rv_book.specs.declared.task.Piece.{Piece}
use Rattle.rv_book.specs.Board.{Board, permitted, board_after}
use Rattle.rv_claim.specs.declared.view.Deposit.{Deposit}
use Rattle.rv_claim.specs.declared.view.Lists.{Lists}
use Rattle.rv_claim.specs.declared.view.View.{View}
use Rattle.rv_claim.specs.Views.{pass_view, home_view, spent_view, fresh, with_one_more, with_gathered, is_past}
use Rattle.rv_claim.specs.Rule.{Ruled}
use Rattle.rv_claim.specs.History.{TableState, SeatState, Shows}
use Rattle.rv_claim.specs.Kinds.{IsDraw, IsOpening, IsFilling}

-- One fetch_add of 1 on a word leads from a state to another: a step of the table by the seat of this number, of a kind that tells `tells`.
pub record Adds (tells : Step (Option Deposit) → SeatState → ℕ → SeatState → Type 0) (word seat : ℕ) (me : SeatState) (s t : TableState) : Type 0 where
  pub at : get_elem? s.views seat ≡ some me.0
  pub view : View
  pub act : Act (Option Deposit)
  pub valid : Valid s.homes me.1 act
  pub after : t ≡ stepped s word ((slice_index s.words word + 1) % 2 ^ 64) seat me.1 view act
  pub told : tells (step (length s.homes) word 1 0 none) me (slice_index s.words word) (view, carried_after me.1 act)

-- home's seat makes a pass, which gets a new seat
pub record Splits (made : ℕ) (ls : List Lists) (s t : TableState) : Type 0 where
  pub at : get_elem? s.views 0 ≡ some (home_view made ls)
  pub after : t ≡ record { words = s.words; homes = s.homes; views = slice_set s.views 0 (with_one_more (home_view made ls)) ++ pass_view (fresh made) ∷ [] }

-- home's seat gathers the pass of another seat
pub record Joins (made : ℕ) (ls : List Lists) (other : ℕ) (l : Lists) (s t : TableState) : Type 0 where
  pub at : get_elem? s.views 0 ≡ some (home_view made ls)
  pub apart : ¬ (other ≡ 0)
  pub there : get_elem? s.views other ≡ some (pass_view l)
  pub after : t ≡ record { words = s.words; homes = s.homes; views = slice_set (slice_set s.views 0 (with_gathered (home_view made ls) (pass_view l))) other spent_view }

-- the step is this event: permitted on each board that the first state shows, and it leads to one that the second shows
abbrev pub IsEvent : ℕ → ℕ → BoardEvent → TableState → TableState → Type 0
IsEvent n workers e s t = (b : Board) → Shows workers s b → IsTrue (permitted n b e) × Shows workers t (board_after b e)

-- the step is no event
abbrev pub IsNoEvent : ℕ → TableState → TableState → Type 0
IsNoEvent workers s t = (b : Board) → Shows workers s b → Shows workers t b

-- each kind of step between two states
pub record EachKind (n workers : ℕ) (s t : TableState) : Type 0 where
  pub claims : (seat : ℕ) (l : Lists) → is_past n l.drawn ≡ false → Adds IsDraw 0 seat (pass_view l, []) s t → IsEvent n workers (Claim l.number) s t
  pub opens : (seat i : ℕ) (l : Lists) → l.pending ≡ None → Adds IsOpening (suc i) seat (pass_view l, []) s t → IsNoEvent workers s t
  pub fills : (seat i : ℕ) (l : Lists) (kept : Option Deposit) → l.pending ≡ Some i → i < n → Adds IsFilling (suc i) seat (pass_view l, (i, kept) ∷ []) s t → IsEvent n workers (Deposits l.number i) s t
  pub splits : (made : ℕ) (ls : List Lists) → made < workers → Splits made ls s t → IsNoEvent workers s t
  pub joins : (made other : ℕ) (ls : List Lists) (l : Lists) → Joins made ls other l s t → IsNoEvent workers s t

-- From each state that keeps the rule, a claim is the event Claim of its pass, a filling is the event Deposit of its pass and index, and the
-- other kinds of step are no events.
abbrev pub StepsAreEvents : Type 0
StepsAreEvents = (piece : ℕ → Piece) (n workers : ℕ) (s t : TableState) → Ruled piece n workers s → EachKind n workers s t
