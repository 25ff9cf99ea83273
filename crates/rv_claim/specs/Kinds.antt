-- What each kind of step on a word tells, of the step, the seat before, the number found and the seat after.
use Rattle.std.specs.Prelude.{◌≡◌, ℕ, ◌-◌, false, List, [], ◌∷◌, Option, None}
use Rattle.atomic_table.specs.Table.{Step}
use Rattle.rv_book.specs.declared.event.BoardEvent.{BoardEvent}
use Rattle.rv_book.specs.declared.event.BoardEvent.TheVariants.{Claim, Deposit as Deposits}
use Rattle.rv_book.specs.Board.{is_in}
use Rattle.rv_claim.specs.declared.view.Deposit.{Deposit}
use Rattle.rv_claim.specs.Views.{draws, opens, fills, with_own}
use Rattle.rv_claim.specs.History.{SeatState, Happens}

-- the pass draws the number found, which is new to it, and its claim is the event
abbrev pub IsDraw : Step (Option Deposit) → SeatState → ℕ → SeatState → Type 0
IsDraw step me found after =
    (is_in found me.0.own.drawn ≡ false)
    × ((es : List BoardEvent) × (after ≡ (with_own me.0 (draws me.0.own found es), me.1)) × Happens step.slots me.0.own (Claim me.0.own.number) (draws me.0.own found es))

-- a slot whose mark was 0 is taken, and it kept nothing
abbrev pub IsOpening : Step (Option Deposit) → SeatState → ℕ → SeatState → Type 0
IsOpening step me found after = (found ≡ 0) × (after ≡ (with_own me.0 (opens me.0.own (step.word - 1)), (step.word - 1, None) ∷ me.1))

-- a slot whose mark was 1 is given back, and the deposit of its index is the event
abbrev pub IsFilling : Step (Option Deposit) → SeatState → ℕ → SeatState → Type 0
IsFilling step me found after =
    (found ≡ 1)
    × ((es : List BoardEvent) × (after ≡ (with_own me.0 (fills me.0.own (step.word - 1) es), []))
    × Happens step.slots me.0.own (Deposits me.0.own.number (step.word - 1)) (fills me.0.own (step.word - 1) es))
