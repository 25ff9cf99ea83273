-- What clauses say of passes and boards.
use Rattle.std.specs.Prelude.{◌≡◌, ℕ, List, [], ◌<◌, length, slice_index_or}
use Rattle.rv_claim.specs.declared.board.Board.{Board}
use Rattle.rv_claim.specs.declared.pass.Pass.{Pass}
use Rattle.rv_book.specs.declared.event.BoardEvent.{BoardEvent}
use Rattle.rv_claim.specs.History.{Happens}

abbrev pub number_of : Pass → ℕ
number_of p = p.number

abbrev pub drawn_of : Pass → List ℕ
drawn_of p = p.seat.me.0.own.drawn

abbrev pub deposited_of : Pass → List ℕ
deposited_of p = p.seat.me.0.own.deposited

-- the events on the board up to the pass's last one
abbrev pub history_of : Pass → List BoardEvent
history_of p = p.seat.me.0.own.seen

-- an event of a pass, between two times
abbrev pub Happened : ℕ → Pass → BoardEvent → Pass → Type 0
Happened n p e q = Happens n p.seat.me.0.own e q.seat.me.0.own

-- the same pass, at another time
abbrev pub IsSame : Pass → Pass → Type 0
IsSame p q = (q.number ≡ p.number) × (q.seat.table_id ≡ p.seat.table_id) × (q.shards ≡ p.shards) × (q.workers ≡ p.workers)

module _ {T : Type 0} where
  abbrev pub shards_of : Board T → ℕ
  shards_of b = b.shards

  abbrev pub task_of : Board T → T
  task_of b = b.table.shared.key.2.value

  abbrev pub workers_of : Board T → ℕ
  workers_of b = b.workers

  -- the pass is of this board
  abbrev pub IsOf : Board T → Pass → Type 0
  IsOf b p = (p.seat.table_id ≡ b.table.shared.table_id) × (p.shards ≡ b.shards) × (p.workers ≡ b.workers)

  abbrev pub IsNew : Board T → ℕ → Pass → Type 0
  IsNew b k p = IsOf b p × (number_of p ≡ k) × (drawn_of p ≡ []) × (deposited_of p ≡ []) × (history_of p ≡ [])

  -- the passes of a board that was just opened, in order of number
  abbrev pub AreNew : Board T → List Pass → Type 0
  AreNew b ps = (length ps ≡ workers_of b) × ((k : ℕ) (d : Pass) → k < length ps → IsNew b k (slice_index_or ps k d))
