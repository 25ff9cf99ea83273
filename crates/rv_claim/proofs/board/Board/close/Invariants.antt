use Rattle.std.proofs.Common.{◌≡◌, ℕ, ◌<◌, ◌≤◌, true, false, map}
use Rattle.std.specs.Prelude.{slice_index_or}
use Rattle.std.specs.Slots.{slots_items, slots_filled, slots_len}
use Rattle.rv_book.specs.Journal.{pieces_of}
use Rattle.rv_claim.specs.Passes.{deposited_of}
use Rattle.rv_claim.specs.Closing.{closing}
use Rattle.rv_claim.proofs.board.Board.close.Given as goal

abbrev pub invariant-loop-i : goal.invariant-loop-i
invariant-loop-i g l =
    (slots_items l.closed.slots ≡ slots_items l.initial.closed.slots)
    × (slots_len l.closed.slots ≡ l.fn.self.shards)
    × ((k : ℕ) → l.i ≤ k → k < l.fn.self.shards → slice_index_or (slots_filled l.closed.slots) k false ≡ true)
    × ((k : ℕ) → k < l.i → slice_index_or (slots_filled l.closed.slots) k false ≡ false)
    × (l.book ≡ record { pieces = pieces_of (g.T.Task.piece l.fn.task) l.fn.self.shards; journal = closing (map deposited_of l.fn.passes.items) l.i })
