use Rattle.std.proofs.Common.{◌≡◌, ℕ, ◌<◌, ◌*◌, List, slice_index}
use Rattle.sha2.specs.Sha512.{IsRoundsAt, word_at}
use Rattle.rv_lanes.specs.Lanes.{block_of, lane, words_of}
use Rattle.rv_lanes.proofs.rounds.hash.Given as goal

abbrev pub invariant-schedule : goal.invariant-schedule
invariant-schedule l = (j : ℕ) → j < 4 → (b : List ℕ)
    → ((k : ℕ) → k < 16 → slice_index (words_of j (block_of l.fn.first l.fn.second l.fn.third)) k ≡ word_at b (8 * k))
    → IsRoundsAt b (lane j l.state) (words_of j l.w) (lane j l.v) (16 * l.turn)
