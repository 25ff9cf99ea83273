use Rattle.std.proofs.Common.{◌≡◌, ◌+◌, ◌%◌, arith, refl}
use Rattle.rv_lanes.proofs.LaneLemmas.{word-there}
use Rattle.rv_lanes.proofs.rounds.next_word.Goals as goal

pub returns-clause-value : goal.returns-clause-value
returns-clause-value c = λ j h.
    let w = c.args.w.now in
    let p = c.args.place in
    let at : p % 16 ≡ p = omega arith in
    rw (
      c.add-word.ensures j h,
      c.add-2.ensures j h,
      c.add.ensures j h,
      c.small_sigma0.ensures j h,
      c.small_sigma1.ensures j h,
      word-there j w ((p + 14) % 16),
      word-there j w ((p + 9) % 16),
      word-there j w ((p + 1) % 16),
      word-there j w (p % 16),
      at,
    ) refl
