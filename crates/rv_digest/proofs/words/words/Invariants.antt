use Rattle.std.proofs.Common.{◌≡◌, length, take}
use Rattle.rv_digest.proofs.Numbers.{numbers}
use Rattle.rv_digest.proofs.words.words.Given as goal

abbrev pub invariant-loop-i : goal.invariant-loop-i
invariant-loop-i g l = (length l.words ≡ g.row.N) × (take l.i l.words ≡ numbers l.bytes l.i)
