use Rattle.std.proofs.Common.{◌≡◌, drop}
use Rattle.rv_rowcheck.proofs.InOnePass.{agree}
use Rattle.rv_rowcheck.proofs.agreeing.all_agree.Given as goal

-- the pairs so far agree, so those that are left decide
abbrev pub invariant-loop-access : goal.invariant-loop-access
invariant-loop-access l = agree l.step (drop l.access-index l.accesses) l.left ≡ agree l.step l.accesses l.touches
