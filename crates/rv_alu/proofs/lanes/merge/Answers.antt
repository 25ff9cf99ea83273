use Rattle.std.proofs.Common.{arith}
use Rattle.rv_alu.proofs.ByteLanes.{merge-word}
use Rattle.rv_alu.proofs.lanes.merge.Goals as goal

pub returns-in-W : goal.returns-in-W
returns-in-W c =
    rw c.in-W.is (merge-word c.args.word c.args.lane c.args.value (omega (arith, rw c.in-W.is at c.requires)) c.ranges.value.fits)
