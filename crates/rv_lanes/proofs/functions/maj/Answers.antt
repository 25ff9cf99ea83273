use Rattle.std.specs.Prelude.{slice_index}
use Rattle.rv_lanes.proofs.ChMaj.{maj-short}
use Rattle.rv_lanes.proofs.functions.maj.Goals as goal

pub returns : goal.returns
returns c = λ j l.
    rw (c.xor-3.ensures j l, c.and.ensures j l, c.xor.ensures j l, c.xor-2.ensures j l)
    (maj-short (slice_index c.args.x j) (slice_index c.args.y j) (slice_index c.args.z j))
