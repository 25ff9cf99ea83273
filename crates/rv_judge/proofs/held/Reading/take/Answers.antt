use Rattle.std.proofs.Common.{◌∙◌, ◌<◌, length, ap, arith}
use Rattle.arrayvec.specs.ArrayVec.{array_vec_len}
use Rattle.rv_judge.specs.Phases.{phase_of}
use Rattle.rv_judge.proofs.WholeFile.{few}
use Rattle.rv_judge.proofs.held.Reading.take.Goals as goal

pub kept-bytes-requires : goal.kept-bytes-requires
kept-bytes-requires g c =
    let x = c.args.self.now in
    omega (arith, few g.L.Lanes.lanes x.subject (phase_of g.L.Lanes.lanes x.machine) x.buffer.items c.requires.waits, ap length c.as_slice.ensures.value)

pub push-requires : goal.push-requires
push-requires g c =
    let x = c.args.self.now in
    let room : array_vec_len c.kept-bytes.result < 256 =
    omega (arith, few g.L.Lanes.lanes x.subject (phase_of g.L.Lanes.lanes x.machine) x.buffer.items c.requires.waits, ap length (c.kept-bytes.ensures ∙ c.as_slice.ensures.value)) in
    (omega arith, room)
