use Rattle.std.proofs.Common.{refl, sym}
use Rattle.sha2.proofs.Schedule512.{rounds_first}
use Rattle.rv_lanes.specs.Lanes.{lane, words_of}
use Rattle.rv_lanes.proofs.LaneLemmas.{word-there}
use Rattle.rv_lanes.proofs.rounds.first_step.Goals as goal

pub returns : goal.returns
returns c = λ j l b h window held.
    rounds_first b h (words_of j c.args.w.now) (lane j c.args.v) c.args.t _ _ _ c.requires window held refl (sym (word-there j c.args.w.now c.args.t)) (c.round.ensures j l)
