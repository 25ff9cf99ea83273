use Rattle.rv_judge.proofs.pieces.Judge.new.Goals as goal

pub invariant_of-result : goal.invariant_of-result
invariant_of-result g c = c.opened-state.ensures.is g.L.Lanes.lanes
