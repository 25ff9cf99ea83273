use Rattle.rv_replay.specs.Making.{HasMade}
use Rattle.rv_replay.proofs.rows.Making.make_rows.Given as goal

abbrev pub invariant-loop-done : goal.invariant-loop-done
invariant-loop-done g l = HasMade g.L.Lanes.lanes l.fn.self.hart.cells.image l.fn.self.hart.input l.first l.count l.done l.self l.pairing
