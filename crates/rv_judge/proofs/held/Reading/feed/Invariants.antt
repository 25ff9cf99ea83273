use Rattle.std.proofs.Common.{◌++◌, take}
use Rattle.rv_judge.specs.Held.{ReadOn}
use Rattle.rv_judge.proofs.held.Reading.feed.Given as goal

abbrev pub invariant-loop-at : goal.invariant-loop-at
invariant-loop-at g l = ReadOn g.L.Lanes.lanes l.initial.self l.self (l.initial.self.buffer.items ++ take l.at l.piece)
