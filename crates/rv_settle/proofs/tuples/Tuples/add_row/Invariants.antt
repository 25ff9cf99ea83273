use Rattle.std.proofs.Common.{map, take}
use Rattle.rv_spec.specs.Tuples.{event}
use Rattle.rv_settle.specs.Collecting.{GainsEvents}
use Rattle.rv_settle.proofs.tuples.Tuples.add_row.Given as goal

abbrev pub invariant-loop-access : goal.invariant-loop-access
invariant-loop-access l = GainsEvents l.fn.self l.self (map (event l.step) (take l.access-index l.accesses))
