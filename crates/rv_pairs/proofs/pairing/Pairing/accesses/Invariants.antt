use Rattle.std.proofs.Common.{◌≡◌, map, take}
use Rattle.rv_spec.specs.Tuples.{event, tuple_read, tuple_written}
use Rattle.rv_pairs.specs.Covers.{read_digest, with_tuples, written_digest}
use Rattle.rv_pairs.proofs.pairing.Pairing.accesses.Given as goal

abbrev pub invariant-loop-access : goal.invariant-loop-access
invariant-loop-access g l =
    (read_digest g.L.Lanes.lanes l.self ≡ with_tuples g.L.Lanes.lanes (read_digest g.L.Lanes.lanes l.initial.self) (map tuple_read (map (event l.step) (take l.access-index l.accesses))))
    × (written_digest g.L.Lanes.lanes l.self ≡ with_tuples g.L.Lanes.lanes (written_digest g.L.Lanes.lanes l.initial.self) (map tuple_written (map (event l.step) (take l.access-index l.accesses))))
