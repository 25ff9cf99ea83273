use Rattle.std.proofs.Common.{◌-◌, ◌+◌, ◌≤◌, List}
use Rattle.rv_spec.specs.Tuples.{Event}
use Rattle.rv_parts.specs.Alone.{subject_of}
use Rattle.rv_parts.proofs.ShardsSeen.{IsBetween}
use Rattle.rv_parts.proofs.shards.check_shards.Given as goal

abbrev pub invariant-loop-i : goal.invariant-loop-i
invariant-loop-i g l = record {
  later : l.first + 1 ≤ l.i;
  between : (es : List Event)
      × IsBetween g.L.Lanes.lanes (subject_of l.program l.header l.output) l.count l.first (l.first + l.count - l.i) l.i l.body l.after es l.reads.lanes l.writes.lanes l.rest;
}
