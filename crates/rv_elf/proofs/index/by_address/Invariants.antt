use Rattle.std.proofs.Common.{◌≤◌, length, map, take}
use Rattle.rv_elf.specs.Segments.{described}
use Rattle.rv_elf.specs.Index.{IsIndex}
use Rattle.rv_elf.proofs.index.by_address.Given as goal

abbrev pub invariant-loop-segment : goal.invariant-loop-segment
invariant-loop-segment l = record {
  size : length l.index.items ≤ l.segment-index;
  indexed : IsIndex l.index.items (map described (take l.segment-index l.loads));
}
