use Rattle.std.proofs.Common.{◌≡◌, ◌+◌, ◌<◌, ◌^◌, ◌++◌, take, drop, sum_by}
use Rattle.std.specs.List.{AllByRecursion}
use Rattle.rv_elf.specs.Written.{AreWords, header_table}
use Rattle.rv_elf.proofs.writer.put_table.Given as goal

abbrev pub invariant-loop-part : goal.invariant-loop-part
invariant-loop-part l = record {
  room : l.offset + sum_by (λ p. p.len) (drop l.part-index l.parts) < 2 ^ 32;
  left : l.file.items ++ header_table l.offset (drop l.part-index l.parts) ≡ l.initial.file.items ++ header_table l.initial.offset l.parts;
  ranges : AllByRecursion AreWords (take l.part-index l.parts);
}
