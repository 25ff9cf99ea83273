use Rattle.std.proofs.Common.{◌+◌, ◌*◌, length, map}
use Rattle.std.specs.List.{range_with_len}
use Rattle.rv_spec.specs.Elf.{header_at, headers_at}
use Rattle.rv_elf.specs.Segments.{IsScan}
use Rattle.rv_elf.proofs.scan.Scan.of.Given as goal

abbrev pub invariant-loop-i : goal.invariant-loop-i
invariant-loop-i l = IsScan (length l.file) (map (λ i. header_at l.file (headers_at l.file + 32 * i)) (range_with_len 0 l.i)) l.scan
