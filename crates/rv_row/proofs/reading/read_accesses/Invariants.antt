use Rattle.std.proofs.Common.{◌≡◌, ◌+◌, ◌*◌, map, drop}
use Rattle.std.specs.List.{range_with_len}
use Rattle.rv_rules.specs.Reading.{access_of}
use Rattle.rv_row.proofs.reading.read_accesses.Given as goal

abbrev pub invariant-loop-j : goal.invariant-loop-j
invariant-loop-j l = l.accesses.items ≡ map (λ j. access_of (drop (9 + 21 * j) l.bytes)) (range_with_len 0 l.j)
