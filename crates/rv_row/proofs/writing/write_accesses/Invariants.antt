use Rattle.std.proofs.Common.{◌≡◌, ◌+◌, ◌*◌, ◌++◌, take}
use Rattle.std.specs.List.{flat_map}
use Rattle.rv_spec.specs.Record.{access_bytes}
use Rattle.rv_row.proofs.writing.write_accesses.Given as goal

abbrev pub invariant-loop-j : goal.invariant-loop-j
invariant-loop-j l = take (9 + 21 * l.j) l.bytes ≡ take 9 l.initial.bytes ++ flat_map access_bytes (take l.j l.accesses)
