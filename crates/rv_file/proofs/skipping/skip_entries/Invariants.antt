use Rattle.std.proofs.Common.{◌≡◌, ◌-◌, None}
use Rattle.rv_file.specs.Skipping.{entries_left}
use Rattle.rv_file.proofs.skipping.skip_entries.Given as goal

abbrev pub invariant-loop-j : goal.invariant-loop-j
invariant-loop-j l = entries_left (l.count - l.j) l.h l.j l.before l.rest ≡ entries_left l.count l.h 0 None l.bytes
