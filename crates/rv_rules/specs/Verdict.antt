-- The verdict on a record file.
use Rattle.std.specs.Prelude.{ℕ, false, true, List, [], Result, Ok, Err}
use Rattle.rv_base.specs.declared.record.Refusal.{Refusal}
use Rattle.rv_base.specs.declared.record.Verdict.{Verdict}
use Rattle.rv_base.specs.declared.record.Verdict.TheVariants.{Accept, Refuse}
use Rattle.rv_spec.specs.Digest.{Lanes}
use Rattle.rv_spec.specs.Record.{Parts}
use Rattle.rv_rules.specs.Sums.{tiny_lanes}
use Rattle.rv_rules.specs.Reading.{read_file}

-- the parts of a file of good form, or the first check of form that is broken
abbrev pub parse : List ℕ → Result Parts Refusal
parse file = read_file false tiny_lanes [] [] file

-- the parts of a file for a program and an input, or the first check that is broken
abbrev pub judge : Lanes → List ℕ → List ℕ → List ℕ → Result Parts Refusal
judge lanes elf input file = read_file true lanes elf input file

abbrev pub verdict_of : Result Parts Refusal → Verdict
verdict_of (Ok p) = Accept p.header.steps p.header.shards p.header.end
verdict_of (Err r) = Refuse r

-- the verdict on a file, for a program and an input
abbrev pub verdict : Lanes → List ℕ → List ℕ → List ℕ → Verdict
verdict lanes elf input file = verdict_of (judge lanes elf input file)
