-- Outcomes of worked command lines: the record of a program of three steps, a budget that is too small, a misspelled number, and a program that writes.
use Rattle.std.proofs.Common.{◌≡◌, ℕ, List, [], ◌∷◌, ◌++◌, codes, refl}
use Rattle.rv_spec.specs.Digest.{sha_lanes}
use Rattle.rv_elf.specs.ElfFile.{elf_file}
use Rattle.rv_spec.specs.Record.{record_file}
use Rattle.rv_spec.proofs.Computes.{computes}
use Rattle.rv_spec.proofs.RecordExample.{elf}
use Rattle.rv_host.specs.Files.{Files}
use Rattle.rv_commands.specs.Lines.{made_line, ran_line}
use Rattle.rv_plan.specs.Plan.{refuses}
use Rattle.rv_trial.specs.Trials.{ends_within}
use Rattle.rv_commands.specs.Outcome.{outcome}
use Rattle.rv_plan.specs.declared.faults.Fault.TheVariants.{Words, Budget}

abbrev shelf : List ℕ → Files
shelf program = (codes "elf", program) ∷ (codes "input", []) ∷ []

abbrev make_within : List ℕ → List (List ℕ)
make_within budget = codes "make" ∷ codes "elf" ∷ codes "input" ∷ codes "record" ∷ codes "1" ∷ codes "3" ∷ budget ∷ []

made : outcome (make_within (codes "3")) (shelf elf)
    ≡ record { status = 0; text = made_line 3 1 (record { kind = 0; code = 42 }) 719; writes = (codes "record", record_file sha_lanes 1 elf [] 3 3 (record { kind = 0; code = 42 })) ∷ [] }
unfolding computes elf_file outcome ends_within
made = refl

over-budget : outcome (make_within (codes "2")) (shelf elf) ≡ refuses (Budget 2)
unfolding computes elf_file outcome ends_within
over-budget = refl

misspelled : outcome (make_within (codes "03")) (shelf elf) ≡ refuses Words
unfolding outcome
misspelled = refl

-- write(1, 0x10020, 3), and an exit with what it answers
abbrev greeting : List ℕ
greeting =
    0x13 ∷ 0x05 ∷ 0x10 ∷ 0x00 ∷ 0xB7 ∷ 0x05 ∷ 0x01 ∷ 0x00 ∷ 0x93 ∷ 0x85 ∷ 0x05 ∷ 0x02 ∷ 0x13 ∷ 0x06 ∷ 0x30 ∷ 0x00
    ∷ 0x93 ∷ 0x08 ∷ 0x00 ∷ 0x04 ∷ 0x73 ∷ 0x00 ∷ 0x00 ∷ 0x00 ∷ 0x93 ∷ 0x08 ∷ 0xD0 ∷ 0x05 ∷ 0x73 ∷ 0x00 ∷ 0x00 ∷ 0x00
    ∷ 0x68 ∷ 0x69 ∷ 0x0A ∷ []

abbrev greeter : List ℕ
greeter = elf_file 0x10000 (record { address = 0x10000; bytes = greeting; size = 35 } ∷ [])

ran : outcome (codes "run" ∷ codes "elf" ∷ codes "input" ∷ codes "output" ∷ codes "100" ∷ []) (shelf greeter)
    ≡ record { status = 0; text = ran_line 8 (record { kind = 0; code = 3 }) 3; writes = (codes "output", codes "hi" ++ 10 ∷ []) ∷ [] }
unfolding computes elf_file outcome ends_within
ran = refl
