-- What an accepted file is, and which files are accepted.
use Rattle.std.specs.Prelude.{◌≡◌, ◌⊎◌, ℕ, List, None}
use Rattle.std.specs.Int.{div_ceil}
use Rattle.rv_base.specs.declared.record.End.{End}
use Rattle.rv_base.specs.declared.record.Verdict.{Verdict}
use Rattle.rv_base.specs.declared.record.Verdict.TheVariants.{Accept, Refuse}
use Rattle.rv_spec.specs.Digest.{Lanes}
use Rattle.rv_spec.specs.Record.{record_file}
use Rattle.rv_spec.specs.Conclusion.{HasRecord, IsRecord, IsCollision}
use Rattle.rv_spec.specs.Elf.{first_fault}
use Rattle.rv_spec.specs.Words.{AreBytes}
use Rattle.rv_rules.specs.Reading.{header_of}
use Rattle.rv_rules.specs.Verdict.{verdict}

-- An accepted file is the record of the run, at its own version and shard size, with these steps, shards and end; or its two lists of tuples are a collision of the digest.
abbrev pub IsSound : Lanes → List ℕ → List ℕ → List ℕ → Verdict → Type 0
IsSound lanes elf input file (Accept steps shards end) =
    let h = header_of file in (shards ≡ div_ceil steps h.size) × (IsRecord lanes h.version elf input h.size steps end file ⊎ IsCollision lanes elf file)
IsSound lanes elf input file (Refuse r) = Unit {0}

-- The record of a run that ends is accepted with its steps, its shards and its end.
abbrev pub AcceptsRecords : Lanes → List ℕ → List ℕ → List ℕ → Verdict → Type 0
AcceptsRecords lanes elf input file answer =
    (version size steps : ℕ) (end : End) → HasRecord version elf input size steps end → file ≡ record_file lanes version elf input size steps end → answer ≡ Accept steps (div_ceil steps size) end

-- ---- laws of the verdict

abbrev pub VerdictsAreSound : Type 0
VerdictsAreSound = (lanes : Lanes) (elf input file : List ℕ)
    → first_fault elf ≡ None → AreBytes elf → AreBytes input → AreBytes file → IsSound lanes elf input file (verdict lanes elf input file)

abbrev pub VerdictsAccept : Type 0
VerdictsAccept = (lanes : Lanes) (elf input file : List ℕ) → AreBytes elf → AreBytes input → AcceptsRecords lanes elf input file (verdict lanes elf input file)
