-- The laws that the product stands on: of accepted files, of records, and of the grammar.
use Rattle.std.specs.Prelude.{◌≡◌, ◌↔◌, ◌⊎◌, ℕ, List, [], ◌++◌, Ok, None}
use Rattle.std.specs.Int.{div_ceil}
use Rattle.rv_base.specs.declared.record.End.{End}
use Rattle.rv_base.specs.declared.record.Verdict.TheVariants.{Accept}
use Rattle.rv_spec.specs.Words.{AreBytes}
use Rattle.rv_spec.specs.Elf.{first_fault}
use Rattle.rv_spec.specs.Digest.{Lanes}
use Rattle.rv_spec.specs.Record.{Parts, file_bytes, record_file}
use Rattle.rv_spec.specs.Grammar.{PartsFit, Spells}
use Rattle.rv_spec.specs.Conclusion.{HasRecord, IsRecord, IsCollision}
use Rattle.rv_rules.specs.Verdict.{judge, parse, verdict}

-- An accepted file of a program with an image is the record of the run at the file's own version and shard size, in the header's steps and with its end, or it is a collision.
abbrev pub AcceptedIsRecord : Lanes → List ℕ → List ℕ → List ℕ → Parts → Type 0
AcceptedIsRecord lanes elf input file parts =
    let h = parts.header in
    first_fault elf ≡ None → AreBytes elf → AreBytes input → AreBytes file → judge lanes elf input file ≡ Ok parts
    → IsRecord lanes h.version elf input h.size h.steps h.end file ⊎ IsCollision lanes elf file

-- The record of a run is accepted.
abbrev pub RecordIsAccepted : Lanes → ℕ → List ℕ → List ℕ → ℕ → ℕ → End → Type 0
RecordIsAccepted lanes version elf input size n e =
    AreBytes elf → AreBytes input → HasRecord version elf input size n e
    → verdict lanes elf input (record_file lanes version elf input size n e) ≡ Accept n (div_ceil n size) e

-- The form of a file is good exactly where some parts spell it, and then these are they.
abbrev pub FormIsGrammar : Type 0
FormIsGrammar = (file : List ℕ) (p : Parts) → AreBytes file → (parse file ≡ Ok p) ↔ Spells p file

-- No spelling is a proper prefix of another, and equal spellings have equal parts.
abbrev pub NoProperPrefix : Type 0
NoProperPrefix = (p q : Parts) (rest : List ℕ) → PartsFit p → PartsFit q → file_bytes p ++ rest ≡ file_bytes q → (rest ≡ []) × (p ≡ q)
