-- What is loaded is a program.
use Rattle.std.specs.Prelude.{◌≡◌, ℕ, List, None}
use Rattle.rv_spec.specs.Words.{AreBytes}
use Rattle.rv_spec.specs.Elf.{first_fault, image}
use Rattle.rv_rules.specs.Agreement.{IsProgram}

-- The image of a file of bytes without a fault is a program, at each version: its entry is a word and a multiple of 4, and its blocks are bytes.
abbrev pub LoadsProgram : ℕ → List ℕ → Type 0
LoadsProgram version file = AreBytes file → first_fault file ≡ None → IsProgram (image version file)
