-- What words spell, and what is appended to them.
use Rattle.std.specs.Prelude.{◌≡◌, ℕ, List, ◌++◌, map, Option, Some}
use Rattle.rv_base.specs.declared.instr.Instr.{Instr}
use Rattle.rv_spec.specs.Decode.{decode}
use Rattle.rv_gen.specs.Draws.{Draw}

abbrev pub decoded : List ℕ → List (Option Instr)
decoded words = map decode words

-- the words that are new spell these instructions
abbrev pub Adds : List Instr → List ℕ → List ℕ → Type 0
Adds instrs old new = decoded new ≡ decoded old ++ map Some instrs

-- they spell what was drawn, and this is the state behind it
abbrev pub AddsPair : List Instr × ℕ → ℕ → List ℕ → List ℕ → Type 0
AddsPair p after old new = Adds p.0 old new × (after ≡ p.1)

abbrev pub AddsDrawn : Draw (List Instr) → ℕ → ℕ → List ℕ → List ℕ → Type 0
AddsDrawn items before after old new = AddsPair (items before) after old new
