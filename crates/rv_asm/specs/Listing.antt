-- The lines that show what a source was assembled into (this project's own).
use Rattle.std.specs.Prelude.{ℕ, ◌+◌, List, [], ◌∷◌, ◌++◌, codes}
use Rattle.std.specs.List.{flat_map}
use Rattle.rv_text.specs.Listing.{hex8}
use Rattle.rv_text.specs.Syntax.{disassembly}
use Rattle.rv_asm.specs.declared.limits.TheConstants.{CODE_START}
use Rattle.rv_asm.specs.Symbols.{Symbol}

unfoldable pub symbol_line : Symbol → List ℕ
symbol_line s = codes "symbol " ++ s.name ++ 32 ∷ hex8 s.address ++ 10 ∷ []

-- an address, the word there and what it spells
unfoldable pub word_line : ℕ → ℕ → List ℕ
word_line address w = hex8 address ++ 32 ∷ hex8 w ++ 32 ∷ disassembly w ++ 10 ∷ []

-- the lines of words from an address on
unfoldable pub word_lines : ℕ → List ℕ → List ℕ
word_lines address [] = []
word_lines address (w ∷ ws) = word_line address w ++ word_lines (address + 4) ws

unfoldable pub listing : List Symbol → List ℕ → List ℕ
listing symbols words = flat_map symbol_line symbols ++ word_lines CODE_START words
