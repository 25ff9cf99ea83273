-- Laws of assembly (this project's own).
use Rattle.std.specs.Prelude.{◌≡◌, ℕ, ◌^◌, ◌<◌, false, not, ℤ, List, [], ◌∷◌, length, map, filter, slice_get, Option, Some, Ok, codes, bytes_eq, ◌==◌}
use Rattle.std.specs.Int.{w32, from_le_bytes}
use Rattle.std.specs.Str.Lines.{lines}
use Rattle.rv_base.specs.declared.instr.Instr.{Instr}
use Rattle.rv_base.specs.declared.instr.Instr.TheVariants.{Fence}
use Rattle.rv_spec.specs.Decode.{decode}
use Rattle.rv_spec.specs.Elf.{Image}
use Rattle.rv_spec.specs.Words.{bytes_from}
use Rattle.rv_elf.specs.Loaded.{loaded}
use Rattle.rv_text.specs.Syntax.{syntax, disassembly}
use Rattle.rv_asm.specs.declared.operands.Fields.{Fields}
use Rattle.rv_asm.specs.Lines.{mnemonic_text, operands_text, statement_text}
use Rattle.rv_asm.specs.Patterns.{pattern}
use Rattle.rv_asm.specs.Statements.{fields, instruction, statement_word}
use Rattle.rv_asm.specs.Symbols.{address_of, distance}
use Rattle.rv_asm.specs.Assembly.{assembly, symbols_of}
use Rattle.rv_asm.specs.Executable.{HoldsWords}

-- A statement spells an instruction: its mnemonic is that of a pattern, whose fields its operands spell.
pub record SpellsInstruction (meaning : List ℕ → Option ℤ) (text : List ℕ) (i : Instr) : Type 0 where
  pub of : Instr
  pub operands : Fields
  pub mnemonic_is : pattern (mnemonic_text text) ≡ Some of
  pub operands_are : fields meaning (syntax of).operands (operands_text text) ≡ Ok operands
  pub is : i ≡ instruction of operands

-- the word of a statement other than `.word` decodes to the instruction that the statement spells
abbrev pub WordsDecode : Type 0
WordsDecode = (meaning : List ℕ → Option ℤ) (text : List ℕ) (w : ℕ) → bytes_eq (mnemonic_text text) (codes ".word") ≡ false → statement_word meaning text ≡ Ok w → (i : Instr) × SpellsInstruction meaning text i × (decode w ≡ Some i)

-- FENCE has fields that its text doesn't show
abbrev pub IsFence : Instr → Type 0
IsFence (Fence rd rs1 imm) = Unit {0}
IsFence _ = ⊥

-- the disassembly of a word that decodes to another instruction than FENCE is assembled to that word
abbrev pub DisassemblyAssembles : Type 0
DisassemblyAssembles = (w : ℕ) (i : Instr) → w < 2 ^ 32 → decode w ≡ Some i → ¬ (IsFence i) → assembly (disassembly w) ≡ Ok (w ∷ [])

-- the texts of lines' statements, in their order
abbrev pub statements_on : List (List ℕ) → List (List ℕ)
statements_on ls = filter (λ text. not (length text == 0)) (map statement_text ls)

abbrev pub statements_of : List ℕ → List (List ℕ)
statements_of source = statements_on (lines source)

-- The address of a source's statement k has the word of that statement, which decodes to the instruction that it spells.
pub record HoldsStatement (source text : List ℕ) (k : ℕ) (image : Image) : Type 0 where
  pub word : ℕ
  pub word_is : statement_word (distance (symbols_of source) k) text ≡ Ok word
  pub held : from_le_bytes w32 (bytes_from (loaded image) (address_of k) 4) ≡ word
  pub decodes : bytes_eq (mnemonic_text text) (codes ".word") ≡ false → (i : Instr) × SpellsInstruction (distance (symbols_of source) k) text i × (decode word ≡ Some i)

abbrev pub HoldsStatements : List ℕ → Image → Type 0
HoldsStatements source image = (k : ℕ) (text : List ℕ) → slice_get (statements_of source) k ≡ Some text → HoldsStatement source text k image

-- a source has as many words as statements, and an image that holds its words holds its statements
abbrev pub StatementsAreHeld : Type 0
StatementsAreHeld =
    (source words : List ℕ) (image : Image) → assembly source ≡ Ok words → HoldsWords words image → (length words ≡ length (statements_of source)) × HoldsStatements source image
