-- The word that an instruction is encoded as.
use Rattle.std.proofs.Common.{◌≡◌, ℕ, ◌^◌, ◌<◌, true, Some, Ok, Result, ap, ◌∙◌, sym}
use Rattle.rv_base.specs.declared.instr.Instr.{Instr}
use Rattle.rv_spec.specs.Decode.{decode}
use Rattle.rv_decode.specs.Encoding.{word_of}
use Rattle.rv_decode.proofs.Lemmas.{decode-spells}
use Rattle.rv_asm.specs.declared.operands.Fields.{Fields}
use Rattle.rv_asm.specs.Patterns.{in_range}
use Rattle.rv_asm.specs.Statements.{instruction, instruction_word}

abbrev word : ℕ → Result ℕ ℕ
word v = Ok v

pub encoded : (p : Instr) (f : Fields) (w : ℕ) (i : Instr) → in_range p f.number ≡ true → w < 2 ^ 32 → i ≡ instruction p f → decode w ≡ Some i → Ok w ≡ instruction_word p (Ok f)
encoded p f w i fits small same spells = rw fits (ap word (sym (decode-spells w small i spells).word_is ∙ ap word_of same))
