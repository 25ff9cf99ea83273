-- The words of a program are the encodings of its instructions.
use Rattle.std.proofs.Common.{◌≡◌, ℕ, ◌^◌, ◌<◌, List, [], ◌∷◌, length, map, drop, slice_index_or, Some, None, refl, sym, ◌∙◌, ap, arith}
use Rattle.std.specs.List.{AllByRecursion}
use Rattle.rv_base.specs.declared.instr.Instr.{Instr}
use Rattle.rv_spec.specs.Decode.{decode}
use Rattle.rv_decode.specs.Encoding.{word_of}
use Rattle.rv_decode.proofs.Lemmas.{decode-spells}
use Rattle.rv_gen.specs.Programs.{IsProgram, executable_of}
use Rattle.rv_trial.specs.Trials.{elf_of}

words-are : (words : List ℕ) (instrs : List Instr) → AllByRecursion (λ w. w < 2 ^ 32) words → map decode words ≡ map Some instrs → words ≡ map word_of instrs
words-are [] [] fit e = refl
words-are [] (i ∷ is) fit e = let none = ap length e in absurd (omega (arith, none))
words-are (w ∷ ws) [] fit e = let none = ap length e in absurd (omega (arith, none))
words-are (w ∷ ws) (i ∷ is) fit e =
    let first : decode w ≡ Some i = ap (λ l. slice_index_or l 0 None) e in
    let word : w ≡ word_of i = sym (decode-spells w fit.0 i first).word_is in
    let rest : ws ≡ map word_of is = words-are ws is fit.1 (ap (drop 1) e) in
    λ t. word t ∷ rest t

pub program-file : (number size : ℕ) (file input : List ℕ) → IsProgram number size file input → file ≡ elf_of number size
program-file number size file input is = is.elf ∙ ap executable_of (words-are is.code _ is.spells.fit is.spells.spell)
