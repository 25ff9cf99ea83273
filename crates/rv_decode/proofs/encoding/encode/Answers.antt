use Rattle.std.proofs.Common.{ℕ, ◌≡◌, Some, ◌∙◌, subst, sym}
use Rattle.rv_spec.specs.Decode.{decode}
use Rattle.rv_decode.proofs.FormatWords.{word_of-decodes}
use Rattle.rv_decode.proofs.TableRows.{decode-spells}
use Rattle.rv_decode.proofs.encoding.encode.Goals as goal

pub returns-clause-decodes : goal.returns-clause-decodes
returns-clause-decodes c =
    subst (λ (w : ℕ). decode w ≡ Some c.args.instr.now) (sym c.word_of.ensures) (word_of-decodes c.args.instr.now c.requires)

pub returns-clause-own_word : goal.returns-clause-own_word
returns-clause-own_word c = λ w h e. c.word_of.ensures ∙ (decode-spells w h c.args.instr.now e).word_is
