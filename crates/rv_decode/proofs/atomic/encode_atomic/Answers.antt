use Rattle.std.proofs.Common.{ℕ, ◌≡◌, Some, ◌∙◌, subst, sym}
use Rattle.rv_spec.specs.Decode.{decode_atomic}
use Rattle.rv_decode.proofs.AtomicRows.{word_of_atomic-decodes, decode_atomic-spells}
use Rattle.rv_decode.proofs.atomic.encode_atomic.Goals as goal

pub returns-clause-decodes : goal.returns-clause-decodes
returns-clause-decodes c =
    subst (λ (w : ℕ). decode_atomic w ≡ Some c.args.a.now) (sym c.word_of.ensures) (word_of_atomic-decodes c.args.a.now c.requires)

pub returns-clause-own_word : goal.returns-clause-own_word
returns-clause-own_word c = λ w h e. c.word_of.ensures ∙ (decode_atomic-spells w h c.args.a.now e).word_is
