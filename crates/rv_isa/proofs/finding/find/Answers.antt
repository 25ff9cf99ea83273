use Rattle.std.proofs.Common.{◌∙◌, ap, ap₂, sym}
use Rattle.rv_spec.specs.Decode.{decode_any}
use Rattle.rv_isa.proofs.finding.find.Goals as goal

pub returns-clause-decoded : goal.returns-clause-decoded
returns-clause-decoded c = c.of_word-decoded.ensures ∙ ap₂ decode_any c.version.ensures (sym c.see-seen.ensures.word)

pub returns-clause-sees : goal.returns-clause-sees
returns-clause-sees c input s is holds version pc =
    c.see-seen.ensures.sees input s is holds (c.fetch-word.ensures s is holds pc)
    (c.of_word-decoded.ensures ∙ ap (λ n. decode_any n c.fetch-word.result) (c.version.ensures ∙ sym version))
