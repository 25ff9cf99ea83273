use Rattle.std.proofs.Common.{◌∙◌, ap}
use Rattle.rv_spec.specs.Words.{word}
use Rattle.rv_elf.specs.Loaded.{loaded}
use Rattle.rv_elf.proofs.image.Image.word.Goals as goal

pub returns : goal.returns
returns c = c.word_at.ensures ∙ ap (λ i. word (loaded i) c.args.w) c.self.view_is
