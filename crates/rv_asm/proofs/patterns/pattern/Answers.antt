use Rattle.std.proofs.Common.{◌∙◌, rules, tests, bytes_eq}
use Rattle.std.proofs.lemmas.Iterator.{YieldsList-from_slice}
use Rattle.std.proofs.lemmas.Iterator.Search.{find_from_yields_List}
use Rattle.rv_text.specs.Syntax.{syntax}
use Rattle.rv_asm.specs.Patterns.{pattern, patterns}
use Rattle.rv_asm.proofs.patterns.pattern.Goals as goal

pub returns : goal.returns
unfolding pattern patterns
returns c =
    let found = find_from_yields_List (λ i. bytes_eq (syntax i).mnemonic c.args.mnemonic.now) _ _ c.find.result c.find.ensures.ran (YieldsList-from_slice patterns c.iter.ensures.rest) (λ x b q k. search (rules, tests)) in
    c.copied.ensures ∙ found
