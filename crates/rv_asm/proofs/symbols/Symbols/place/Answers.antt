use Rattle.std.proofs.Common.{List, ap, ◌∙◌}
use Rattle.std.specs.Option.{option_map}
use Rattle.rv_asm.specs.Symbols.{Symbol, symbol_named, place_of}
use Rattle.rv_asm.proofs.SymbolLaws.{place-kept}
use Rattle.rv_asm.proofs.symbols.Symbols.place.Goals as goal

pub returns : goal.returns
returns c =
    c.copied.ensures ∙ c.get.ensures.value ∙ place-kept c.self.inside.places.entries c.args.name.now
    ∙ ap (λ (symbols : List Symbol). option_map place_of (symbol_named symbols c.args.name.now)) c.self.view_is
