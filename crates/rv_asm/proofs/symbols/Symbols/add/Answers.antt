use Rattle.std.proofs.Common.{◌≡◌, None, rules, string_bytes}
use Rattle.std.specs.Option.{option_map}
use Rattle.rv_asm.specs.Symbols.{place_of, symbol_named}
use Rattle.rv_asm.proofs.SymbolLaws.{add-absent}
use Rattle.rv_asm.proofs.symbols.Symbols.add.Goals as goal

pub returns-in_ok-insert-clause-added : goal.returns-in_ok-insert-clause-added
returns-in_ok-insert-clause-added c =
    let none : option_map place_of (symbol_named c.args.self.now c.args.name.now) ≡ None = search rules in
    let key : string_bytes c.in_ok-key.key ≡ c.args.name.now = search rules in
    add-absent c.self.inside.places.entries c.insert.new.self.entries c.args.self.now c.in_ok-key.key (record { line = c.args.line; address = c.args.address }) c.args.name.now c.self.view_is none key c.in_ok-insert.ensures.entries
