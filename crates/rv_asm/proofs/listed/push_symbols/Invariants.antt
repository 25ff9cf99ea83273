use Rattle.std.proofs.Common.{◌≡◌, ◌++◌, drop, string_bytes}
use Rattle.std.specs.List.{flat_map}
use Rattle.rv_asm.specs.Listing.{symbol_line}
use Rattle.rv_asm.proofs.listed.push_symbols.Given as goal

abbrev pub invariant-loop-j : goal.invariant-loop-j
invariant-loop-j l = string_bytes l.text ++ flat_map symbol_line (drop l.j l.symbols) ≡ string_bytes l.fn.text ++ flat_map symbol_line l.symbols
