use Rattle.std.proofs.Common.{ℕ, ◌-◌, List}
use Rattle.rv_gen.specs.Words.{AddsDrawn}
use Rattle.rv_gen.specs.Programs.{items}
use Rattle.rv_gen.proofs.words.push_items.Given as goal

abbrev pub invariant-loop : goal.invariant-loop
invariant-loop l = (t : ℕ) (new : List ℕ) → AddsDrawn (items (32 - l.counter)) l.draws.state t l.code.items new → AddsDrawn (items 32) l.fn.draws.state t l.fn.code.items new
