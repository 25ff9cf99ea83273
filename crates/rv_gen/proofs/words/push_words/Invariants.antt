use Rattle.std.proofs.Common.{ℕ, ◌-◌, List}
use Rattle.rv_gen.specs.Words.{AddsDrawn}
use Rattle.rv_gen.specs.Programs.{filled}
use Rattle.rv_gen.proofs.words.push_words.Given as goal

abbrev pub invariant-loop-r : goal.invariant-loop-r
invariant-loop-r l = (t : ℕ) (new : List ℕ) → AddsDrawn (filled (28 - l.r) l.r) l.draws.state t l.code.items new → AddsDrawn (filled 10 18) l.fn.draws.state t l.fn.code.items new
