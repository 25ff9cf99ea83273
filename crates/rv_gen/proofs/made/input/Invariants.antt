use Rattle.std.proofs.Common.{◌≡◌, ℕ, ◌-◌, List, ◌++◌}
use Rattle.rv_gen.specs.Draws.{bytes}
use Rattle.rv_gen.proofs.made.input.Given as goal

abbrev pub invariant-loop : goal.invariant-loop
invariant-loop l = (rest : List ℕ) (t : ℕ) → (rest, t) ≡ bytes (256 - l.counter) l.draws.state → (l.input.items ++ rest, t) ≡ bytes 256 l.fn.draws.state
