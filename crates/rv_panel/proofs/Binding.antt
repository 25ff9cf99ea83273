-- Checks that hold, one after another.
use Rattle.std.proofs.Common.{◌≡◌, true, false, List, [], ◌∷◌, ◌++◌, None}
use Rattle.rv_rules.specs.Checks.{Check, first_broken}

-- checks that hold in a row hold in its end
pub ends-hold : (cs ds : List Check) → first_broken (cs ++ ds) ≡ None → first_broken ds ≡ None
ends-hold [] ds e = e
ends-hold ((k, true) ∷ cs) ds e = ends-hold cs ds e
ends-hold ((k, false) ∷ cs) ds e = absurd cc
