-- The times of accesses.
use Rattle.std.specs.Prelude.{ℕ, ◌<◌, List, map}
use Rattle.std.specs.List.{AllByRecursion}
use Rattle.rv_rules.specs.Chain.{AllDiffer}
use Rattle.rv_spec.specs.Tuples.{Event}

-- Each access has a time of its own, above 0 and below a bound.
pub record HaveOwnTimes (es : List Event) (bound : ℕ) : Type 0 where
  pub differ : AllDiffer (map (λ e. e.time) es)
  pub positive : AllByRecursion (λ e. 0 < e.time) es
  pub below : AllByRecursion (λ e. e.time < bound) es
