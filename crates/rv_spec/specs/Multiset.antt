-- Lists of tuples as multisets (after Blum et al. 1991 and Clarke et al. 2003).
use Rattle.std.specs.Prelude.{◌≡◌, ℕ, Bool, ◌&&◌, List, count_by, ◌==◌}
use Rattle.rv_base.specs.declared.record.Tuple.{Tuple}

abbrev pub same_tuple : Tuple → Tuple → Bool
same_tuple t u = t.cell == u.cell && t.value == u.value && t.time == u.time

-- how often a tuple stands in a list
unfoldable pub count : Tuple → List Tuple → ℕ
count t ts = count_by (same_tuple t) ts

-- each tuple stands equally often in both lists
pub record Same (xs ys : List Tuple) : Type 0 where
  pub counts : (t : Tuple) → count t xs ≡ count t ys
