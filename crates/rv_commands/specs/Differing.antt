-- The least tuple at which two lists differ as multisets.
use Rattle.std.specs.Prelude.{Bool, not, ◌&&◌, ◌||◌, List, ◌++◌, filter, find, Option, nat_lt, ◌==◌}
use Rattle.std.specs.List.{list_all}
use Rattle.rv_base.specs.declared.record.Tuple.{Tuple}
use Rattle.rv_spec.specs.Multiset.{count}

-- a tuple stands before another: by cell, then value, then time
abbrev pub is_before : Tuple → Tuple → Bool
is_before t u = nat_lt t.cell u.cell || t.cell == u.cell && (nat_lt t.value u.value || t.value == u.value && nat_lt t.time u.time)

-- the tuples that don't stand equally often in both lists
abbrev pub differing : List Tuple → List Tuple → List Tuple
differing xs ys = filter (λ t. not (count t xs == count t ys)) (xs ++ ys)

-- the one before which no other stands
unfoldable pub least_differing : List Tuple → List Tuple → Option Tuple
least_differing xs ys = find (λ t. list_all (λ u. not (is_before u t)) (differing xs ys)) (differing xs ys)
