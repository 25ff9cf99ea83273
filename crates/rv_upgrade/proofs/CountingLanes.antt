-- Lanes that count one tuple: it stands equally often in lists of fewer than 2 ^ 64 tuples that have one digest by them.
use Rattle.std.proofs.Common.{◌≡◌, ℕ, ◌^◌, ◌<◌, cond, List, [], ◌∷◌, length, sym, ap, ◌∙◌, arith}
use Rattle.std.specs.Prelude.{slice_index}
use Rattle.std.proofs.Math.Nat.{mod-eq_of_lt}
use Rattle.std.proofs.lemmas.List.Sums.{count_by-le-length}
use Rattle.rv_base.specs.declared.record.Tuple.{Tuple}
use Rattle.rv_spec.specs.Digest.{Lanes, digest_lane, digest}
use Rattle.rv_spec.specs.Multiset.{same_tuple, count}

-- 1 for the tuple, and 0 for each other
abbrev pub counting : Tuple → Lanes
counting t u = cond (same_tuple t u) 1 0 ∷ []

lane-counts : (t : Tuple) (ts : List Tuple) → length ts < 2 ^ 64 → digest_lane (counting t) ts 0 ≡ count t ts
unfolding digest_lane count
lane-counts t ts few = mod-eq_of_lt (let most = count_by-le-length (same_tuple t) ts in omega (arith, most, few))

pub counted-same : (t : Tuple) (xs ys : List Tuple) → length xs < 2 ^ 64 → length ys < 2 ^ 64 → digest (counting t) xs ≡ digest (counting t) ys → count t xs ≡ count t ys
counted-same t xs ys few few_too one = sym (lane-counts t xs few) ∙ ap (λ (sums : List ℕ). slice_index sums 0) one ∙ lane-counts t ys few_too
