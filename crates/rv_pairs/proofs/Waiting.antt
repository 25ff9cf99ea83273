-- Tuples that wait: one more, or one in place of another.
use Rattle.std.proofs.Common.{◌≡◌, ℕ, zero, suc, ◌+◌, ◌<◌, List, [], ◌∷◌, ◌++◌, length, take, get_or, set, map, sym, ◌∙◌, ap, arith}
use Rattle.std.specs.Prelude.{sum_by}
use Rattle.std.proofs.lemmas.List.{map-append, take_more, take_more_set}
use Rattle.std.proofs.lemmas.List.Sums.{sum_by-append, sum_by-cons}
use Rattle.rv_base.specs.declared.record.Access.{Access}
use Rattle.rv_base.specs.declared.record.Tuple.{Tuple}
use Rattle.rv_spec.specs.Digest.{Lanes}
use Rattle.rv_spec.specs.Tuples.{Event}
use Rattle.rv_pairs.specs.Covers.{with_tuples}
use Rattle.rv_pairs.proofs.LaneSums.{with-alike, with-with}

-- of the first n tuples one gives way to another
set-taken : (f : Tuple → ℕ) (ts : List Tuple) (n at : ℕ) (w d : Tuple) → at < n → at < length ts → sum_by f (take n (set ts at w)) + f (get_or ts at d) ≡ sum_by f (take n ts) + f w
set-taken f [] n at w d below inside = absurd (omega (arith, inside))
set-taken f (t ∷ ts) zero at w d below inside = absurd (omega (arith, below))
set-taken f (t ∷ ts) (suc n) zero w d below inside = omega (arith, sum_by-cons f w (take n ts), sum_by-cons f t (take n ts))
set-taken f (t ∷ ts) (suc n) (suc at) w d below inside =
    omega (arith, sum_by-cons f t (take n (set ts at w)), sum_by-cons f t (take n ts), set-taken f ts n at w d (omega (arith, below)) (omega (arith, inside)))

swapped-sums : (f : Tuple → ℕ) (ts : List Tuple) (n at : ℕ) (u w d : Tuple) → at < n → at < length ts → u ≡ get_or ts at d → sum_by f (u ∷ take n (set ts at w)) ≡ sum_by f (take n ts ++ w ∷ [])
swapped-sums f ts n at u w d below inside here =
    omega (arith, sum_by-cons f u (take n (set ts at w)), sum_by-append f (take n ts) (w ∷ []), sum_by-cons f w [], set-taken f ts n at w d below inside, ap f here)

first-last : (f : Tuple → ℕ) (ts : List Tuple) (w : Tuple) → sum_by f (w ∷ ts) ≡ sum_by f (ts ++ w ∷ [])
first-last f ts w = omega (arith, sum_by-cons f w ts, sum_by-append f ts (w ∷ []), sum_by-cons f w [])

module _ (lanes : Lanes) (sum : List ℕ) where
  -- the tuple that gives way is added
  pub one-instead : (ts : List Tuple) (n at : ℕ) (u w d : Tuple) → at < n → at < length ts → u ≡ get_or ts at d
      → with_tuples lanes (with_tuples lanes sum (u ∷ [])) (take n (set ts at w)) ≡ with_tuples lanes (with_tuples lanes sum (take n ts)) (w ∷ [])
  one-instead ts n at u w d below inside here =
      with-with lanes sum (u ∷ []) (take n (set ts at w))
      ∙ with-alike lanes sum (u ∷ take n (set ts at w)) (take n ts ++ w ∷ []) (λ f. swapped-sums f ts n at u w d below inside here)
      ∙ sym (with-with lanes sum (take n ts) (w ∷ []))

  -- one more waits
  pub one-behind : (ts : List Tuple) (n : ℕ) (w : Tuple) → n < length ts → with_tuples lanes sum (take (n + 1) (set ts n w)) ≡ with_tuples lanes (with_tuples lanes sum (take n ts)) (w ∷ [])
  one-behind ts n w inside = ap (with_tuples lanes sum) (take_more_set ts n w inside) ∙ sym (with-with lanes sum (take n ts) (w ∷ []))

  -- one is added before those that wait
  pub one-before : (ts : List Tuple) (w : Tuple) → with_tuples lanes (with_tuples lanes sum (w ∷ [])) ts ≡ with_tuples lanes (with_tuples lanes sum ts) (w ∷ [])
  one-before ts w = with-with lanes sum (w ∷ []) ts ∙ with-alike lanes sum (w ∷ ts) (ts ++ w ∷ []) (λ f. first-last f ts w) ∙ sym (with-with lanes sum ts (w ∷ []))

-- the tuples of one access more
pub one-access : (f : Access → Event) (g : Event → Tuple) (accesses : List Access) (j : ℕ) (d : Access) (t : Tuple) → j < length accesses → t ≡ g (f (get_or accesses j d))
    → map g (map f (take j accesses)) ++ t ∷ [] ≡ map g (map f (take (j + 1) accesses))
one-access f g accesses j d t there is =
    ap (λ (z : Tuple). map g (map f (take j accesses)) ++ z ∷ []) is
    ∙ sym (ap (λ (z : List Access). map g (map f z)) (take_more accesses j d there) ∙ ap (map g) (map-append f (take j accesses) (get_or accesses j d ∷ [])) ∙ map-append g (map f (take j accesses)) (f (get_or accesses j d) ∷ []))
