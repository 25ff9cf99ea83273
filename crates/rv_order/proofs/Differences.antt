-- The first place at which two lists in order differ holds the least tuple whose counts differ.
use Rattle.std.proofs.Common.{◌≡◌, ◌≢◌, ◌⊎◌, ℕ, zero, suc, ◌+◌, ◌<◌, ◌≤◌, min, cond, List, [], ◌∷◌, length, get_or, refl, sym, ◌∙◌, ap, subst, inl, inr, arith, eq-zero-or-pos, is_lt, MatchOption, option_copied, Option, Some, None, Bor, IsPermutation}
use Rattle.std.specs.Option.{option_or}
use Rattle.std.proofs.lemmas.List.{ext_get_or}
use Rattle.std.proofs.lemmas.List.Sorted.{sum_by-IsPermutation}
use Rattle.std.specs.List.{AllByRecursion}
use Rattle.rv_base.specs.declared.record.Tuple.{Tuple}
use Rattle.rv_spec.specs.Multiset.{count, same_tuple, Same}
use Rattle.rv_rules.proofs.Lemmas.{count-cons, count-in, in-count, all-in, all-of}
use Rattle.rv_order.specs.Order.{IsBefore, IsInOrder, IsLeastDiffering}
use Rattle.rv_order.proofs.TupleOrder.{tuple_cmp, cases-before, lt-from-before, not-lt-from-after, before-trans, before-irreflexive, before-not_before}

-- a tuple does not stand among tuples that it is before
count-before : (t : Tuple) (us : List Tuple) → AllByRecursion (IsBefore t) us → count t us ≡ 0
count-before t us h = elim (eq-zero-or-pos (count t us)) [
  | inl none ↦ none
  | inr some ↦ absurd (before-irreflexive t (all-in (IsBefore t) us h t (count-in t us some)))
]

-- what is before the first tuple of a list in order is before all of its tuples
after-first : (t u : Tuple) (us : List Tuple) → IsBefore t u → IsInOrder (u ∷ us) → AllByRecursion (IsBefore t) (u ∷ us)
after-first t u us h o = (h, all-of (IsBefore t) us (λ v m. before-not_before t u v h (all-in (λ v. ¬ IsBefore v u) us o.0 v m)))

pub differing-sym : (xs ys : List Tuple) (t : Tuple) → IsLeastDiffering xs ys t → IsLeastDiffering ys xs t
differing-sym xs ys t d = record {
  differs = λ e. d.differs (sym e);
  least = λ u b. sym (d.least u b);
}

differing-front : (t : Tuple) (ts us : List Tuple) → IsInOrder (t ∷ ts) → AllByRecursion (IsBefore t) us → IsLeastDiffering (t ∷ ts) us t
differing-front t ts us o h = record {
  differs = λ e. absurd (omega (arith, in-count t (t ∷ ts) (inl refl), e, count-before t us h));
  least = λ u b. count-before u (t ∷ ts) (after-first u t ts b o) ∙ sym (count-before u us (all-of (IsBefore u) us (λ v m. before-trans u t v b (all-in (IsBefore t) us h v m))));
}

differing-cons : (x : Tuple) (xs ys : List Tuple) (t : Tuple) → IsLeastDiffering xs ys t → IsLeastDiffering (x ∷ xs) (x ∷ ys) t
differing-cons x xs ys t d = record {
  differs = λ e. d.differs (omega (arith, e, count-cons t x xs, count-cons t x ys));
  least = λ u b. count-cons u x xs ∙ ap (λ n. cond (same_tuple u x) 1 0 + n) (d.least u b) ∙ sym (count-cons u x ys);
}

-- Both lists agree before place i, where the first list has t, and the second has ended or has a tuple after t.
pub differing-at : (i : ℕ) (xs ys : List Tuple) (t : Tuple) → IsInOrder xs → IsInOrder ys → ((k : ℕ) (d : Tuple) → k < i → get_or xs k d ≡ get_or ys k d) → i < length xs → i ≤ length ys → t ≡ get_or xs i t → (length ys ≡ i) ⊎ IsBefore t (get_or ys i t) → IsLeastDiffering xs ys t
differing-at i [] ys t ox oy same hx hy is end = absurd (omega arith)
differing-at zero (x ∷ xs) [] t ox oy same hx hy is end = subst (λ x. IsInOrder (x ∷ xs) → IsLeastDiffering (x ∷ xs) [] t) is (λ o. differing-front t xs [] o tt) ox
differing-at zero (x ∷ xs) (y ∷ ys) t ox oy same hx hy is (inl end) = absurd (omega arith)
differing-at zero (x ∷ xs) (y ∷ ys) t ox oy same hx hy is (inr later) = subst (λ x. IsInOrder (x ∷ xs) → IsLeastDiffering (x ∷ xs) (y ∷ ys) t) is (λ o. differing-front t xs (y ∷ ys) o (after-first t y ys later oy)) ox
differing-at (suc i) (x ∷ xs) [] t ox oy same hx hy is end = absurd (omega arith)
differing-at (suc i) (x ∷ xs) (y ∷ ys) t ox oy same hx hy is end =
    let first : x ≡ y = same 0 x (omega arith) in
    let rest : IsLeastDiffering xs ys t = differing-at i xs ys t ox.1 oy.1 (λ k d h. same (suc k) d (omega arith)) (omega arith) (omega arith) is (elim end [ inl e ↦ inl (omega arith) | inr b ↦ inr b ]) in
    subst (λ z. IsLeastDiffering (x ∷ xs) (z ∷ ys) t) first (differing-cons x xs ys t rest)

-- the lesser of the first two tuples that differ
pub differing-inside : (i : ℕ) (xs ys : List Tuple) (r w : Tuple) → IsInOrder xs → IsInOrder ys → ((k : ℕ) (d : Tuple) → k < i → get_or xs k d ≡ get_or ys k d) → i < length xs → i < length ys → ((d : Tuple) → r ≡ get_or xs i d) → ((d : Tuple) → w ≡ get_or ys i d) → r ≢ w → IsLeastDiffering xs ys (cond (is_lt (tuple_cmp w r)) w r)
differing-inside i xs ys r w ox oy same hx hy is_r is_w apart = elim (cases-before r w) [
  | inl e ↦ absurd (apart e)
  | inr (inl b) ↦
      let later : IsBefore r (get_or ys i r) = subst (λ z. IsBefore r z) (is_w r) b in
      subst (λ z. IsLeastDiffering xs ys (cond z w r)) (sym (not-lt-from-after w r b))
      (differing-at i xs ys r ox oy same hx (omega arith) (is_r r) (inr later))
  | inr (inr b) ↦
      let later : IsBefore w (get_or xs i w) = subst (λ z. IsBefore w z) (is_r w) b in
      subst (λ z. IsLeastDiffering xs ys (cond z w r)) (sym (lt-from-before w r b))
      (differing-sym ys xs w (differing-at i ys xs w oy ox (λ k d h. sym (same k d h)) hy (omega arith) (is_w w) (inr later)))
]

-- what `get` tells of place i
abbrev pub Looks : List Tuple → ℕ → Option (Bor Tuple) → Type 0
Looks xs i a = MatchOption a (length xs ≤ i) (λ x. (i < length xs) × (x.now ≡ get_or xs i x.now))

-- the first tuple of the longer list that is past the end of the other
pub differing-end : (i : ℕ) (xs ys : List Tuple) (a b : Option (Bor Tuple)) → IsInOrder xs → IsInOrder ys → ((k : ℕ) (d : Tuple) → k < i → get_or xs k d ≡ get_or ys k d) → i ≡ min (length xs) (length ys) → Looks xs i a → Looks ys i b → MatchOption (option_copied (option_or a b)) (xs ≡ ys) (IsLeastDiffering xs ys)
differing-end i xs ys None None ox oy same is la lb = ext_get_or (record { cell = 0; value = 0; time = 0 }) xs ys (omega (arith, la, lb)) (λ k h. same k (record { cell = 0; value = 0; time = 0 }) (omega (arith, la, lb)))
differing-end i xs ys None (Some y) ox oy same is la lb = differing-sym ys xs y.now (differing-at i ys xs y.now oy ox (λ k d h. sym (same k d h)) lb.0 (omega arith) lb.1 (inl (omega (arith, la, lb.0))))
differing-end i xs ys (Some x) b ox oy same is la lb = differing-at i xs ys x.now ox oy same la.0 (omega arith) la.1 (inl (omega (arith, la.0)))

-- ---- lists whose contents are kept up to order

pub count-kept : {xs ys : List Tuple} (t : Tuple) → IsPermutation xs ys → count t ys ≡ count t xs
unfolding count
count-kept {xs = xs} {ys = ys} t p = sum_by-IsPermutation (λ u. cond (same_tuple t u) 1 0) xs ys p

module _ {xs ys sorted_xs sorted_ys : List Tuple} (px : IsPermutation xs sorted_xs) (py : IsPermutation ys sorted_ys) where
  pub same-kept : sorted_xs ≡ sorted_ys → Same xs ys
  same-kept e = record { counts = λ t. sym (count-kept t px) ∙ ap (count t) e ∙ count-kept t py }

  pub differing-kept : {t : Tuple} → IsLeastDiffering sorted_xs sorted_ys t → IsLeastDiffering xs ys t
  differing-kept {t = t} d = record {
    differs = λ e. d.differs (count-kept t px ∙ e ∙ sym (count-kept t py));
    least = λ u b. sym (count-kept u px) ∙ d.least u b ∙ count-kept u py;
  }

pub not-same : {xs ys : List Tuple} {t : Tuple} → IsLeastDiffering xs ys t → Same xs ys → ⊥
not-same {t = t} d s = d.differs (s.counts t)
