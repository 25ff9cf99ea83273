-- Lists of one length are one multiset where no tuple stands more often in the first.
use Rattle.std.proofs.Common.{◌≡◌, suc, ◌+◌, ◌<◌, ◌≤◌, cond, List, [], ◌∷◌, length, refl, sym, ◌∙◌, ap, inl, arith}
use Rattle.std.specs.Prelude.{sum_by}
use Rattle.std.proofs.lemmas.List.Sums.{sum_by-cons}
use Rattle.rv_base.specs.declared.record.Tuple.{Tuple}
use Rattle.rv_spec.specs.Multiset.{same_tuple, count}
use Rattle.rv_rules.proofs.Lemmas.{count-cons, without, sum_by-without, in-count}

count-without : (t x : Tuple) (ys : List Tuple) → 0 < count x ys → count t ys ≡ cond (same_tuple t x) 1 0 + count t (without x ys)
unfolding count
count-without t x ys h = sum_by-without (λ u. cond (same_tuple t u) 1 0) x ys h

ones : (ys : List Tuple) → sum_by (λ u. 1) ys ≡ length ys
ones [] = refl
ones (y ∷ ys) = omega (arith, sum_by-cons (λ (u : Tuple). 1) y ys, ones ys)

length-without : (x : Tuple) (ys : List Tuple) → 0 < count x ys → length ys ≡ suc (length (without x ys))
length-without x ys h = omega (arith, sum_by-without (λ u. 1) x ys h, ones ys, ones (without x ys))

pub same-from-le : (xs ys : List Tuple) → length xs ≡ length ys → ((t : Tuple) → count t xs ≤ count t ys) → (t : Tuple) → count t xs ≡ count t ys
same-from-le [] [] long le t = refl
same-from-le [] (y ∷ ys) long le t = absurd (omega arith)
same-from-le (x ∷ xs) ys long le t =
    let stands : 1 ≤ count x (x ∷ xs) = in-count x (x ∷ xs) (inl refl) in
    let there : 0 < count x ys = omega (arith, stands, le x) in
    let shorter : length xs ≡ length (without x ys) = omega (arith, length-without x ys there) in
    let rest : count t xs ≡ count t (without x ys) = same-from-le xs (without x ys) shorter (λ u. omega (arith, le u, count-cons u x xs, count-without u x ys there)) t in
    count-cons t x xs ∙ ap (λ n. cond (same_tuple t x) 1 0 + n) rest ∙ sym (count-without t x ys there)
