-- Sums over what views tell of, where one view changes.
use Rattle.std.proofs.Common.{◌≡◌, ℕ, zero, suc, ◌+◌, ◌-◌, ◌≤◌, Bool, true, false, cond, ◌||◌, List, [], ◌∷◌, ◌++◌, set, sym, refl, ap, ◌∙◌, arith}
use Rattle.std.specs.Prelude.{sum_by, nat_lt, nat_le, ◌==◌}
use Rattle.std.proofs.lemmas.List.Sums.{sum_by-cons, sum_by_push}
use Rattle.std.proofs.lemmas.List.Folds.{list_any-append}
use Rattle.std.proofs.lemmas.Bool.Decides.{nat_tests}
use mathlib.Core.Option.{some, some-injective, some-ne-none}
use lib.ListN.{get_elem?}
use Rattle.rv_claim.specs.declared.view.Lists.{Lists}
use Rattle.rv_claim.specs.declared.view.View.{View}
use Rattle.rv_claim.specs.Views.{is_past, in_view, total}
use Rattle.rv_book.specs.BoardLaws.{one, times}

module _ {X : Type 0} where
  pub sum-at : (g : X → ℕ) (xs : List X) (i : ℕ) (x y : X) → get_elem? xs i ≡ some x → sum_by g (set xs i y) + g x ≡ sum_by g xs + g y
  sum-at g [] i x y at = absurd (some-ne-none x (sym at))
  sum-at g (z ∷ zs) zero x y at = let e : g z ≡ g x = ap g (some-injective z x at) in omega (arith, sum_by-cons g y zs, sum_by-cons g z zs)
  sum-at g (z ∷ zs) (suc i) x y at = omega (arith, sum_by-cons g z (set zs i y), sum_by-cons g z zs, sum-at g zs i x y at)

  pub sum-le : (g h : X → ℕ) (xs : List X) → ((k : ℕ) (y : X) → get_elem? xs k ≡ some y → g y ≤ h y) → sum_by g xs ≤ sum_by h xs
  sum-le g h [] le = omega arith
  sum-le g h (z ∷ zs) le = omega (arith, sum_by-cons g z zs, sum_by-cons h z zs, le 0 z refl, sum-le g h zs (λ k. le (suc k)))

  -- what is short at one place is short in all
  pub sum-gap : (g h : X → ℕ) (xs : List X) (i : ℕ) (x : X) → ((k : ℕ) (y : X) → get_elem? xs k ≡ some y → g y ≤ h y) → get_elem? xs i ≡ some x
      → sum_by g xs + h x ≤ sum_by h xs + g x
  sum-gap g h [] i x le at = absurd (some-ne-none x (sym at))
  sum-gap g h (z ∷ zs) zero x le at =
      let e : g z ≡ g x = ap g (some-injective z x at) in
      let f : h z ≡ h x = ap h (some-injective z x at) in
      omega (arith, sum_by-cons g z zs, sum_by-cons h z zs, sum-le g h zs (λ k. le (suc k)))
  sum-gap g h (z ∷ zs) (suc i) x le at = omega (arith, sum_by-cons g z zs, sum_by-cons h z zs, le 0 z refl, sum-gap g h zs i x (λ k. le (suc k)) at)

  pub sum-both : (g h : X → ℕ) (xs : List X) → sum_by (λ x. g x + h x) xs ≡ sum_by g xs + sum_by h xs
  sum-both g h [] = omega arith
  sum-both g h (z ∷ zs) = omega (arith, sum_by-cons g z zs, sum_by-cons h z zs, sum_by-cons (λ (x : X). g x + h x) z zs, sum-both g h zs)

  pub sum-same : (g h : X → ℕ) (xs : List X) → ((x : X) → g x ≡ h x) → sum_by g xs ≡ sum_by h xs
  sum-same g h [] e = refl
  sum-same g h (z ∷ zs) e = omega (arith, sum_by-cons g z zs, sum_by-cons h z zs, e z, sum-same g h zs e)

module _ (f g : Lists → ℕ) where
  own-le : (b : Bool) (l : Lists) → (b ≡ true → f l ≤ g l) → cond b (f l) 0 ≤ cond b (g l) 0
  own-le true l h = h refl
  own-le false l h = omega arith

  pub in-view-le : (v : View) → (v.live ≡ true → f v.own ≤ g v.own) → ((k : ℕ) (l : Lists) → get_elem? v.gathered k ≡ some l → f l ≤ g l) → in_view f v ≤ in_view g v
  in-view-le v own rest = let a : cond v.live (f v.own) 0 ≤ cond v.live (g v.own) 0 = own-le v.live v.own own in omega (arith, sum-le f g v.gathered rest)

  own-both : (b : Bool) (l : Lists) → cond b (f l + g l) 0 ≡ cond b (f l) 0 + cond b (g l) 0
  own-both true l = refl
  own-both false l = refl

  pub in-view-both : (v : View) → in_view (λ l. f l + g l) v ≡ in_view f v + in_view g v
  in-view-both v = omega (arith, own-both v.live v.own, sum-both f g v.gathered)

  pub total-both : (vs : List View) → total (λ l. f l + g l) vs ≡ total f vs + total g vs
  total-both vs = sum-same (in_view (λ l. f l + g l)) (λ v. in_view f v + in_view g v) vs in-view-both ∙ sum-both (in_view f) (in_view g) vs

-- numbers
pub one-more : (x y : ℕ) → one (x == y) + one (nat_lt y x) ≡ one (nat_lt y (x + 1))
one-more x y = grind (arith, nat_tests)

pub gap-more : (x n : ℕ) → one (nat_le n x) + (x - n) ≡ x + 1 - n
gap-more x n = grind (arith, nat_tests)

pub one-le : (b : Bool) → one b ≤ 1
one-le true = omega arith
one-le false = omega arith

pub times-push : (x y : ℕ) (ys : List ℕ) → times x (ys ++ y ∷ []) ≡ times x ys + one (y == x)
times-push x y ys = sum_by_push (λ z. one (z == x)) ys y

pub past-push : (n y : ℕ) (ys : List ℕ) → is_past n ys ≡ false → is_past n (ys ++ y ∷ []) ≡ nat_le n y
past-push n y ys h = list_any-append (λ x. nat_le n x) ys (y ∷ []) ∙ ap (λ b. b || (nat_le n y || false)) h ∙ or-none (nat_le n y)
  where
    or-none : (b : Bool) → (b || false) ≡ b
    or-none true = refl
    or-none false = refl
