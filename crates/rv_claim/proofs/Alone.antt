-- A pass is the only one of its number.
use Rattle.std.proofs.Common.{◌≡◌, ◌≢◌, ℕ, zero, suc, ◌+◌, ◌<◌, ◌≤◌, Bool, true, false, cond, List, [], ◌∷◌, set, sym, refl, ap, ◌∙◌, arith}
use Rattle.std.specs.Prelude.{sum_by, nat_lt, ◌==◌}
use Rattle.std.proofs.lemmas.List.Sums.{sum_by-cons}
use Rattle.std.proofs.lemmas.Bool.Decides.{nat_tests}
use mathlib.Core.Option.{some, some-injective, some-ne-none}
use lib.ListN.{get_elem?}
use Rattle.atomic_table.proofs.Lists.{set_else}
use Rattle.rv_book.specs.BoardLaws.{one}
use Rattle.rv_claim.specs.declared.view.Lists.{Lists}
use Rattle.rv_claim.specs.declared.view.View.{View}
use Rattle.rv_claim.specs.Views.{pass_view, spent_view, put, put_by, numbered, in_view, total}
use Rattle.rv_claim.specs.Rule.{Numbers}
use Rattle.rv_claim.specs.History.{EachPass}
use Rattle.rv_claim.proofs.Totals.{sum-at, one-le}

module _ {X : Type 0} where
  zero-at : (g : X → ℕ) (xs : List X) (k : ℕ) (x : X) → sum_by g xs ≡ 0 → get_elem? xs k ≡ some x → g x ≡ 0
  zero-at g [] k x none at = absurd (some-ne-none x (sym at))
  zero-at g (y ∷ ys) zero x none at = let e : g y ≡ g x = ap g (some-injective y x at) in omega (arith, sum_by-cons g y ys, none, e)
  zero-at g (y ∷ ys) (suc k) x none at = zero-at g ys k x (omega (arith, sum_by-cons g y ys, none)) at

  zero-sum : (f g : X → ℕ) → ((x : X) → g x ≡ 0 → f x ≡ 0) → (xs : List X) → sum_by g xs ≡ 0 → sum_by f xs ≡ 0
  zero-sum f g h [] none = refl
  zero-sum f g h (x ∷ xs) none =
      let both : g x + sum_by g xs ≡ 0 = sym (sum_by-cons g x xs) ∙ none in
      omega (arith, sum_by-cons f x xs, h x (omega (arith, both)), zero-sum f g h xs (omega (arith, both)))

module _ (f g : Lists → ℕ) (h : (l : Lists) → g l ≡ 0 → f l ≡ 0) where
  zero-own : (b : Bool) (l : Lists) → cond b (g l) 0 ≡ 0 → cond b (f l) 0 ≡ 0
  zero-own true l none = h l none
  zero-own false l none = refl

  zero-total : (vs : List View) → total g vs ≡ 0 → total f vs ≡ 0
  zero-total vs none = zero-sum (in_view f) (in_view g) (λ v e. omega (arith, zero-own v.live v.own (omega (arith, e)), zero-sum f g h v.gathered (omega (arith, e)))) vs none

named : (a p : ℕ) → a ≡ p → one (a == p) ≡ 1
named a p e = grind (arith, nat_tests)

pub own-named : (p : ℕ) → (p == p) ≡ true
own-named p = grind (arith, nat_tests)

unnamed : (p i : ℕ) (l : Lists) → numbered p l ≡ 0 → put_by p i l ≡ 0
unnamed p i l h = by (l.number == p) h
  where
    by : (b : Bool) → one b ≡ 0 → cond b (put i l) 0 ≡ 0
    by true e = absurd (omega (arith, e))
    by false e = refl

pub once : (w p : ℕ) (vs : List View) → Numbers w vs → total (numbered p) vs ≤ 1
once w p vs r = omega (arith, r.each p, one-le (nat_lt p r.home.made))

module _ (vs : List View) (id : ℕ) (l : Lists) (at : get_elem? vs id ≡ some (pass_view l)) where
  without : (f : Lists → ℕ) → total f (set vs id spent_view) + f l ≡ total f vs
  without f = let s = sum-at (in_view f) vs id (pass_view l) spent_view at in omega (arith, s)

  pub some-named : (p : ℕ) → p ≡ l.number → 0 < total (numbered p) vs
  some-named p same = omega (arith, without (numbered p), named l.number p (sym same))

  module _ (only : total (numbered l.number) vs ≤ 1) where
    no-others : total (numbered l.number) (set vs id spent_view) ≡ 0
    no-others = omega (arith, without (numbered l.number), only, named l.number l.number refl)

    -- the entries of its number are its own
    pub own-entries : (i : ℕ) → total (put_by l.number i) vs ≡ put i l
    own-entries i =
        let rest : total (put_by l.number i) (set vs id spent_view) ≡ 0 = zero-total (put_by l.number i) (numbered l.number) (unnamed l.number i) (set vs id spent_view) no-others in
        let mine : put_by l.number i l ≡ put i l = ap (λ b. cond b (put i l) 0) (own-named l.number) in
        omega (arith, without (put_by l.number i), rest, mine)

    -- the passes at other seats have other numbers
    pub other-numbers : (seat : ℕ) (v : View) → seat ≢ id → get_elem? vs seat ≡ some v → EachPass (λ m. m.number ≢ l.number) v
    other-numbers seat v apart there =
        let none_there : in_view (numbered l.number) v ≡ 0 = zero-at (in_view (numbered l.number)) (set vs id spent_view) seat v no-others (set_else vs id seat spent_view apart ∙ there) in (
          (λ live same. let own : cond v.live (numbered l.number v.own) 0 ≡ 0 = omega (arith, none_there) in
              let it : numbered l.number v.own ≡ 0 = sym (ap (λ b. cond b (numbered l.number v.own) 0) live) ∙ own in
              absurd (omega (arith, it, named v.own.number l.number same))),
          (λ k m in_there same. let it : numbered l.number m ≡ 0 = zero-at (numbered l.number) v.gathered k m (omega (arith, none_there)) in_there in
              absurd (omega (arith, it, named m.number l.number same))),
        )
