-- What `eq` answers of two iterators of numbers, by their lists.
use Rattle.std.proofs.Common.{◌≡◌, ℕ, Bool, true, false, ◌&&◌, ◌==◌, List, [], ◌∷◌, Option, Some, None, sym, ◌∙◌, ap, ap₂, subst, bytes_eq}
use Rattle.std.specs.Iterator.{AlwaysYields, YieldsThen, ComparesItemsByEq}
use Rattle.std.specs.List.{AllZip}
use Rattle.std.specs.Option.{MatchOption, IfSome}
use Rattle.std.proofs.lemmas.Iterator.{YieldsList}

module _ {S T A : Type 0} (steps : S → Option A → S → Type 0) (others : T → Option A → T → Type 0) (v : A → ℕ) (eq : A → A → Bool) (agree : (x y : A) → eq x y ≡ (v x == v y)) (r : Bool) where
  -- what the two answers that ended the comparison tell
  abbrev Last : Option A → Option A → Type 0
  Last o p = MatchOption o (MatchOption p (r ≡ true) (λ _. r ≡ false)) (λ x. (r ≡ false) × IfSome p (λ y. eq x y ≡ false))

  at-last : (o p : Option A) (xs ys : List ℕ) (s u : S) (t w : T) → AlwaysYields steps v s xs → AlwaysYields others v t ys → steps s o u → others t p w → Last o p → r ≡ bytes_eq xs ys
  at-last None None (x ∷ xs) ys s u t w e f a b h = absurd (e.0 u a)
  at-last None (Some y) (x ∷ xs) ys s u t w e f a b h = absurd (e.0 u a)
  at-last (Some x) None [] ys s u t w e f a b h = absurd (e x u a)
  at-last (Some x) (Some y) [] ys s u t w e f a b h = absurd (e x u a)
  at-last None None [] (y ∷ ys) s u t w e f a b h = absurd (f.0 w b)
  at-last None (Some y) [] [] s u t w e f a b h = absurd (f y w b)
  at-last (Some x) None (z ∷ xs) (y ∷ ys) s u t w e f a b h = absurd (f.0 w b)
  at-last (Some x) (Some y) (z ∷ xs) [] s u t w e f a b h = absurd (f y w b)
  at-last None None [] [] s u t w e f a b h = h
  at-last None (Some y) [] (z ∷ ys) s u t w e f a b h = h
  at-last (Some x) None (z ∷ xs) [] s u t w e f a b h = h.0
  at-last (Some x) (Some y) (k ∷ xs) (n ∷ ys) s u t w e f a b h =
      let differ : false ≡ (k == n) = sym h.1 ∙ agree x y ∙ ap₂ (λ i j. i == j) (e.1 x u a).0 (f.1 y w b).0 in
      h.0 ∙ ap (λ b. b && bytes_eq xs ys) differ

  along : (cs bs : List A) (o p : Option A) (xs ys : List ℕ) (s u : S) (t w : T) → AlwaysYields steps v s xs → AlwaysYields others v t ys
      → YieldsThen steps s cs o u → YieldsThen others t bs p w → AllZip (λ x y. eq x y ≡ true) cs bs → Last o p → r ≡ bytes_eq xs ys
  along [] [] o p xs ys s u t w e f a b z h = at-last o p xs ys s u t w e f (subst (λ j. steps j o u) (sym a.1) a.2) (subst (λ j. others j p w) (sym b.1) b.2) h
  along [] (y ∷ bs) o p xs ys s u t w e f a b z h = absurd z
  along (x ∷ cs) [] o p xs ys s u t w e f a b z h = absurd z
  along (x ∷ cs) (y ∷ bs) o p [] ys s u t w e f a b z h = absurd (e x a.1.0 a.1.1)
  along (x ∷ cs) (y ∷ bs) o p (k ∷ xs) [] s u t w e f a b z h = absurd (f y b.1.0 b.1.1)
  along (x ∷ cs) (y ∷ bs) o p (k ∷ xs) (n ∷ ys) s u t w e f a b z h =
      let m = e.1 x a.1.0 a.1.1 in
      let l = f.1 y b.1.0 b.1.1 in
      let same : true ≡ (k == n) = sym z.0 ∙ agree x y ∙ ap₂ (λ i j. i == j) m.0 l.0 in
      along cs bs o p xs ys a.1.0 u b.1.0 w m.1 l.1 (a.0, a.1.2, a.2) (b.0, b.1.2, b.2) z.1 h ∙ ap (λ b. b && bytes_eq xs ys) same

-- `eq` of two iterators is `==` of their lists
pub eq-from-yields-List : {S U T A : Type 0} {steps : S → Option A → S → Type 0} {others : T → Option A → T → Type 0} {v : A → ℕ} {s : S} {eq : A → A → Bool} {xs ys : List ℕ}
    (becomes : U → T → Type 0) (other : U) (r : Bool) → ComparesItemsByEq steps becomes others s other eq r
    → YieldsList steps v s xs → ((it : T) → becomes other it → YieldsList others v it ys) → ((x y : A) → eq x y ≡ (v x == v y)) → r ≡ bytes_eq xs ys
eq-from-yields-List {steps = steps} {others = others} {v = v} {s = s} {eq = eq} {xs = xs} {ys = ys} becomes other r d e f agree =
    along steps others v eq agree r d.1 d.2 d.3 d.4 xs ys s d.5 d.0 d.6 e.runs (f d.0 d.7).runs d.8 d.9 d.10 d.11
