-- No two tuples that are written have one cell and one time.
use Rattle.std.proofs.Common.{◌≡◌, ◌≢◌, ℕ, ◌+◌, ◌<◌, ◌≤◌, Bool, true, false, cond, ◌==◌, List, [], ◌∷◌, map, refl, sym, ◌∙◌, ap, subst, arith, eq-zero-or-pos, inl, inr}
use Rattle.std.specs.Prelude.{count_by}
use Rattle.std.specs.List.{AllByRecursion}
use Rattle.std.proofs.lemmas.List.Sums.{sum_by-cons, sum_by-append}
use Rattle.std.proofs.lemmas.Bool.{eqb-true}
use Rattle.rv_base.specs.declared.record.TableEntry.{TableEntry}
use Rattle.rv_spec.specs.Tuples.{Event, tuple_written, tuple_first, all_written}
use Rattle.rv_spec.specs.Grammar.{IsRising}
use Rattle.rv_rules.specs.Chain.{AllDiffer, AreOrdered, at, WrittenOnce}
use Rattle.rv_rules.proofs.Conjunctions.{left-true, right-true}

count-cons : {A : Type 0} (p : A → Bool) (x : A) (xs : List A) → count_by p (x ∷ xs) ≡ cond (p x) 1 0 + count_by p xs
count-cons p x xs = sum_by-cons (λ y. cond (p y) 1 0) x xs

-- the test passes at the elements with one key alone
Picks : {A B : Type 0} → (B → Bool) → (A → B) → (A → ℕ) → ℕ → Type 0
Picks {A} p f key k = (x : A) → p (f x) ≡ true → key x ≡ k

none-passes : {A B : Type 0} (p : B → Bool) (f : A → B) (key : A → ℕ) (k : ℕ) → Picks p f key k → (xs : List A) → AllByRecursion (λ y. k ≢ y) (map key xs) → count_by p (map f xs) ≡ 0
unfolding Picks
none-passes p f key k picks [] h = refl
none-passes p f key k picks (x ∷ xs) h =
    let fails : p (f x) ≡ false = elim (p (f x)) as (λ b. p (f x) ≡ b → b ≡ false) [ true ↦ λ e. absurd (h.0 (sym (picks x e))) | false ↦ λ e. refl ] refl in
    count-cons p (f x) (map f xs) ∙ ap (λ b. cond b 1 0 + count_by p (map f xs)) fails ∙ ap (λ n. 0 + n) (none-passes p f key k picks xs h.1)

one-passes : {A B : Type 0} (p : B → Bool) (f : A → B) (key : A → ℕ) (k : ℕ) → Picks p f key k → (xs : List A) → AllDiffer (map key xs) → count_by p (map f xs) ≤ 1
unfolding Picks
one-passes p f key k picks [] h = omega arith
one-passes p f key k picks (x ∷ xs) h =
    elim (p (f x)) as (λ b. p (f x) ≡ b → count_by p (map f (x ∷ xs)) ≤ 1) [
      | true ↦ λ e.
          let others : AllByRecursion (λ y. k ≢ y) (map key xs) = subst (λ n. AllByRecursion (λ y. n ≢ y) (map key xs)) (picks x e) h.0 in
          omega (arith, count-cons p (f x) (map f xs) ∙ ap (λ b. cond b 1 0 + count_by p (map f xs)) e, none-passes p f key k picks xs others)
      | false ↦ λ e. omega (arith, count-cons p (f x) (map f xs) ∙ ap (λ b. cond b 1 0 + count_by p (map f xs)) e, one-passes p f key k picks xs h.1)
    ] refl

-- numbers that rise differ
pub rising-differ : (xs : List ℕ) → IsRising xs → AllDiffer xs
rising-differ [] h = h
rising-differ (x ∷ xs) h = (less xs h.0, rising-differ xs h.1)
  where
    less : (ys : List ℕ) → AllByRecursion (λ y. x < y) ys → AllByRecursion (λ y. x ≢ y) ys
    less [] h = h
    less (y ∷ ys) h = ((λ e. absurd (omega arith)), less ys h.1)

-- all elements pass a test that they pass one by one
all-map : {A B : Type 0} (P : B → Type 0) (f : A → B) (Q : A → Type 0) → ((x : A) → Q x → P (f x)) → (xs : List A) → AllByRecursion Q xs → AllByRecursion P (map f xs)
all-map P f Q each [] h = h
all-map P f Q each (x ∷ xs) h = (each x h.0, all-map P f Q each xs h.1)

pub written-once : (initial : ℕ → ℕ) (es : List Event) (table : List TableEntry) (bound : ℕ) → AreOrdered es table bound → WrittenOnce (all_written initial es table)
unfolding Picks
written-once initial es table bound o c t =
    let split = sum_by-append (λ w. cond (at c t w) 1 0) (map tuple_written es) (map (tuple_first initial) table) in
    let own = one-passes (at c t) tuple_written (λ e. e.time) t (λ e h. eqb-true e.time t (right-true (e.cell == c) (e.time == t) h)) es o.differ in
    let first = one-passes (at c t) (tuple_first initial) (λ e. e.cell) c (λ e h. eqb-true e.cell c (left-true (e.cell == c) (0 == t) h)) table (rising-differ _ o.rising) in
    elim (eq-zero-or-pos t) [
      | inl none ↦
          let no_own : count_by (at c t) (map tuple_written es) ≡ 0 = none-passes (at c t) tuple_written (λ e. e.time) t (λ e h. eqb-true e.time t (right-true (e.cell == c) (e.time == t) h)) es
          (all-map (λ y. t ≢ y) (λ e. e.time) (λ e. e.prev < e.time) (λ e h same. absurd (omega arith)) es o.earlier) in
          omega (arith, split, first, no_own)
      | inr some ↦
          let no_first : count_by (at c t) (map (tuple_first initial) table) ≡ 0 = none-passes (at c t) (tuple_first initial) (λ e. 0) t (λ e h. eqb-true 0 t (right-true (e.cell == c) (0 == t) h)) table
          (all-map (λ y. t ≢ y) (λ e. 0) (λ e. 0 < e.time) (λ e h same. absurd (omega arith)) table o.after_start) in
          omega (arith, split, own, no_first)
    ]
