-- What entering a piece keeps of a book.
use Rattle.std.specs.Option.{is_some}
use Rattle.std.proofs.Common.{◌≡◌, get_or, ◌≢◌, ℕ, zero, suc, ◌+◌, ◌<◌, ◌≤◌, Bool, true, false, cond, not, ◌&&◌, ◌||◌, List, [], ◌∷◌, ◌++◌, length, set, replicate, sym, refl, ap, ◌∙◌, subst, arith, length-set, length-append}
use Rattle.std.specs.Prelude.{Option, Some, None, count_by, slice_get, ◌==◌}
use Rattle.std.proofs.lemmas.Bool.{true≢false}
use Rattle.std.proofs.lemmas.Bool.Decides.{nat_tests}
use Rattle.std.proofs.Math.Bool.{or-false}
use Rattle.std.proofs.lemmas.List.{length-replicate}
use Rattle.std.proofs.lemmas.List.Sums.{sum_by-cons, fold-append}
use Rattle.std.proofs.lemmas.List.Folds.{list_any-append}
use mathlib.Core.Logic.{dite}
use native.Mathlib.Decide.{ℕ_discrete}
use Rattle.rv_rules.specs.Sums.{add_lanes}
use Rattle.rv_book.specs.declared.entry.Entry.{Entry}
use Rattle.rv_book.specs.declared.task.Piece.{Piece}
use Rattle.rv_book.specs.Journal.{entry, is_entered, named_once, total_of, lanes_at, lanes_of, zeros, read_lanes, write_lanes}
use Rattle.rv_book.specs.Book.{is_full, RepresentsBook}

pub some-inj : {X : Type 0} (d x y : X) → Some x ≡ Some y → x ≡ y
some-inj {X} d x y e = ap (or-else d) e
  where
    or-else : X → Option X → X
    or-else d None = d
    or-else d (Some z) = z

pub some-not-none : {X : Type 0} (x : X) → Some x ≡ None → ⊥
some-not-none {X} x e = true≢false (ap full e)
  where
    full : Option X → Bool
    full None = false
    full (Some z) = true

module _ {X : Type 0} where
  pub get-set-here : (xs : List X) (i : ℕ) (x a : X) → slice_get xs i ≡ Some a → slice_get (set xs i x) i ≡ Some x
  get-set-here [] i x a e = absurd (some-not-none a (sym e))
  get-set-here (y ∷ ys) zero x a e = refl
  get-set-here (y ∷ ys) (suc i) x a e = get-set-here ys i x a e

  pub get-set-else : (xs : List X) (i j : ℕ) (x : X) → j ≢ i → slice_get (set xs i x) j ≡ slice_get xs j
  get-set-else [] i j x n = refl
  get-set-else (y ∷ ys) zero zero x n = absurd (n refl)
  get-set-else (y ∷ ys) zero (suc j) x n = refl
  get-set-else (y ∷ ys) (suc i) zero x n = refl
  get-set-else (y ∷ ys) (suc i) (suc j) x n = get-set-else ys i j x (λ e. n (ap suc e))

  pub get-below : (xs : List X) (i : ℕ) (a : X) → slice_get xs i ≡ Some a → i < length xs
  get-below [] i a e = absurd (some-not-none a (sym e))
  get-below (y ∷ ys) zero a e = omega arith
  get-below (y ∷ ys) (suc i) a e = let h = get-below ys i a e in omega arith

  pub get-replicate : (n i : ℕ) (x : X) → i < n → slice_get (replicate n x) i ≡ Some x
  get-replicate zero i x lt = absurd (omega arith)
  get-replicate (suc n) zero x lt = refl
  get-replicate (suc n) (suc i) x lt = get-replicate n i x (omega arith)

abbrev full_one : Option Piece → ℕ
full_one o = cond (is_full o) 1 0

full-le : (o : Option Piece) → full_one o ≤ 1
full-le None = omega arith
full-le (Some p) = omega arith

-- the slots that are full
fills-one : (os : List (Option Piece)) (i : ℕ) (x : Piece) → slice_get os i ≡ Some None → count_by is_full (set os i (Some x)) ≡ count_by is_full os + 1
fills-one [] i x e = absurd (some-not-none None (sym e))
fills-one (o ∷ os) zero x e =
    let empty : full_one o ≡ 0 = ap full_one (some-inj None o None e) in
    omega (arith, sum_by-cons full_one (Some x) os, sum_by-cons full_one o os, empty)
fills-one (o ∷ os) (suc i) x e = omega (arith, sum_by-cons full_one o (set os i (Some x)), sum_by-cons full_one o os, fills-one os i x e)

fits-in : (os : List (Option Piece)) → count_by is_full os ≤ length os
fits-in [] = omega arith
fits-in (o ∷ os) = omega (arith, sum_by-cons full_one o os, full-le o, fits-in os)

none-full : (n : ℕ) → count_by is_full (replicate n None) ≡ 0
none-full zero = refl
none-full (suc n) = omega (arith, sum_by-cons full_one None (replicate n None), none-full n)

-- what a place reads
pub get-of : {X : Type 0} (xs : List X) (i : ℕ) (d x : X) → i < length xs → x ≡ get_or xs i d → slice_get xs i ≡ Some x
get-of [] i d x lt e = absurd (omega arith)
get-of (y ∷ ys) zero d x lt e = ap Some (sym e)
get-of (y ∷ ys) (suc i) d x lt e = get-of ys i d x (omega arith) e

pub none-of : (o : Option Piece) → is_some o ≡ false → o ≡ None
none-of None h = refl
none-of (Some p) h = absurd (true≢false h)

-- journals
entered-push : (i j p : ℕ) (es : List Entry) → is_entered j (es ++ entry p i ∷ []) ≡ (is_entered j es || (i == j))
entered-push i j p es = list_any-append (λ (e : Entry). e.index == j) es (entry p i ∷ []) ∙ ap (λ b. is_entered j es || b) (or-false (i == j))

left-false : (a b : Bool) → (a || b) ≡ false → (a ≡ false) × (b ≡ false)
left-false true b h = absurd (true≢false h)
left-false false b h = (refl, h)

and-true : (a b : Bool) → (a && b) ≡ true → (a ≡ true) × (b ≡ true)
and-true true b h = (refl, h)
and-true false b h = absurd (true≢false (sym h))

once-push : (i p : ℕ) (es : List Entry) → named_once es ≡ true → is_entered i es ≡ false → named_once (es ++ entry p i ∷ []) ≡ true
once-push i p [] once new = refl
once-push i p (e ∷ es) once new =
    let apart = left-false (e.index == i) (is_entered i es) new in
    let mine = and-true (not (is_entered e.index es)) (named_once es) once in
    let turned : (i == e.index) ≡ false = (let k : ℕ = e.index in let far : (k == i) ≡ false = apart.0 in let r : (i == k) ≡ false = grind (arith, nat_tests) in r) in
    let same : is_entered e.index (es ++ entry p i ∷ []) ≡ is_entered e.index es = entered-push i e.index p es ∙ ap (λ b. is_entered e.index es || b) turned ∙ or-false (is_entered e.index es) in
    ap (λ b. not b && named_once (es ++ entry p i ∷ [])) same ∙ ap (λ b. b && named_once (es ++ entry p i ∷ [])) mine.0 ∙ once-push i p es mine.1 apart.1

total-push : (f : Piece → List ℕ) (ps : List Piece) (es : List Entry) (i p : ℕ) (x : Piece) → slice_get ps i ≡ Some x
    → add_lanes (total_of f ps es) (f x) ≡ total_of f ps (es ++ entry p i ∷ [])
total-push f ps es i p x at =
    sym (fold-append (λ sum (e : Entry). add_lanes sum (lanes_at f ps e.index)) zeros es (entry p i ∷ []) ∙ ap (λ (o : Option Piece). add_lanes (total_of f ps es) (lanes_of f o)) at)

module _ (ps : List Piece) where
  pub begins : RepresentsBook ps (replicate (length ps) None) [] zeros zeros
  begins = record {
    long = length-replicate (length ps) None;
    slots = λ i lt. get-replicate (length ps) i None lt;
    within = λ i le. refl;
    count = none-full (length ps);
    once = refl;
    reads = refl;
    writes = refl;
  }

  module _ (os : List (Option Piece)) (es : List Entry) (rs ws : List ℕ) (r : RepresentsBook ps os es rs ws) where
    pub few : length es ≤ length ps
    few = omega (arith, r.count, r.long, fits-in os)

    pub room : (i : ℕ) (x : Piece) → slice_get os i ≡ Some None → length es < length ps
    room i x n = omega (arith, r.count, r.long, fills-one os i x n, fits-in (set os i (Some x)), length-set os i (Some x))

    module _ (i : ℕ) (x : Piece) (at : slice_get ps i ≡ Some x) where
      free : (b : Bool) → is_entered i es ≡ b → slice_get os i ≡ Some None → b ≡ false
      free false e n = refl
      free true e n =
          let full : slice_get os i ≡ Some (Some x) = r.slots i (get-below ps i x at) ∙ ap (λ b. Some (cond b (slice_get ps i) None)) e ∙ ap Some at in
          absurd (some-not-none x (some-inj None (Some x) None (sym full ∙ n)))

      pub not-entered : slice_get os i ≡ Some None → is_entered i es ≡ false
      not-entered n = free (is_entered i es) refl n

      taken : (b : Bool) → is_entered i es ≡ b → (y : Piece) → slice_get os i ≡ Some (Some y) → b ≡ true
      taken true e y n = refl
      taken false e y n =
          let empty : slice_get os i ≡ Some None = r.slots i (get-below ps i x at) ∙ ap (λ b. Some (cond b (slice_get ps i) None)) e in
          absurd (some-not-none y (sym (some-inj None None (Some y) (sym empty ∙ n))))

      pub entered : (y : Piece) → slice_get os i ≡ Some (Some y) → is_entered i es ≡ true
      entered y n = taken (is_entered i es) refl y n

      pub enters : (p : ℕ) → slice_get os i ≡ Some None → RepresentsBook ps (set os i (Some x)) (es ++ entry p i ∷ []) (add_lanes rs (read_lanes x)) (add_lanes ws (write_lanes x))
      enters p n =
          let new = not-entered n in
          record {
            long = length-set os i (Some x) ∙ r.long;
            slots = λ j lt. dite (ℕ_discrete j i)
                (λ same. subst (λ k. slice_get (set os i (Some x)) k ≡ Some (cond (is_entered k (es ++ entry p i ∷ [])) (slice_get ps k) None)) (sym same)
                (get-set-here os i (Some x) None n ∙ ap Some (sym (ap (λ b. cond b (slice_get ps i) None) (entered-push i i p es ∙ ap (λ b. is_entered i es || b) (let e : (i == i) ≡ true = grind (arith, nat_tests) in e) ∙ or-last (is_entered i es)) ∙ at))))
                (λ apart. get-set-else os i j (Some x) apart ∙ r.slots j lt ∙ ap (λ b. Some (cond b (slice_get ps j) None))
                (sym (entered-push i j p es ∙ ap (λ b. is_entered j es || b) (let e : (i == j) ≡ false = grind (arith, nat_tests) in e) ∙ or-false (is_entered j es))));
            within = λ j le. entered-push i j p es ∙ ap (λ b. is_entered j es || b) (let lt : i < length ps = get-below ps i x at in let e : (i == j) ≡ false = grind (arith, nat_tests) in e) ∙ or-false (is_entered j es) ∙ r.within j le;
            count = omega (arith, fills-one os i x n, r.count, length-append es (entry p i ∷ []));
            once = once-push i p es r.once new;
            reads = ap (λ s. add_lanes s (read_lanes x)) r.reads ∙ total-push read_lanes ps es i p x at;
            writes = ap (λ s. add_lanes s (write_lanes x)) r.writes ∙ total-push write_lanes ps es i p x at;
          }
        where
          or-last : (b : Bool) → (b || true) ≡ true
          or-last true = refl
          or-last false = refl
