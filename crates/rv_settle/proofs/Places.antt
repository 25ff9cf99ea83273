-- The element at a place of a list.
use Rattle.std.proofs.Common.{◌≡◌, ℕ, zero, suc, ◌+◌, ◌<◌, List, [], ◌∷◌, ◌++◌, length, take, drop, Some, None, refl, sym, ap, ◌∙◌, arith}
use Rattle.std.specs.Prelude.{slice_get}
use Rattle.std.specs.List.{AllByRecursion}
use Rattle.rv_base.specs.declared.record.Header.{Header}
use Rattle.rv_spec.specs.Record.{Shard}
use Rattle.rv_spec.specs.Grammar.{ShardFits, ShardsFit}

-- x is the element at a place
pub record IsAt {A : Type 0} (xs : List A) (i : ℕ) (x : A) : Type 0 where
  pub behind : drop i xs ≡ x ∷ drop (i + 1) xs
  pub front : take (i + 1) xs ≡ take i xs ++ x ∷ []

first-at : {A : Type 0} (x : A) (xs : List A) → IsAt (x ∷ xs) 0 x
first-at x xs = record { behind = refl; front = refl }

later-at : {A : Type 0} (y : A) (xs : List A) (i : ℕ) (x : A) → IsAt xs i x → IsAt (y ∷ xs) (suc i) x
later-at y xs i x at =
    let next : suc (i + 1) ≡ suc i + 1 = omega arith in
    record {
      behind = at.behind ∙ ap (λ n. x ∷ drop n (y ∷ xs)) next;
      front = ap (λ n. take n (y ∷ xs)) (sym next) ∙ ap (λ zs. y ∷ zs) at.front;
    }

-- what holds of each element holds of the one at a place
pub place-of : {A : Type 0} (P : A → Type 0) (xs : List A) (i : ℕ) → i < length xs → AllByRecursion P xs → (x : A) × IsAt xs i x × P x
place-of P [] i lt all = absurd (omega (arith, lt))
place-of P (x ∷ xs) zero lt all = (x, first-at x xs, all.0)
place-of P (x ∷ xs) (suc i) lt all =
    let more = place-of P xs i (omega (arith, lt)) all.1 in
    (more.0, later-at x xs i more.0 more.1, more.2)

-- of the shards from shard i on
pub shard-at : (h : Header) (i : ℕ) (ss : List Shard) (k : ℕ) → k < length ss → ShardsFit h i ss → (s : Shard) × IsAt ss k s × ShardFits h (i + k) s
shard-at h i [] k lt fit = absurd (omega (arith, lt))
shard-at h i (s ∷ ss) zero lt fit = (s, first-at s ss, let e : i ≡ i + 0 = omega arith in rw (← e) fit.0)
shard-at h i (s ∷ ss) (suc k) lt fit =
    let more = shard-at h (i + 1) ss k (omega (arith, lt)) fit.1 in
    let e : i + 1 + k ≡ i + suc k = omega arith in
    (more.0, later-at s ss k more.0 more.1, rw (← e) more.2)

-- an element that was got is at its place
pub got-at : {A : Type 0} (xs : List A) (i : ℕ) (x : A) → slice_get xs i ≡ Some x → IsAt xs i x
got-at [] i x e = absurd cc
got-at (y ∷ xs) zero x e = let same : y ≡ x = cc in rw (← same) (first-at y xs)
got-at (y ∷ xs) (suc i) x e = later-at y xs i x (got-at xs i x e)

-- below the length there is one
pub is-there : {A : Type 0} (xs : List A) (i : ℕ) → i < length xs → slice_get xs i ≡ None → ⊥
is-there [] i lt e = omega (arith, lt)
is-there (x ∷ xs) zero lt e = cc
is-there (x ∷ xs) (suc i) lt e = is-there xs i (omega (arith, lt)) e
