-- Lists that are filled from the front on.
use Rattle.std.proofs.Common.{◌≡◌, ℕ, ◌+◌, ◌<◌, ◌≤◌, List, length, map, get_or, set, length-set, get_or-set_same, get_or-set_other, subst, ◌∙◌, inl, inr, arith}
use Rattle.std.specs.List.{range_with_len}
use Rattle.std.proofs.lemmas.Bool.{cases_lt}
use Rattle.std.proofs.lemmas.List.FromFn.{fill_by_all}

-- the list has n places, and the first k hold what a function gives
pub record IsFilled {A : Type 0} (f : ℕ → A) (d : A) (n k : ℕ) (xs : List A) : Type 0 where
  pub long : length xs ≡ n
  pub each : (j : ℕ) → j < k → get_or xs j d ≡ f j

module _ {A : Type 0} (f : ℕ → A) (d : A) (n : ℕ) where
  pub filled-more : (k : ℕ) (xs : List A) (x : A) → k < n → x ≡ f k → IsFilled f d n k xs → IsFilled f d n (k + 1) (set xs k x)
  filled-more k xs x lt is filled = record {
    long = length-set xs k x ∙ filled.long;
    each = λ j less. elim (cases_lt j k) [
      | inl below ↦ get_or-set_other xs k j x d (λ same. absurd (omega (arith, same, below))) ∙ filled.each j below
      | inr above ↦ (let same : k ≡ j = omega (arith, less, above) in subst (λ m. get_or (set xs k x) m d ≡ f m) same (get_or-set_same xs k x d (omega (arith, lt, filled.long)) ∙ is))
    ];
  }

  pub all-filled : (k : ℕ) (xs : List A) → n ≤ k → IsFilled f d n k xs → xs ≡ map f (range_with_len 0 n)
  all-filled k xs le filled = fill_by_all f xs n d filled.long (λ j less. filled.each j (omega (arith, less, le)))
