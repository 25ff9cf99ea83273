-- Runs that end with success within so many steps, told from behind.
use Rattle.std.proofs.Common.{◌≡◌, inl, inr, ℕ, zero, suc, ◌+◌, ◌-◌, ◌<◌, ◌≤◌, List, [], ◌∷◌, length, Some, None, refl, ◌∙◌, ap, subst, arith}
use Rattle.std.proofs.lemmas.Bool.{cases_lt}
use Rattle.rv_base.specs.declared.instr.Instr.{Instr}
use Rattle.rv_spec.specs.Words.{Memory}
use Rattle.rv_spec.specs.Elf.{Image}
use Rattle.rv_spec.specs.Step.{State, Transition, Next, Ends, step}
use Rattle.rv_spec.specs.Run.{state_after, end_of, run, end_at, EndsIn}
use Rattle.rv_gen.specs.Runs.{success}
use Rattle.rv_gen.proofs.Harmless.{AreHarmless}
use Rattle.rv_gen.proofs.Between.{data_start, Between, CodeAt}
use Rattle.rv_gen.proofs.BodySteps.{Moves, harmless-moves}

-- n steps go on, and the next one exits with code 0
abbrev pub EndsAfter : List ℕ → ℕ → State → Type 0
EndsAfter input zero s = step input s ≡ Ends success
EndsAfter input (suc n) s = (t : State) × (step input s ≡ Next t) × EndsAfter input n t

-- at most so many steps go on
pub record EndsWithin (input : List ℕ) (most : ℕ) (s : State) : Type 0 where
  pub steps : ℕ
  pub few : steps ≤ most
  pub ends : EndsAfter input steps s

module _ (input : List ℕ) where
  pub ends-now : (s : State) → step input s ≡ Ends success → EndsWithin input 0 s
  ends-now s e = record { steps = 0; few = omega arith; ends = e }

  pub step-before : (most : ℕ) (s t : State) → step input s ≡ Next t → EndsWithin input most t → EndsWithin input (suc most) s
  step-before most s t e w = record { steps = suc w.steps; few = (let few = w.few in omega arith); ends = (t, e, w.ends) }

  pub within-more : (most more : ℕ) (s : State) → most ≤ more → EndsWithin input most s → EndsWithin input more s
  within-more most more s h w = record { steps = w.steps; few = (let few = w.few in omega arith); ends = w.ends }

  -- ---- harmless instructions in a row

  module _ (m : Memory) (count : ℕ) where
    -- what a harmless step leads to
    step-behind : (k more : ℕ) (s : State) → Moves m data_start count k (step input s)
        → ((t : State) → Between m data_start count (suc k) t → EndsWithin input more t)
        → ((t : State) → Between m data_start count (suc (suc k)) t → EndsWithin input more t) → EndsWithin input (suc more) s
    step-behind k more s moves next skip = go (step input s) refl moves
      where
        go : (turn : Transition) → step input s ≡ turn → Moves m data_start count k turn → EndsWithin input (suc more) s
        go (Next t) e (inl b) = step-before more s t e (next t b)
        go (Next t) e (inr b) = step-before more s t e (skip t b)
        go (Ends x) e never = absurd never

    -- what ends from the instruction behind them, and from the one that the last of them may skip to, ends from the first of them
    pub row-ends : (is : List Instr) (k last most : ℕ) (s : State) → k + length is ≡ last → AreHarmless is → CodeAt m k is → Between m data_start count k s
        → ((t : State) → Between m data_start count last t → EndsWithin input most t)
        → ((t : State) → Between m data_start count (suc last) t → EndsWithin input most t) → EndsWithin input (length is + most) s
    row-ends [] k last most s e h c b behind skipped =
        let here : k ≡ last = omega arith in
        within-more most (0 + most) s (omega arith) (behind s (subst (λ j. Between m data_start count j s) here b))
    row-ends (i ∷ []) k last most s e h c b behind skipped =
        let next : suc k ≡ last = omega arith in
        let step_ends : EndsWithin input (suc most) s = step-behind k most s (harmless-moves input m count k i s h.0 c.0 b) (λ t at. behind t (subst (λ j. Between m data_start count j t) next at))
        (λ t at. skipped t (subst (λ j. Between m data_start count (suc j) t) next at)) in
        within-more (suc most) (1 + most) s (omega arith) step_ends
    row-ends (i ∷ j ∷ is) k last most s e h c b behind skipped =
        let more : ℕ = suc (length is) + most in
        let step_ends : EndsWithin input (suc more) s = step-behind k more s (harmless-moves input m count k i s h.0 c.0 b)
        (λ t at. row-ends (j ∷ is) (suc k) last most t (omega arith) h.1 c.1 at behind skipped)
        (λ t at. within-more (length is + most) more t (omega arith) (row-ends is (suc (suc k)) last most t (omega arith) h.1.1 c.1.1 at behind skipped)) in
        within-more (suc more) (suc (suc (length is)) + most) s (omega arith) step_ends

-- ---- runs

module _ (i : Image) (input : List ℕ) where
  -- from the state after k steps
  run-ends : (n k : ℕ) (s : State) → run i input k ≡ s → EndsAfter input n s → ((j : ℕ) → k ≤ j → j < k + n → end_at i input j ≡ None) × (end_at i input (k + n) ≡ Some success)
  unfolding run
  run-ends zero k s e ends =
      let last : end_at i input k ≡ Some success = ap (λ t. end_of (step input t)) e ∙ ap end_of ends in
      ((λ j low high. absurd (omega arith)), subst (λ j. end_at i input j ≡ Some success) (let here : k ≡ k + 0 = omega arith in here) last)
  run-ends (suc n) k s e ends =
      let steps : step input (run i input k) ≡ Next ends.0 = ap (step input) e ∙ ends.1 in
      let later = run-ends n (suc k) ends.0 (ap (state_after (run i input k)) steps) ends.2 in
      let here : end_at i input k ≡ None = ap end_of steps in (
        (λ j low high. elim (cases_lt k j) as (λ _. end_at i input j ≡ None) [
          | inl above ↦ later.0 j (omega arith) (omega arith)
          | inr below ↦ subst (λ l. end_at i input l ≡ None) (let same : k ≡ j = omega arith in same) here
        ]),
        subst (λ j. end_at i input j ≡ Some success) (let place : suc k + n ≡ k + suc n = omega arith in place) later.1,
      )

  pub ends-in : (n : ℕ) → EndsAfter input n (run i input 0) → EndsIn i input (suc n) success
  ends-in n ends =
      let both = run-ends n 0 (run i input 0) refl ends in
      record {
        some = omega arith;
        before = λ k below. both.0 k (omega arith) (omega arith);
        last = subst (λ j. end_at i input j ≡ Some success) (let place : 0 + n ≡ suc n - 1 = omega arith in place) both.1;
      }
