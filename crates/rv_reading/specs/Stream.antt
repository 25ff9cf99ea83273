-- A reader that goes on from phase to phase, in one go or in any pieces.
use Rattle.std.specs.Prelude.{◌≡◌, ℕ, zero, suc, ◌<◌, Bool, List, ◌++◌, length, Option, Some, None, Result, Ok, Err, ◌==◌, if◌then◌else◌}
use Rattle.rv_base.specs.declared.rules.TheConstants.{SHORT}
use Rattle.rv_base.specs.declared.record.Refusal.{Refusal}
use Rattle.rv_rules.specs.Checks.{◌>>=◌}

-- What a step finds: a refusal, which is by rule 1 where more bytes may be missing; or the next phase and the bytes left; or None, where the reading may end.
abbrev pub Found : Type 0 → Type 0
Found P = Result (Option (P × List ℕ)) Refusal

-- A step of a phase, on the bytes from it on.
abbrev pub StepOf : Type 0 → Type 0
StepOf P = P → List ℕ → Found P

-- What a step found stays so, whatever bytes come behind.
pub record IsStream (P : Type 0) (step : StepOf P) : Type 0 where
  pub takes : (p q : P) (xs rest : List ℕ) → step p xs ≡ Ok (Some (q, rest)) → length rest < length xs
  pub goes : (p q : P) (xs rest ys : List ℕ) → step p xs ≡ Ok (Some (q, rest)) → step p (xs ++ ys) ≡ Ok (Some (q, rest ++ ys))
  pub stays : (p : P) (xs ys : List ℕ) (r : Refusal) → step p xs ≡ Err r → ¬ (r.rule ≡ SHORT) → step p (xs ++ ys) ≡ Err r

-- a phase and the bytes from it on, or a refusal
abbrev pub State : Type 0 → Type 0
State P = Result (P × List ℕ) Refusal

module _ {P : Type 0} where
  abbrev pub onwards : (P → List ℕ → State P) → P × List ℕ → Option (P × List ℕ) → State P
  onwards f here None = Ok here
  onwards f here (Some next) = f next.0 next.1

  -- in at most n steps
  unfoldable pub reads_in : StepOf P → ℕ → P → List ℕ → State P
  reads_in step zero p xs = Ok (p, xs)
  reads_in step (suc n) p xs = step p xs >>= onwards (reads_in step n) (p, xs)

  -- From a phase on: the phase in which the reading ends, and the bytes left; or a refusal. Each step takes a byte at least.
  abbrev pub reads : StepOf P → P → List ℕ → State P
  reads step p xs = reads_in step (suc (length xs)) p xs

  -- a refusal by rule 1 is no refusal yet
  abbrev pub with_patience : Found P → Found P
  with_patience (Ok x) = Ok x
  with_patience (Err r) = if r.rule == 1 then Ok None else Err r

  -- the step that waits where more bytes may be missing
  abbrev pub patient : StepOf P → StepOf P
  patient step p xs = with_patience (step p xs)

  -- the step that ends the reading where a test holds
  abbrev pub until : (P → Bool) → StepOf P → StepOf P
  until test step p xs = if test p then Ok None else step p xs

  -- as far as the bytes decide
  abbrev pub settle : StepOf P → P → List ℕ → State P
  settle step p xs = reads (patient step) p xs

  -- the state after a piece
  abbrev pub feed : StepOf P → State P → List ℕ → State P
  feed step s piece = s >>= λ x. settle step x.0 (x.1 ++ piece)

  -- what comes of a state, where these bytes follow and no more
  abbrev pub outcome : StepOf P → State P → List ℕ → State P
  outcome step s rest = s >>= λ x. reads step x.0 (x.1 ++ rest)
