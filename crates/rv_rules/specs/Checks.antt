-- Checks in order, of which the first that is broken is answered (this project's own).
use Rattle.std.specs.Prelude.{ℕ, Bool, List, [], ◌∷◌, Option, Some, None, Result, Ok, Err, if◌then◌else◌}
use Rattle.rv_base.specs.declared.record.Refusal.{Refusal}

-- a rule's number, and whether it holds
abbrev pub Check : Type 0
Check = ℕ × Bool

-- the first rule that is broken
abbrev pub first_broken : List Check → Option ℕ
first_broken [] = None
first_broken (c ∷ cs) = if c.1 then first_broken cs else Some c.0

abbrev pub refused_by : {A : Type 0} → ℕ → ℕ → Option ℕ → A → Result A Refusal
refused_by shard row None a = Ok a
refused_by shard row (Some rule) a = Err (record { shard = shard; row = row; rule = rule })

-- a value, where the checks at a place of the file hold
abbrev pub unless_broken : {A : Type 0} → ℕ → ℕ → List Check → A → Result A Refusal
unless_broken shard row cs a = refused_by shard row (first_broken cs) a

infixl 10 ◌>>=◌
abbrev pub ◌>>=◌ : {A B : Type 0} → Result A Refusal → (A → Result B Refusal) → Result B Refusal
(Ok a) >>= f = f a
(Err r) >>= f = Err r
