-- Steps that may refuse, one after another.
use Rattle.std.proofs.Common.{◌≡◌, ℕ, List, Option, Some, None, Result, Ok, Err, refl, ap}
use Rattle.rv_base.specs.declared.record.Refusal.{Refusal}
use Rattle.rv_rules.specs.Checks.{Check, first_broken, refused_by, unless_broken, ◌>>=◌}

pub bind-assoc : {A B C : Type 0} (r : Result A Refusal) (f : A → Result B Refusal) (g : B → Result C Refusal) → ((r >>= f) >>= g) ≡ (r >>= λ x. f x >>= g)
bind-assoc (Ok x) f g = refl
bind-assoc (Err e) f g = refl

pub bind-same : {A B : Type 0} (r : Result A Refusal) (f g : A → Result B Refusal) → ((x : A) → r ≡ Ok x → f x ≡ g x) → (r >>= f) ≡ (r >>= g)
bind-same (Ok x) f g same = same x refl
bind-same (Err e) f g same = refl

-- a value comes from a first step and then a second
pub bind-ok : {A B : Type 0} (r : Result A Refusal) (f : A → Result B Refusal) (y : B) → (r >>= f) ≡ Ok y → (x : A) × (r ≡ Ok x) × (f x ≡ Ok y)
bind-ok (Ok x) f y e = (x, refl, e)
bind-ok (Err d) f y e = absurd cc

-- the same checks, and then the same
pub checks-bind : {A B C : Type 0} (i r : ℕ) (cs : List Check) (a : A) (b : B) (f : A → Result C Refusal) (g : B → Result C Refusal) → f a ≡ g b → (unless_broken i r cs a >>= f) ≡ (unless_broken i r cs b >>= g)
checks-bind i r cs a b f g same = go (first_broken cs)
  where
    go : (o : Option ℕ) → (refused_by i r o a >>= f) ≡ (refused_by i r o b >>= g)
    go None = same
    go (Some rule) = refl

-- checks, and then a value
pub checks-value : {A B : Type 0} (i r : ℕ) (cs : List Check) (a : A) (b : B) (f : A → Result B Refusal) → f a ≡ Ok b → (unless_broken i r cs a >>= f) ≡ unless_broken i r cs b
checks-value i r cs a b f e = go (first_broken cs)
  where
    go : (o : Option ℕ) → (refused_by i r o a >>= f) ≡ refused_by i r o b
    go None = e
    go (Some rule) = refl

-- what is done behind checks that hold
pub checks-same : {A B : Type 0} (i r : ℕ) (cs : List Check) (a : A) (f g : A → Result B Refusal) → (first_broken cs ≡ None → f a ≡ g a) → (unless_broken i r cs a >>= f) ≡ (unless_broken i r cs a >>= g)
checks-same i r cs a f g same = go (first_broken cs) refl
  where
    go : (o : Option ℕ) → first_broken cs ≡ o → (refused_by i r o a >>= f) ≡ (refused_by i r o a >>= g)
    go None e = same e
    go (Some rule) e = refl

-- where checks refuse, nothing is done behind them
pub checks-refuse : {A B C : Type 0} (i r : ℕ) (cs : List Check) (a : A) (b : B) (f : B → Result C Refusal) (e : Refusal) → unless_broken i r cs a ≡ Err e → (unless_broken i r cs b >>= f) ≡ Err e
checks-refuse i r cs a b f e = go (first_broken cs)
  where
    go : (o : Option ℕ) → refused_by i r o a ≡ Err e → (refused_by i r o b >>= f) ≡ Err e
    go None is = absurd cc
    go (Some rule) is = let same : record { shard = i; row = r; rule = rule } ≡ e = cc in ap (λ (z : Refusal). Err z) same
