-- Reading step by step: what a step that did not fail says, and when a step does not fail.
use Rattle.std.proofs.Common.{◌≡◌, ℕ, List, Option, Some, None, Result, Ok, Err, refl, ap}
use Rattle.rv_base.specs.declared.record.Refusal.{Refusal}
use Rattle.rv_rules.specs.Checks.{Check, first_broken, refused_by, unless_broken, ◌>>=◌}

pub bind-ok : {A B : Type 0} (r : Result A Refusal) (f : A → Result B Refusal) (y : B) → (r >>= f) ≡ Ok y → (x : A) × (r ≡ Ok x) × (f x ≡ Ok y)
bind-ok (Ok x) f y e = (x, refl, e)
bind-ok (Err d) f y e = absurd cc

none-ok : {A : Type 0} (i r : ℕ) (o : Option ℕ) (a b : A) → refused_by i r o a ≡ Ok b → (o ≡ None) × (a ≡ b)
none-ok i r None a b e = (refl, cc)
none-ok i r (Some rule) a b e = absurd cc

pub unless-ok : {A : Type 0} (i r : ℕ) (cs : List Check) (a b : A) → unless_broken i r cs a ≡ Ok b → (first_broken cs ≡ None) × (a ≡ b)
unless-ok i r cs a b e = none-ok i r (first_broken cs) a b e

pub unless-holds : {A : Type 0} (i r : ℕ) (cs : List Check) (a : A) → first_broken cs ≡ None → unless_broken i r cs a ≡ Ok a
unless-holds i r cs a h = ap (λ o. refused_by i r o a) h

abbrev done : {A : Type 0} → A → Result A Refusal
done x = Ok x

pub ok-is : {A : Type 0} (x y : A) → done x ≡ done y → x ≡ y
ok-is x y e = cc
