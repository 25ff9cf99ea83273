-- Lists of checks, and those that keep what they found when more bytes come.
use Rattle.std.proofs.Common.{◌≡◌, ℕ, ◌≤◌, Bool, true, false, cond, nat_le, not, ◌==◌, ◌&&◌, List, [], ◌∷◌, ◌++◌, length, Option, Some, None, Ok, Err, refl, sym, ap, subst, ◌∙◌, true≢false, arith}
use Rattle.std.proofs.lemmas.Bool.{leb-true, le-leb, eqb-false, not-true, and_parts}
use Rattle.std.proofs.lemmas.List.{length-append}
use Rattle.rv_base.specs.declared.record.Refusal.{Refusal}
use Rattle.rv_rules.specs.Checks.{Check, first_broken, refused_by, unless_broken}

-- ---- what a list of checks answers

pub refused-by-ok : {A : Type 0} (i r : ℕ) (o : Option ℕ) (a b : A) → refused_by i r o a ≡ Ok b → (o ≡ None) × (a ≡ b)
refused-by-ok i r None a b e = (refl, cc)
refused-by-ok i r (Some rule) a b e = absurd cc

pub refused-by-err : {A : Type 0} (i r : ℕ) (o : Option ℕ) (a : A) (e : Refusal) → refused_by i r o a ≡ Err e → (rule : ℕ) × (o ≡ Some rule) × (record { shard = i; row = r; rule = rule } ≡ e)
refused-by-err i r None a e is = absurd cc
refused-by-err i r (Some rule) a e is = (rule, refl, cc)

-- each check holds
abbrev pub AllHold : List Check → Type 0
AllHold [] = Unit {0}
AllHold (c ∷ cs) = (c.1 ≡ true) × AllHold cs

pub all-hold : (cs : List Check) → first_broken cs ≡ None → AllHold cs
all-hold [] e = tt
all-hold (c ∷ cs) e = go c.1 refl e (all-hold cs)
  where
    go : (b : Bool) → c.1 ≡ b → cond b (first_broken cs) (Some c.0) ≡ None → (first_broken cs ≡ None → AllHold cs) → AllHold (c ∷ cs)
    go true f g later = (f, later g)
    go false f g later = absurd cc

-- ---- more bytes behind

-- each check but those of rule 1 finds the same; one of rule 1 that held holds
abbrev pub Keeps : List Check → List Check → Type 0
Keeps [] [] = Unit {0}
Keeps [] (d ∷ ds) = ⊥
Keeps (c ∷ cs) [] = ⊥
Keeps (c ∷ cs) (d ∷ ds) = (c.0 ≡ d.0) × (c.1 ≡ true → (d.1 ≡ true) × Keeps cs ds) × (c.1 ≡ false → ¬ (c.0 ≡ 1) → d.1 ≡ false)

pub Keeps-none : (cs ds : List Check) → Keeps cs ds → first_broken cs ≡ None → first_broken ds ≡ None
Keeps-none [] [] k e = refl
Keeps-none [] (d ∷ ds) k e = absurd k
Keeps-none (c ∷ cs) [] k e = absurd k
Keeps-none (c ∷ cs) (d ∷ ds) k e = go c.1 refl e (Keeps-none cs ds)
  where
    go : (b : Bool) → c.1 ≡ b → cond b (first_broken cs) (Some c.0) ≡ None → (Keeps cs ds → first_broken cs ≡ None → first_broken ds ≡ None) → first_broken (d ∷ ds) ≡ None
    go true f g later = ap (λ b. cond b (first_broken ds) (Some d.0)) ((k.1 f).0) ∙ later (k.1 f).1 g
    go false f g later = absurd cc

Keeps-some : (cs ds : List Check) (rule : ℕ) → Keeps cs ds → first_broken cs ≡ Some rule → ¬ (rule ≡ 1) → first_broken ds ≡ Some rule
Keeps-some [] [] rule k e not = absurd cc
Keeps-some [] (d ∷ ds) rule k e not = absurd k
Keeps-some (c ∷ cs) [] rule k e not = absurd k
Keeps-some (c ∷ cs) (d ∷ ds) rule k e not = go c.1 refl e (Keeps-some cs ds rule)
  where
    go : (b : Bool) → c.1 ≡ b → cond b (first_broken cs) (Some c.0) ≡ Some rule → (Keeps cs ds → first_broken cs ≡ Some rule → ¬ (rule ≡ 1) → first_broken ds ≡ Some rule) → first_broken (d ∷ ds) ≡ Some rule
    go true f g later = ap (λ b. cond b (first_broken ds) (Some d.0)) ((k.1 f).0) ∙ later (k.1 f).1 g not
    go false f g later =
        let same : c.0 ≡ rule = cc in
        ap (λ b. cond b (first_broken ds) (Some d.0)) (k.2 f (λ one. not (sym same ∙ one))) ∙ ap (λ n. Some n) (sym k.0 ∙ same)

-- a check that finds the same
pub Keeps-same : (rule : ℕ) (b e : Bool) (cs ds : List Check) → b ≡ e → Keeps cs ds → Keeps ((rule, b) ∷ cs) ((rule, e) ∷ ds)
Keeps-same rule b e cs ds is k = (refl, λ t. (sym is ∙ t, k), λ f not. sym is ∙ f)

-- a check that there are this many bytes
pub Keeps-room : (n m : ℕ) (xs ys : List ℕ) (cs ds : List Check) → n ≡ m → (n ≤ length xs → Keeps cs ds) → Keeps ((1, nat_le n (length xs)) ∷ cs) ((1, nat_le m (length (xs ++ ys))) ∷ ds)
Keeps-room n m xs ys cs ds is k = (
  refl,
  λ t.
      let le = leb-true n (length xs) t in
      let more : m ≤ length (xs ++ ys) = omega (arith, le, is, length-append xs ys) in
      (le-leb m (length (xs ++ ys)) more, k le),
  λ f not. absurd (not refl),
)

Keeps-refl : (cs : List Check) → Keeps cs cs
Keeps-refl [] = tt
Keeps-refl (c ∷ cs) = (refl, λ t. (t, Keeps-refl cs), λ f not. f)

pub Keeps-equal : (cs ds : List Check) → cs ≡ ds → Keeps cs ds
Keeps-equal cs ds e = subst (λ (es : List Check). Keeps cs es) e (Keeps-refl cs)

-- checks in front that stay the same
pub Keeps-append : (ms : List Check) (cs ds : List Check) → Keeps cs ds → Keeps (ms ++ cs) (ms ++ ds)
Keeps-append [] cs ds k = k
Keeps-append (m ∷ ms) cs ds k = (refl, λ t. (t, Keeps-append ms cs ds k), λ f not. f)

-- a refusal by another rule than 1 is kept
pub Keeps-refusal : {A B : Type 0} (i r : ℕ) (cs ds : List Check) (a : A) (b : B) (e : Refusal) → Keeps cs ds → unless_broken i r cs a ≡ Err e → ¬ (e.rule ≡ 1) → unless_broken i r ds b ≡ Err e
Keeps-refusal i r cs ds a b e k is not =
    let o = refused-by-err i r (first_broken cs) a e is in
    let rule : o.0 ≡ e.rule = ap (λ (z : Refusal). z.rule) o.2 in
    ap (λ x. refused_by i r x b) (Keeps-some cs ds o.0 k o.1 (λ one. not (sym rule ∙ one))) ∙ ap (λ (z : Refusal). Err z) o.2

-- ---- bytes enough

-- each check of rule 1 holds
abbrev pub Passed : List Check → Type 0
Passed [] = Unit {0}
Passed (c ∷ cs) = (c.0 ≡ 1 → c.1 ≡ true) × (c.1 ≡ true → Passed cs)

pub Passed-first_broken : (cs : List Check) (rule : ℕ) → Passed cs → first_broken cs ≡ Some rule → ¬ (rule ≡ 1)
Passed-first_broken [] rule p e one = absurd cc
Passed-first_broken (c ∷ cs) rule p e one = go c.1 refl e (Passed-first_broken cs rule)
  where
    go : (b : Bool) → c.1 ≡ b → cond b (first_broken cs) (Some c.0) ≡ Some rule → (Passed cs → first_broken cs ≡ Some rule → ¬ (rule ≡ 1)) → ⊥
    go true f g later = later (p.1 f) g one
    go false f g later = let same : c.0 ≡ rule = cc in true≢false (sym (p.0 (same ∙ one)) ∙ f)

-- a check of another rule
pub Passed-other : (rule : ℕ) (b : Bool) (cs : List Check) → (rule == 1) ≡ false → (b ≡ true → Passed cs) → Passed ((rule, b) ∷ cs)
Passed-other rule b cs not later = (λ e. absurd (eqb-false rule 1 not e), later)

-- none is of rule 1
abbrev pub are_others : List Check → Bool
are_others [] = true
are_others (c ∷ cs) = not (c.0 == 1) && are_others cs

pub Passed-others : (cs : List Check) → are_others cs ≡ true → Passed cs
Passed-others [] e = tt
Passed-others (c ∷ cs) e = let parts = and_parts (not (c.0 == 1)) (are_others cs) e in (λ one. absurd (eqb-false c.0 1 (not-true (c.0 == 1) parts.0) one), λ _. Passed-others cs parts.1)

-- a check that there are this many bytes, where there are
pub Passed-room : (n : ℕ) (xs : List ℕ) (cs : List Check) → n ≤ length xs → Passed cs → Passed ((1, nat_le n (length xs)) ∷ cs)
Passed-room n xs cs le later = (λ _. le-leb n (length xs) le, λ _. later)

-- checks of other rules in front
pub Passed-append : (ms cs : List Check) → are_others ms ≡ true → Passed cs → Passed (ms ++ cs)
Passed-append [] cs e passed = passed
Passed-append (m ∷ ms) cs e passed =
    let parts = and_parts (not (m.0 == 1)) (are_others ms) e in
    (λ one. absurd (eqb-false m.0 1 (not-true (m.0 == 1) parts.0) one), λ _. Passed-append ms cs parts.1 passed)
