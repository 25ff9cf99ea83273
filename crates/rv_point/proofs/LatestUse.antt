-- The last use of a cell before a time: as the greatest of the times before it, where lists are cut, and where a cell isn't used.
use Rattle.std.proofs.Common.{◌≡◌, ◌≢◌, ◌⊎◌, ℕ, ◌<◌, ◌≤◌, Bool, true, false, cond, ◌==◌, List, [], ◌∷◌, ◌++◌, filter, refl, sym, ◌∙◌, ap, subst, inl, inr, arith}
use Rattle.std.proofs.lemmas.Bool.{eqb-true, eqb-false, cases_lt}
use Rattle.rv_base.specs.declared.record.Tuple.{Tuple}
use Rattle.rv_spec.specs.Trace.{last_use}
use Rattle.rv_rules.specs.Membership.{In}
use Rattle.rv_rules.proofs.Lemmas.{last_use-is, in-append, in-left}

-- the time of a use of the cell, or 0
abbrev pub IsUse : List Tuple → ℕ → ℕ → ℕ → Type 0
IsUse ts c t p = (p ≡ 0) ⊎ ((w : Tuple) × In w ts × (w.cell ≡ c) × (w.time ≡ p) × (p < t))

-- the greatest time of a use of the cell before a time, or 0
pub record IsLatest (ts : List Tuple) (c t p : ℕ) : Type 0 where
  pub most : (w : Tuple) → In w ts → w.cell ≡ c → w.time < t → w.time ≤ p
  pub some : IsUse ts c t p

also-later : (x : Tuple) (xs : List Tuple) (c t p : ℕ) → IsUse xs c t p → IsUse (x ∷ xs) c t p
also-later x xs c t p (inl none) = inl none
also-later x xs c t p (inr u) = inr (u.0, inr u.1, u.2, u.3, u.4)

found : (ts : List Tuple) (c t : ℕ) → (p : ℕ) × IsLatest ts c t p
found [] c t = (0, record { most = λ w m. absurd m; some = inl refl })
found (x ∷ xs) c t =
    let r = found xs c t in
    let p : ℕ = r.0 in
    let is : IsLatest xs c t p = r.1 in
    let kept : (x.cell ≡ c → x.time < t → x.time ≤ p) → IsLatest (x ∷ xs) c t p = λ low. record {
      most = λ w m cell early. elim m [
        | inl same ↦ (let bound : x.time ≤ p = low (ap (λ (z : Tuple). z.cell) (sym same) ∙ cell) (omega (arith, ap (λ (z : Tuple). z.time) same)) in omega (arith, bound, ap (λ (z : Tuple). z.time) same))
        | inr k ↦ is.most w k cell early
      ];
      some = also-later x xs c t p is.some;
    } in
    elim (x.cell == c) as (λ b. (x.cell == c) ≡ b → (q : ℕ) × IsLatest (x ∷ xs) c t q) [
      | false ↦ λ e. (p, kept (λ cell early. absurd (eqb-false x.cell c e cell)))
      | true ↦ λ e. elim (cases_lt x.time t) [
        | inr late ↦ (p, kept (λ cell early. absurd (omega arith)))
        | inl early ↦ elim (cases_lt p x.time) [
          | inr low ↦ (p, kept (λ cell earlier. low))
          | inl high ↦ (
            x.time,
            record {
              most = λ w m cell before. elim m [
                | inl same ↦ omega (arith, ap (λ (z : Tuple). z.time) same)
                | inr k ↦ omega (arith, is.most w k cell before)
              ];
              some = inr (x, inl refl, eqb-true x.cell c e, refl, early);
            },
          )
        ]
      ]
    ] refl

pub latest : (ts : List Tuple) (c t : ℕ) → IsLatest ts c t (last_use ts c t)
latest ts c t =
    let r = found ts c t in
    let is : IsLatest ts c t r.0 = r.1 in
    subst (IsLatest ts c t) (sym (last_use-is ts c t r.0 is.most is.some)) is

-- ---- lists cut in two

use-left : (xs ys : List Tuple) (c t p : ℕ) → IsUse xs c t p → IsUse (xs ++ ys) c t p
use-left xs ys c t p (inl none) = inl none
use-left xs ys c t p (inr u) = inr (u.0, in-left u.0 xs ys u.1, u.2, u.3, u.4)

use-before : (xs : List Tuple) (c s t p : ℕ) → s ≤ t → IsUse xs c s p → IsUse xs c t p
use-before xs c s t p le (inl none) = inl none
use-before xs c s t p le (inr u) = let less : p < s = u.4 in inr (u.0, u.1, u.2, u.3, omega arith)

-- uses from the time on don't count
pub last_use-cut : (before later : List Tuple) (c t : ℕ) → ((w : Tuple) → In w later → t ≤ w.time) → last_use (before ++ later) c t ≡ last_use before c t
last_use-cut before later c t late =
    let p : ℕ = last_use before c t in
    let is : IsLatest before c t p = latest before c t in
    last_use-is (before ++ later) c t p (λ w m cell early. elim (in-append w before later m) [ inl k ↦ is.most w k cell early | inr k ↦ absurd (omega (arith, late w k)) ]) (use-left before later c t p is.some)

-- where a cell isn't used from a time on, its last use is the one before that time
pub last_use-unused : (before later : List Tuple) (c s t : ℕ) → s ≤ t → ((w : Tuple) → In w before → w.time < s) → ((w : Tuple) → In w later → w.cell ≢ c) → last_use (before ++ later) c t ≡ last_use before c s
last_use-unused before later c s t le early none =
    let p : ℕ = last_use before c s in
    let is : IsLatest before c s p = latest before c s in
    last_use-is (before ++ later) c t p (λ w m cell less. elim (in-append w before later m) [ inl k ↦ is.most w k cell (early w k) | inr k ↦ absurd (none w k cell) ])
    (use-left before later c t p (use-before before c s t p le is.some))

-- it is no later than the time
pub last_use-le : (ts : List Tuple) (c t : ℕ) → last_use ts c t ≤ t
last_use-le ts c t = elim (latest ts c t).some [ inl none ↦ omega (arith, none) | inr u ↦ omega (arith, u.4) ]

-- ---- the uses of some cells alone

module _ (p : ℕ → Bool) where
  abbrev pub of_cells : List Tuple → List Tuple
  of_cells ts = filter (λ t. p t.cell) ts

  pub in-kept : (w : Tuple) (ts : List Tuple) → In w ts → p w.cell ≡ true → In w (of_cells ts)
  in-kept w [] m e = absurd m
  in-kept w (x ∷ xs) m e =
      elim (p x.cell) as (λ b. p x.cell ≡ b → In w (cond b (x ∷ of_cells xs) (of_cells xs))) [
        | true ↦ λ is. elim m [ inl same ↦ inl same | inr k ↦ inr (in-kept w xs k e) ]
        | false ↦ λ is. elim m [
          | inl same ↦ (let no : ⊥ = (let other : p w.cell ≡ false = ap (λ (z : Tuple). p z.cell) same ∙ is in cc) in absurd no)
          | inr k ↦ in-kept w xs k e
        ]
      ] refl

  pub kept-in : (w : Tuple) (ts : List Tuple) → In w (of_cells ts) → In w ts × (p w.cell ≡ true)
  kept-in w [] m = absurd m
  kept-in w (x ∷ xs) m =
      elim (p x.cell) as (λ b. p x.cell ≡ b → In w (cond b (x ∷ of_cells xs) (of_cells xs)) → In w (x ∷ xs) × (p w.cell ≡ true)) [
        | true ↦ λ is k. elim k [
          | inl same ↦ (inl same, ap (λ (z : Tuple). p z.cell) same ∙ is)
          | inr h ↦ (let r = kept-in w xs h in (inr r.0, r.1))
        ]
        | false ↦ λ is k. (let r = kept-in w xs k in (inr r.0, r.1))
      ] refl m

  -- the last use of one of them is the same
  pub last_use-kept : (ts : List Tuple) (c t : ℕ) → p c ≡ true → last_use (of_cells ts) c t ≡ last_use ts c t
  last_use-kept ts c t e =
      let q : ℕ = last_use ts c t in
      let is : IsLatest ts c t q = latest ts c t in
      last_use-is (of_cells ts) c t q (λ w m cell early. is.most w (kept-in w ts m).0 cell early)
      (elim is.some [ inl none ↦ inl none | inr u ↦ inr (u.0, in-kept u.0 ts u.1 (ap p u.2 ∙ e), u.2, u.3, u.4) ])

  -- and of any other there is none
  pub last_use-dropped : (ts : List Tuple) (c t : ℕ) → p c ≡ false → last_use (of_cells ts) c t ≡ 0
  last_use-dropped ts c t e =
      last_use-is (of_cells ts) c t 0 (λ w m cell early. (let no : ⊥ = (let yes : p w.cell ≡ true = (kept-in w ts m).1 in let other : p w.cell ≡ false = ap p cell ∙ e in cc) in absurd no)) (inl refl)
