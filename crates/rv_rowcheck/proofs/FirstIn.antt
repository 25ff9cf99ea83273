-- The first access in each slot, looked for from the last access on.
use Rattle.std.proofs.Common.{◌≡◌, ◌≢◌, ℕ, ◌<◌, Bool, true, false, cond, ◌==◌, List, [], ◌∷◌, ◌++◌, length, refl, sym, ◌∙◌, ap, find, option_map, unwrap_or, Some, slice_index, slice_set}
use Rattle.std.proofs.lemmas.Bool.{eqb-true, eqb-false, ne_eqb}
use Rattle.std.proofs.lemmas.List.{get_or-set_other}
use Rattle.std.proofs.lemmas.Grind.{get_or-set_at}
use Rattle.rv_base.specs.declared.record.Access.{Access}

-- the old value of the first access in a slot, or this one
abbrev pub old_in_or : ℕ → List Access → ℕ → ℕ
old_in_or value accesses slot = unwrap_or (option_map (λ a. a.old) (find (λ a. a.slot == slot) accesses)) value

-- the last access decides only where none before it does
old_in_or-last : (value : ℕ) (accesses : List Access) (a : Access) (slot : ℕ) → old_in_or value (accesses ++ a ∷ []) slot ≡ old_in_or (cond (a.slot == slot) a.old value) accesses slot
old_in_or-last value [] a slot = go (a.slot == slot)
  where
    go : (b : Bool) → unwrap_or (option_map (λ (x : Access). x.old) (cond b (Some a) (find (λ (x : Access). x.slot == slot) []))) value ≡ cond b a.old value
    go true = refl
    go false = refl
old_in_or-last value (b ∷ accesses) a slot = go (b.slot == slot) (old_in_or-last value accesses a slot)
  where
    go : (c : Bool) → old_in_or value (accesses ++ a ∷ []) slot ≡ old_in_or (cond (a.slot == slot) a.old value) accesses slot
        → unwrap_or (option_map (λ (x : Access). x.old) (cond c (Some b) (find (λ (x : Access). x.slot == slot) (accesses ++ a ∷ [])))) value
        ≡ unwrap_or (option_map (λ (x : Access). x.old) (cond c (Some b) (find (λ (x : Access). x.slot == slot) accesses))) (cond (a.slot == slot) a.old value)
    go true e = refl
    go false e = e

-- what stands in a slot after the write of one
written : (values : List ℕ) (index value slot : ℕ) → index < length values → slice_index (slice_set values index value) slot ≡ cond (index == slot) value (slice_index values slot)
written values index value slot within = go (index == slot) refl
  where
    go : (b : Bool) → (index == slot) ≡ b → slice_index (slice_set values index value) slot ≡ cond b value (slice_index values slot)
    go true e = get_or-set_at values index slot value 0 (sym (eqb-true index slot e)) within
    go false e = get_or-set_other values index slot value 0 (λ same. eqb-false index slot e (sym same))

module _ (values : List ℕ) (accesses : List Access) (a : Access) (slot : ℕ) where
  -- an access whose old value is written down
  pub old_in_or-written : (index : ℕ) → index ≡ a.slot → index < length values → old_in_or (slice_index (slice_set values index a.old) slot) accesses slot ≡ old_in_or (slice_index values slot) (accesses ++ a ∷ []) slot
  old_in_or-written index is within =
      ap (λ v. old_in_or v accesses slot) (written values index a.old slot within ∙ ap (λ i. cond (i == slot) a.old (slice_index values slot)) is)
      ∙ sym (old_in_or-last (slice_index values slot) accesses a slot)

  -- an access in another slot
  pub old_in_or-other : a.slot ≢ slot → old_in_or (slice_index values slot) accesses slot ≡ old_in_or (slice_index values slot) (accesses ++ a ∷ []) slot
  old_in_or-other differs = ap (λ b. old_in_or (cond b a.old (slice_index values slot)) accesses slot) (sym (ne_eqb a.slot slot differs)) ∙ sym (old_in_or-last (slice_index values slot) accesses a slot)
