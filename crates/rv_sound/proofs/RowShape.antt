-- The accesses of a row whose slots rise: each slot shows the old value of its access, and an access whose cell a later slot uses again leaves what it finds.
use Rattle.std.proofs.Common.{◌≡◌, ℕ, ◌+◌, ◌^◌, ◌<◌, ◌≤◌, true, false, cond, ◌==◌, List, [], ◌∷◌, map, find, option_map, unwrap_or, Some, sym, ◌∙◌, ap, subst, inl, inr, arith}
use Rattle.std.proofs.lemmas.Bool.{eq-eqb, ne_eqb, cases_lt}
use Rattle.rv_base.specs.declared.record.Access.{Access}
use Rattle.rv_base.specs.declared.record.Seen.{Seen}
use Rattle.rv_base.specs.declared.record.Touch.{Touch}
use Rattle.rv_rules.specs.RowRules.{old_in, seen}
use Rattle.rv_rules.specs.Membership.{In}
use Rattle.rv_isa.specs.Shape.{IsSlotted, AreShaped}
use Rattle.rv_isa.proofs.Lemmas.{slot-seen}
use Rattle.rv_sound.proofs.RowFollows.{touch_in}

-- an access among those of this shape
pub record InShape (v : Seen) (lo hi : ℕ) (t : Touch) : Type 0 where
  pub above : lo ≤ t.slot
  pub below : t.slot < hi
  pub slotted : IsSlotted v t

shaped-most : (v : Seen) (lo hi : ℕ) (ts : List Touch) → AreShaped v lo hi ts → lo ≤ hi
shaped-most v lo hi [] h = h
shaped-most v lo hi (t ∷ ts) h = omega (arith, h.0, shaped-most v (t.slot + 1) hi ts h.2)

-- each access of a row has the row's shape
pub shaped-in : (v : Seen) (lo hi : ℕ) (accs : List Access) → AreShaped v lo hi (map touch_in accs) → (a : Access) → In a accs → InShape v lo hi (touch_in a)
shaped-in v lo hi [] h a m = absurd m
shaped-in v lo hi (b ∷ bs) h a (inl e) =
    let most : b.slot + 1 ≤ hi = shaped-most v (b.slot + 1) hi (map touch_in bs) h.2 in
    subst (λ (x : Access). InShape v lo hi (touch_in x)) (sym e) (record { above = h.0; below = omega (arith, most); slotted = h.1 })
shaped-in v lo hi (b ∷ bs) h a (inr m) =
    let r : InShape v (b.slot + 1) hi (touch_in a) = shaped-in v (b.slot + 1) hi bs h.2 a m in
    record { above = omega (arith, h.0, r.above); below = r.below; slotted = r.slotted }

-- what a slot shows is the old value of its access
pub old-is : (v : Seen) (lo hi : ℕ) (accs : List Access) → AreShaped v lo hi (map touch_in accs) → (a : Access) → In a accs → old_in accs a.slot ≡ a.old
old-is v lo hi [] h a m = absurd m
old-is v lo hi (b ∷ bs) h a (inl e) =
    let is : (b.slot == a.slot) ≡ true = eq-eqb b.slot a.slot (ap (λ z. z.slot) (sym e)) in
    ap (λ x. unwrap_or (option_map (λ z. z.old) (cond x (Some b) (find (λ z. z.slot == a.slot) bs))) 0) is ∙ ap (λ z. z.old) (sym e)
old-is v lo hi (b ∷ bs) h a (inr m) =
    let r : InShape v (b.slot + 1) hi (touch_in a) = shaped-in v (b.slot + 1) hi bs h.2 a m in
    let is : (b.slot == a.slot) ≡ false = ne_eqb b.slot a.slot (λ e. absurd (omega (arith, r.above, e))) in
    ap (λ x. unwrap_or (option_map (λ z. z.old) (cond x (Some b) (find (λ z. z.slot == a.slot) bs))) 0) is ∙ old-is v (b.slot + 1) hi bs h.2 a m

-- an access whose cell a later slot of the row uses again leaves what it finds
pub left-as-found : (accs : List Access) → AreShaped (seen accs) 1 9 (map touch_in accs) → (a b : Access) → In a accs → In b accs → a.cell ≡ b.cell → a.slot < b.slot → a.new ≡ a.old
left-as-found accs h a b ma mb cell less =
    let v : Seen = seen accs in
    let sa : InShape v 1 9 (touch_in a) = shaped-in v 1 9 accs h a ma in
    let sb : InShape v 1 9 (touch_in b) = shaped-in v 1 9 accs h b mb in
    elim (cases_lt a.slot 6) [
      | inl low ↦ sa.slotted.keeps (omega (arith, low)) ∙ slot-seen accs a.slot sa.above sa.below ∙ old-is v 1 9 accs h a ma
      | inr high ↦
          elim (cases_lt a.slot 7) [
            | inl six ↦
                let word : a.cell < 2 ^ 30 = sa.slotted.word (omega (arith, high, six)) in
                elim (cases_lt b.slot 8) [
                  | inl seven ↦ let cells = sb.slotted.register (omega (arith, less, high, seven)) in absurd (omega (arith, word, cell, cells.0))
                  | inr eight ↦ let is = sb.slotted.reservation (omega (arith, eight, sb.below)) in absurd (omega (arith, word, cell, is))
                ]
            | inr seven ↦
                let cells = sa.slotted.register (omega (arith, seven, less, sb.below)) in
                let is = sb.slotted.reservation (omega (arith, seven, less, sb.below)) in
                absurd (omega (arith, cells.1, cell, is))
          ]
    ]
