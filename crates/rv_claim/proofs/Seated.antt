-- The steps, of a seat that is known to be a pass's or home's.
use Rattle.std.proofs.Common.{◌≡◌, ℕ, suc, ◌+◌, ◌-◌, ◌%◌, ◌^◌, ◌<◌, false, List, [], ◌∷◌, ◌++◌, sym, ap, ◌∙◌, subst, arith}
use Rattle.std.specs.Prelude.{Some, None}
use mathlib.Core.Option.{none}
use Rattle.atomic_table.specs.Table.{Allows, Splits, Joins, rest, step}
use Rattle.rv_claim.specs.declared.view.Deposit.{Deposit}
use Rattle.rv_book.specs.declared.event.BoardEvent.{BoardEvent}
use Rattle.rv_book.specs.declared.event.BoardEvent.TheVariants.{Deposit as Deposits}
use Rattle.rv_book.specs.declared.task.Piece.{Piece}
use Rattle.rv_claim.specs.declared.view.Lists.{Lists}
use Rattle.rv_claim.specs.declared.view.View.{View}
use Rattle.rv_claim.specs.Views.{kept, pass_view, opens, fills, with_own, with_one_more, with_gathered, fresh, home_view, home_views, spent_view, is_past, drew, put}
use Rattle.rv_claim.specs.History.{Kept, Happens}
use Rattle.rv_claim.specs.Kinds.{IsDraw, IsOpening, IsFilling}
use Rattle.rv_claim.proofs.Histories.{kept-claims, kept-opens, kept-fills, kept-splits, kept-joins}
use Rattle.rv_claim.proofs.Steps.{Seat}

module _ (piece : ℕ → Piece) (n w slots id : ℕ) (me : Seat) where
  pub seat-claims : me ≡ (pass_view me.0.own, []) → is_past n me.0.own.drawn ≡ false
      → Allows (Kept piece n w) slots id me 0 (λ k. (k + 1) % 2 ^ 64) (IsDraw (step slots 0 1 0 none) me)
  seat-claims is new = subst (λ (m : Seat). Allows (Kept piece n w) slots id m 0 (λ k. (k + 1) % 2 ^ 64) (IsDraw (step slots 0 1 0 none) m)) (sym is) (kept-claims piece n w slots id me.0.own new)

  pub seat-opens : (i word : ℕ) → word ≡ i + 1 → me ≡ (pass_view me.0.own, []) → me.0.own.pending ≡ None → 0 < drew i me.0.own → put i me.0.own ≡ 0 → i < n
      → Allows (Kept piece n w) slots id me word (λ k. (k + 1) % 2 ^ 64) (IsOpening (step slots word 1 0 none) me)
  seat-opens i word at is idle has new lt =
      let P : ℕ → ℕ → Seat → Type 0 = λ k j m. Allows (Kept piece n w) slots id m k (λ k. (k + 1) % 2 ^ 64) (λ found after. (found ≡ 0) × (after ≡ (with_own m.0 (opens m.0.own j), (j, None) ∷ m.1))) in
      subst (λ k. P k (word - 1) me) (sym (at ∙ omega arith)) (subst (λ j. P (suc i) j me) (let e : i ≡ word - 1 = omega (arith, at) in e) (subst (P (suc i) i) (sym is) (kept-opens piece n w slots id me.0.own i idle has new lt)))

  pub seat-fills : (l : Lists) (i word : ℕ) → word ≡ i + 1 → me ≡ (pass_view l, (i, Some (kept l.number (piece i))) ∷ []) → l.pending ≡ Some i → i < n
      → Allows (Kept piece n w) slots id me word (λ k. (k + 1) % 2 ^ 64) (IsFilling (step slots word 1 0 none) me)
  seat-fills l i word at is waits lt =
      let P : ℕ → ℕ → Seat → Type 0 = λ k j m. Allows (Kept piece n w) slots id m k (λ k. (k + 1) % 2 ^ 64)
      (λ found after. (found ≡ 1) × ((es : List BoardEvent) × (after ≡ (with_own m.0 (fills m.0.own j es), [])) × Happens slots m.0.own (Deposits m.0.own.number j) (fills m.0.own j es))) in
      subst (λ k. P k (word - 1) me) (sym (at ∙ omega arith)) (subst (λ j. P (suc i) j me) (let e : i ≡ word - 1 = omega (arith, at) in e) (subst (P (suc i) i) (sym is) (kept-fills piece n w slots id l i waits lt)))

module _ (piece : ℕ → Piece) (n w : ℕ) where
  pub seat-splits : (id : ℕ) (me : Seat) (made : ℕ) (ls : List Lists) → id ≡ 0 → me ≡ (home_view made ls, []) → made < w
      → Splits (Kept piece n w) id me.0 (with_one_more me.0) (pass_view (fresh me.0.made))
  seat-splits id me made ls at is room =
      subst (λ (m : Seat). Splits (Kept piece n w) id m.0 (with_one_more m.0) (pass_view (fresh m.0.made))) (sym is)
      (subst (λ (k : ℕ). Splits (Kept piece n w) k (home_view made ls) (home_view (made + 1) ls) (pass_view (fresh made))) (sym at) (kept-splits piece n w made ls room))

  pub seat-joins : (id : ℕ) (me : Seat) (other : ℕ) (v : View) (made : ℕ) (ls : List Lists) → id ≡ 0 → me ≡ (home_view made ls, []) → v ≡ pass_view v.own → v.own.pending ≡ None
      → Joins (Kept piece n w) id me.0 other v (with_gathered me.0 v) spent_view
  seat-joins id me other v made ls at is live idle =
      subst (λ (m : Seat). Joins (Kept piece n w) id m.0 other v (with_gathered m.0 v) spent_view) (sym is)
      (subst (λ (k : ℕ). Joins (Kept piece n w) k (home_view made ls) other v (home_view made (ls ++ v.own ∷ [])) spent_view) (sym at)
      (subst (λ (u : View). Joins (Kept piece n w) 0 (home_view made ls) other u (home_view made (ls ++ v.own ∷ [])) spent_view) (sym live) (kept-joins piece n w made ls other v.own idle)))

-- a seat that has opened a slot, and then put a piece into it
pub held : (l : Lists) (i j : ℕ) (k : Deposit) (me0 me1 me2 : Seat) → me0 ≡ (pass_view l, []) → j ≡ i
    → me1 ≡ (with_own me0.0 (opens me0.0.own j), (j, None) ∷ me0.1) → me2 ≡ (me1.0, (i, Some k) ∷ rest me1.1) → me2 ≡ (pass_view (opens l i), (i, Some k) ∷ [])
held l i j k me0 me1 me2 a e b c =
    let opened : me1 ≡ (pass_view (opens l i), (i, None) ∷ []) =
    b ∙ ap (λ (m : Seat). let s : Seat = (with_own m.0 (opens m.0.own j), (j, None) ∷ m.1) in s) a ∙ ap (λ (j : ℕ). let s : Seat = (pass_view (opens l j), (j, None) ∷ []) in s) e in
    c ∙ ap (λ (m : Seat). let s : Seat = (m.0, (i, Some k) ∷ rest m.1) in s) opened

-- the seat of the badge that the first pass carries
pub home-seat : (me : Seat) (vs : List View) (k made workers : ℕ) → vs ≡ home_views k made → k ≡ 0 → made ≡ workers → vs ≡ me.0 ∷ [] → me.1 ≡ [] → me ≡ (home_view workers [], [])
home-seat me vs k made workers is first same has empty =
    let lists : home_view workers [] ∷ [] ≡ me.0 ∷ [] = sym (is ∙ ap (λ j. home_views j made) first ∙ ap (λ m. home_view m [] ∷ []) same) ∙ has in
    λ i. (sym (ap head lists) i, empty i)
  where
    head : List View → View
    head [] = home_view 0 []
    head (v ∷ vs) = v
