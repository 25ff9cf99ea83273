-- What a table's last state says, where home has gathered all passes.
use Rattle.std.proofs.Common.{◌≡◌, ℕ, zero, suc, ◌+◌, ◌-◌, ◌<◌, ◌≤◌, Bool, true, false, cond, List, [], ◌∷◌, length, get_or, set, map, sym, refl, ap, ◌∙◌, arith}
use Rattle.std.specs.Prelude.{Option, Some, None, sum_by, nat_lt, ◌==◌}
use Rattle.std.proofs.lemmas.Bool.{true≢false}
use Rattle.std.proofs.lemmas.Bool.Decides.{nat_tests}
use Rattle.std.proofs.lemmas.List.Sums.{sum_by-cons}
use mathlib.Core.Option.{some, some-injective}
use lib.ListN.{get_elem?}
use Rattle.atomic_table.specs.Table.{State, Final, Seen}
use Rattle.rv_book.specs.Board.{is_in}
use Rattle.rv_book.specs.declared.task.Piece.{Piece}
use Rattle.rv_claim.specs.declared.view.Deposit.{Deposit}
use Rattle.rv_claim.specs.declared.view.Lists.{Lists}
use Rattle.rv_claim.specs.declared.view.View.{View}
use Rattle.rv_claim.specs.Views.{kept, home_view, spent_view, is_past, drew, put, put_by, waits, past, each_one, in_view, total}
use Rattle.rv_book.specs.BoardLaws.{one}
use Rattle.rv_claim.specs.Rule.{Ruled}
use Rattle.rv_claim.specs.Closing.{depositor, slot_by}
use Rattle.rv_claim.proofs.Totals.{sum-at, sum-le, in-view-le, total-both, one-le}
use Rattle.rv_claim.proofs.Steps.{in-times, out-times}

-- a view of no pass adds nothing to any total
none-own : (f : Lists → ℕ) (b : Bool) (l : Lists) → one b ≡ 0 → cond b (f l) 0 ≡ 0
none-own f true l h = absurd (omega (arith, h))
none-own f false l h = refl

none-gathered : (f : Lists → ℕ) (ls : List Lists) → sum_by each_one ls ≡ 0 → sum_by f ls ≡ 0
none-gathered f [] h = refl
none-gathered f (l ∷ ls) h = absurd (omega (arith, sum_by-cons each_one l ls, h))

none-total : (f : Lists → ℕ) (vs : List View) → total each_one vs ≡ 0 → total f vs ≡ 0
none-total f [] h = refl
none-total f (v ∷ vs) h =
    let parts : in_view each_one v + total each_one vs ≡ 0 = sym (sum_by-cons (in_view each_one) v vs) ∙ h in
    let own = none-own f v.live v.own (omega (arith, parts)) in
    let rest = none-gathered f v.gathered (omega (arith, parts)) in
    omega (arith, sum_by-cons (in_view f) v vs, own, rest, none-total f vs (omega (arith, parts)))

counts : (ls : List Lists) → sum_by each_one ls ≡ length ls
counts [] = refl
counts (l ∷ ls) = omega (arith, sum_by-cons each_one l ls, counts ls)

-- of a list of passes, whose numbers are their places from q on
module _ (i : ℕ) where
  deposits : List Lists → List (List ℕ)
  deposits ls = map (λ (l : Lists). l.deposited) ls

  none-put : (ls : List Lists) (q : ℕ) → sum_by (put i) ls ≡ 0 → depositor i (map (λ (l : Lists). l.deposited) ls) q ≡ None
  none-put [] q h = refl
  none-put (l ∷ ls) q h = by (is_in i l.deposited) refl (none-put ls (q + 1) (omega (arith, sum_by-cons (put i) l ls, h)))
    where
      by : (b : Bool) → is_in i l.deposited ≡ b → depositor i (map (λ (l : Lists). l.deposited) ls) (q + 1) ≡ None → cond b (Some q) (depositor i (map (λ (l : Lists). l.deposited) ls) (q + 1)) ≡ None
      by true e rest = absurd (omega (arith, sum_by-cons (put i) l ls, h, in-times i l.deposited e))
      by false e rest = rest

  by-le : (p : ℕ) (l : Lists) → put_by p i l ≤ put i l
  by-le p l = within (l.number == p) (put i l)
    where
      within : (b : Bool) (k : ℕ) → cond b k 0 ≤ k
      within true k = omega arith
      within false k = omega arith

  by-number : (p : ℕ) (l : Lists) → 0 < put_by p i l → l.number ≡ p
  by-number p l h = same (l.number == p) refl h
    where
      same : (b : Bool) → (l.number == p) ≡ b → 0 < cond b (put i l) 0 → l.number ≡ p
      same true e h = grind (arith, nat_tests)
      same false e h = absurd (omega (arith, h))

  one-put : (ls : List Lists) (q p : ℕ) → ((k : ℕ) (l : Lists) → get_elem? ls k ≡ some l → l.number ≡ q + k) → sum_by (put i) ls ≤ 1 → sum_by (put_by p i) ls ≡ 1
      → depositor i (map (λ (l : Lists). l.deposited) ls) q ≡ Some p
  one-put [] q p places few h = absurd (omega (arith, h))
  one-put (l ∷ ls) q p places few h =
      by (is_in i l.deposited) refl (λ none_here. one-put ls (q + 1) p (λ k m at. places (suc k) m at ∙ omega arith) (omega (arith, sum_by-cons (put i) l ls, few)) (omega (arith, sum_by-cons (put_by p i) l ls, h, by-le p l, none_here)))
    where
      by : (b : Bool) → is_in i l.deposited ≡ b → (put i l ≡ 0 → depositor i (map (λ (l : Lists). l.deposited) ls) (q + 1) ≡ Some p)
          → cond b (Some q) (depositor i (map (λ (l : Lists). l.deposited) ls) (q + 1)) ≡ Some p
      by true e rest =
          let mine = in-times i l.deposited e in
          let others : sum_by (put_by p i) ls ≤ sum_by (put i) ls = sum-le (put_by p i) (put i) ls (λ k m _. by-le p m) in
          let number : l.number ≡ p = by-number p l (omega (arith, sum_by-cons (put i) l ls, sum_by-cons (put_by p i) l ls, few, h, others, mine)) in
          let place : l.number ≡ q + 0 = places 0 l refl in
          ap Some (omega (arith, number, place))
      by false e rest = rest (out-times i l.deposited e)

module _ (piece : ℕ → Piece) (n w : ℕ) (ls : List Lists) (words : List ℕ) (xs : List (Option Deposit)) (long : length ls ≡ w)
    (places : (k : ℕ) (l : Lists) → get_elem? ls k ≡ some l → l.number ≡ k) (f : Final (Seen (Ruled piece n w) 0 (home_view w ls)) words xs) where
  abbrev s : State (Option Deposit) View
  s = f.0

  r : Ruled piece n w s
  r = f.1.0

  at : get_elem? s.views 0 ≡ some (home_view w ls)
  at = f.1.1

  -- home tells of all passes
  pub all-home : (g : Lists → ℕ) → total g s.views ≡ sum_by g ls
  all-home g =
      let us : List View = set s.views 0 spent_view in
      let home_is : r.numbers.home ≡ home_view w ls = some-injective _ _ (sym r.numbers.at ∙ at) in
      let made : r.numbers.home.made ≡ w = ap (λ (v : View). v.made) home_is in
      let a : total each_one us + sum_by each_one ls ≡ total each_one s.views = let t = sum-at (in_view each_one) s.views 0 (home_view w ls) spent_view at in omega (arith, t) in
      let none-else : total each_one us ≡ 0 = omega (arith, a, r.numbers.count, made, counts ls, long) in
      let b : total g us + sum_by g ls ≡ total g s.views = let t = sum-at (in_view g) s.views 0 (home_view w ls) spent_view at in omega (arith, t) in
      omega (arith, b, none-total g us none-else)

  idle : (i : ℕ) (ms : List Lists) → ((k : ℕ) (l : Lists) → get_elem? ms k ≡ some l → l.pending ≡ None) → sum_by (waits i) ms ≡ 0
  idle i [] h = refl
  idle i (l ∷ ms) h = let mine : waits i l ≡ 0 = ap (λ (o : Option ℕ). waits i (record l { pending = o })) (h 0 l refl) in omega (arith, sum_by-cons (waits i) l ms, mine, idle i ms (λ k. h (suc k)))

  once : (i : ℕ) → total (put i) s.views ≤ 1
  once i =
      let e : Lists → ℕ = λ m. put i m + waits i m in
      let le : total e s.views ≤ total (drew i) s.views = sum-le (in_view e) (in_view (drew i)) s.views (λ k v there. in-view-le e (drew i) v (λ live. ((r.lists k v there).0 live).taken i) (λ j m in_there. ((r.lists k v there).1 j m in_there).0.taken i)) in
      omega (arith, le, total-both (put i) (waits i) s.views, r.drawn i, one-le (nat_lt i (get_or s.words 0 0)))

  pub closed-slot : (i : ℕ) → i < n → get_elem? xs i ≡ some (slot_by piece (depositor i (map (λ (l : Lists). l.deposited) ls) 0) i)
  closed-slot i lt = by (total (put i) s.views) refl
    where
      by : (k : ℕ) → total (put i) s.views ≡ k → get_elem? xs i ≡ some (slot_by piece (depositor i (map (λ (l : Lists). l.deposited) ls) 0) i)
      by zero e =
          let waiting : total (waits i) s.views ≡ 0 = all-home (waits i) ∙ idle i ls (λ k l there. ((r.lists 0 (home_view w ls) at).1 k l there).1) in
          f.4 i None ((r.slots i lt).empty e waiting) ∙ ap (λ o. some (slot_by piece o i)) (sym (none-put i ls 0 (sym (all-home (put i)) ∙ e)))
      by (suc k) e =
          let t = (r.slots i lt).full (omega (arith, e)) in
          let found = one-put i ls 0 t.0 (λ k l there. places k l there ∙ omega arith) (omega (arith, all-home (put i), once i)) (sym (all-home (put_by t.0 i)) ∙ t.2) in
          f.4 i (Some (kept t.0 (piece i))) t.1 ∙ ap (λ o. some (slot_by piece o i)) (sym found)

  -- where each pass drew n or more, each number below n was drawn
  all-past : (ms : List Lists) → ((k : ℕ) (l : Lists) → get_elem? ms k ≡ some l → is_past n l.drawn ≡ true) → sum_by (past n) ms ≡ length ms
  all-past [] h = refl
  all-past (l ∷ ms) h = let mine : past n l ≡ 1 = ap one (h 0 l refl) in omega (arith, sum_by-cons (past n) l ms, mine, all-past ms (λ k. h (suc k)))

  some-drew : (i : ℕ) (ms : List Lists) (q : ℕ) → ((k : ℕ) (l : Lists) → get_elem? ms k ≡ some l → is_in i l.drawn ≡ true → is_in i l.deposited ≡ true)
      → 0 < sum_by (drew i) ms → (p : ℕ) × (depositor i (map (λ (l : Lists). l.deposited) ms) q ≡ Some p)
  some-drew i [] q h some_one = absurd (omega (arith, some_one))
  some-drew i (l ∷ ms) q h some_one = by (is_in i l.deposited) refl (λ rest. some-drew i ms (q + 1) (λ k. h (suc k)) rest)
    where
      drawn-here : (b : Bool) → is_in i l.drawn ≡ b → is_in i l.deposited ≡ false → drew i l ≡ 0
      drawn-here true e empty = absurd (true≢false (sym (h 0 l refl e) ∙ empty))
      drawn-here false e empty = out-times i l.drawn e

      by : (b : Bool) → is_in i l.deposited ≡ b → (0 < sum_by (drew i) ms → (p : ℕ) × (depositor i (map (λ (l : Lists). l.deposited) ms) (q + 1) ≡ Some p))
          → (p : ℕ) × (cond b (Some q) (depositor i (map (λ (l : Lists). l.deposited) ms) (q + 1)) ≡ Some p)
      by true e rest = (q, refl)
      by false e rest = rest (omega (arith, some_one, sum_by-cons (drew i) l ms, drawn-here (is_in i l.drawn) refl e))

  pub each-deposited : 0 < w → ((k : ℕ) (l : Lists) → get_elem? ls k ≡ some l → is_past n l.drawn ≡ true)
      → ((k : ℕ) (l : Lists) → get_elem? ls k ≡ some l → (i : ℕ) → i < n → is_in i l.drawn ≡ true → is_in i l.deposited ≡ true)
      → (i : ℕ) → i < n → (p : ℕ) × (depositor i (map (λ (l : Lists). l.deposited) ls) 0 ≡ Some p)
  each-deposited some_pass ended settled i lt =
      let x : ℕ = get_or s.words 0 0 in
      let far : w ≡ x - n = sym long ∙ sym (all-past ls ended) ∙ sym (all-home (past n)) ∙ r.past in
      let below : one (nat_lt i x) ≡ 1 = (let less : i < x = omega (arith, far, some_pass, lt) in grind (arith, nat_tests)) in
      some-drew i ls 0 (λ k l there. settled k l there i lt) (omega (arith, all-home (drew i), r.drawn i, below))
