-- Claims, and the opening and filling of a slot, keep the board's rule.
use Rattle.std.proofs.Common.{◌≡◌, ◌≢◌, ℕ, suc, ◌+◌, ◌-◌, ◌*◌, ◌%◌, ◌^◌, ◌<◌, ◌≤◌, Bool, true, false, cond, ◌||◌, ◌&&◌, List, [], ◌∷◌, ◌++◌, get_or, set, sym, refl, ap, ◌∙◌, subst, ⊎_elim, arith, length-set, get_or-set_same}
use Rattle.std.proofs.lemmas.Bool.{true≢false}
use Rattle.std.proofs.Math.Bool.{or-false, or-true}
use Rattle.std.specs.Prelude.{nat_lt, nat_le, ◌==◌, Option, Some, None}
use Rattle.std.proofs.lemmas.List.{get_or-set_other}
use Rattle.std.proofs.lemmas.Bool.Decides.{nat_tests}
use mathlib.Core.Option.{some, none, some-injective, some-ne-none}
use mathlib.Core.Logic.{dite}
use native.Mathlib.Decide.{ℕ_discrete}
use lib.ListN.{get_elem?}
use Rattle.atomic_table.specs.Table.{State, Me, keeps, takes, gives, Allows}
use Rattle.atomic_table.proofs.Lists.{at_set, set_here, set_else}
use Rattle.rv_book.specs.declared.task.Piece.{Piece}
use Rattle.std.proofs.lemmas.List.Sums.{sum_by-cons}
use Rattle.rv_book.specs.declared.event.BoardEvent.{BoardEvent}
use Rattle.rv_book.specs.Board.{is_in}
use Rattle.rv_claim.specs.declared.view.Deposit.{Deposit}
use Rattle.rv_claim.specs.declared.view.Lists.{Lists}
use Rattle.rv_claim.specs.declared.view.View.{View}
use Rattle.rv_claim.specs.Views.{kept, fresh, pass_view, draws, opens, fills, is_past, last_past, drew, put, put_by, waits, past, numbered, each_one, in_view, total}
use Rattle.rv_book.specs.BoardLaws.{one, times}
use Rattle.rv_claim.specs.Rule.{Numbers, Fits, EachFits, SlotFits, Ruled}
use Rattle.rv_claim.proofs.Totals.{sum-at, sum-le, sum-gap, in-view-le, total-both, one-more, gap-more, one-le, times-push, past-push}

abbrev pub St : Type 0
St = State (Option Deposit) View

abbrev pub Seat : Type 0
Seat = Me (Option Deposit) View

pub below-one : (n x : ℕ) (b : Bool) → (nat_le n x || b) ≡ false → nat_lt x n ≡ true
below-one n x true h = absurd (true≢false (sym (or-true (nat_le n x)) ∙ h))
below-one n x false h = grind (arith, nat_tests, or-false (nat_le n x))

pub none-else : (a b : Bool) → (a || b) ≡ false → b ≡ false
none-else true b h = absurd (true≢false h)
none-else false b h = h

-- what no element equals is not in the list
in-cons : (i x : ℕ) (xs : List ℕ) (b : Bool) → (x == i) ≡ b → (b || is_in i xs) ≡ true → (is_in i xs ≡ true → 0 < times i xs) → 0 < times i (x ∷ xs)
in-cons i x xs true e h rest = let a : one (x == i) ≡ 1 = ap one e in omega (arith, sum_by-cons (λ y. one (y == i)) x xs, a)
in-cons i x xs false e h rest = let a = rest h in omega (arith, sum_by-cons (λ y. one (y == i)) x xs, a)

pub in-times : (i : ℕ) (xs : List ℕ) → is_in i xs ≡ true → 0 < times i xs
in-times i [] h = absurd (true≢false (sym h))
in-times i (x ∷ xs) h = in-cons i x xs (x == i) refl h (in-times i xs)

out-of : (i : ℕ) (xs : List ℕ) → times i xs ≡ 0 → is_in i xs ≡ false
out-of i xs h = by (is_in i xs) refl
  where
    by : (b : Bool) → is_in i xs ≡ b → b ≡ false
    by true e = absurd (omega (arith, in-times i xs e, h))
    by false e = refl

pub out-times : (i : ℕ) (xs : List ℕ) → is_in i xs ≡ false → times i xs ≡ 0
out-times i [] h = refl
out-times i (x ∷ xs) h =
    let head : one (x == i) ≡ 0 = ap one (left-false (x == i) (is_in i xs) h) in
    let rest : is_in i xs ≡ false = none-else (x == i) (is_in i xs) h in
    sum_by-cons (λ y. one (y == i)) x xs ∙ omega (arith, head, out-times i xs rest)
  where
    left-false : (a b : Bool) → (a || b) ≡ false → a ≡ false
    left-false true b h = h
    left-false false b h = refl

-- a longer list, of which no number but the last is n or more
last-push : (n y : ℕ) (ys : List ℕ) → is_past n ys ≡ false → last_past n (ys ++ y ∷ []) ≡ true
last-push n y [] h = refl
last-push n y (x ∷ []) h = ap (λ b. b && true) (below-one n x false h)
last-push n y (x ∷ z ∷ zs) h = ap (λ b. b && last_past n (z ∷ (zs ++ y ∷ []))) (below-one n x (is_past n (z ∷ zs)) h) ∙ last-push n y (z ∷ zs) (none-else (nat_le n x) (is_past n (z ∷ zs)) h)

-- the totals of the views, where one of them has changed
module _ (vs : List View) (id : ℕ) (l m : Lists) (at : get_elem? vs id ≡ some (pass_view l)) where
  abbrev after : List View
  after = set vs id (pass_view m)

  pub moved : (f : Lists → ℕ) → total f after + f l ≡ total f vs + f m
  moved f = let s = sum-at (in_view f) vs id (pass_view l) (pass_view m) at in omega (arith, s)

  pub unmoved : (f : Lists → ℕ) → f l ≡ f m → total f after ≡ total f vs
  unmoved f e = omega (arith, moved f, e)

-- home stays where a pass steps
numbers-stay : (w : ℕ) (vs : List View) (id : ℕ) (l m : Lists) → get_elem? vs id ≡ some (pass_view l) → l.number ≡ m.number → Numbers w vs → Numbers w (set vs id (pass_view m))
numbers-stay w vs id l m at same r =
    let other : 0 ≢ id = λ e. absurd (live-ne (ap (λ (v : View). v.live) (some-injective _ _ (sym at ∙ ap (get_elem? vs) (sym e) ∙ r.at))) r.quiet) in
    record {
      home = r.home;
      at = set_else vs id 0 (pass_view m) other ∙ r.at;
      quiet = r.quiet;
      few = r.few;
      count = unmoved vs id l m at each_one refl ∙ r.count;
      each = λ k. unmoved vs id l m at (numbered k) (ap (λ (n : ℕ). one (n == k)) same) ∙ r.each k;
    }
  where
    live-ne : {b : Bool} → true ≡ b → b ≡ false → ⊥
    live-ne e f = true≢false (e ∙ f)

-- a slot is as it was where no total of it changes
pub slot-stays : (piece : ℕ → Piece) (i : ℕ) (vs ws : List View) (h : _) → total (put i) ws ≡ total (put i) vs → total (waits i) ws ≡ total (waits i) vs → ((p : ℕ) → total (put_by p i) ws ≡ total (put_by p i) vs)
    → SlotFits piece i vs h → SlotFits piece i ws h
slot-stays piece i vs ws h a b by r = record {
  empty = λ x y. r.empty (sym a ∙ x) (sym b ∙ y);
  out = λ x. r.out (subst (λ n. 0 < n) b x);
  full = λ x. let t = r.full (subst (λ n. 0 < n) a x) in (t.0, t.1, by t.0 ∙ t.2);
}

-- next is at most n and the passes
pub bounded : (piece : ℕ → Piece) (n w : ℕ) (s : St) → Ruled piece n w s → get_or s.words 0 0 ≤ n + w
bounded piece n w s r =
    let x : ℕ = get_or s.words 0 0 in
    let each : total (past n) s.views ≤ total each_one s.views = sum-le (in_view (past n)) (in_view each_one) s.views (λ k v at. in-view-le (past n) each_one v (λ _. one-le (is_past n v.own.drawn)) (λ j l there. one-le (is_past n l.drawn))) in
    let p : total (past n) s.views ≡ x - n = r.past in
    omega (arith, each, p, r.numbers.count, r.numbers.few)

module _ (piece : ℕ → Piece) (n w : ℕ) where
  claim-fits : (l : Lists) (x : ℕ) (es : List BoardEvent) → is_past n l.drawn ≡ false → Fits n l → Fits n (draws l x es)
  claim-fits l x es new r = record {
    last = last-push n x l.drawn new;
    taken = λ i. omega (arith, r.taken i, times-push i x l.drawn);
    below = r.below;
  }

  pub claims : (slots id : ℕ) (l : Lists) (es : List BoardEvent) → is_past n l.drawn ≡ false
      → Allows (Ruled piece n w) slots id (pass_view l, []) 0 (λ k. (k + 1) % 2 ^ 64) (λ found me. (is_in found l.drawn ≡ false) × (me ≡ (pass_view (draws l found es), [])))
  claims slots id l es new s r _ at _ =
      let x : ℕ = get_or s.words 0 0 in
      let m : Lists = draws l x es in
      let few : x ≤ n + w = bounded piece n w s r in
      let next : (x + 1) % 18446744073709551616 ≡ x + 1 = omega (arith, few, r.few.0, r.few.1) in
      let here : get_or (set s.words 0 ((x + 1) % 18446744073709551616)) 0 0 ≡ x + 1 = get_or-set_same s.words 0 _ 0 (omega (arith, r.sized.0)) ∙ next in (
        pass_view m,
        keeps,
        tt,
        record {
          few = r.few;
          sized = (length-set s.words 0 _ ∙ r.sized.0, r.sized.1);
          drawn = λ y.
              let t : total (drew y) (set s.views id (pass_view m)) + times y l.drawn ≡ total (drew y) s.views + times y (l.drawn ++ x ∷ []) = moved s.views id l m at (drew y) in
              let u : total (drew y) (set s.views id (pass_view m)) ≡ one (nat_lt y (x + 1)) = omega (arith, t, r.drawn y, times-push y x l.drawn, one-more x y) in
              u ∙ ap (λ (k : ℕ). one (nat_lt y k)) (sym here);
          past =
              let t : total (past n) (set s.views id (pass_view m)) + one (is_past n l.drawn) ≡ total (past n) s.views + one (is_past n (l.drawn ++ x ∷ [])) = moved s.views id l m at (past n) in
              let none_yet : one (is_past n l.drawn) ≡ 0 = ap one new in
              let now : one (is_past n (l.drawn ++ x ∷ [])) ≡ one (nat_le n x) = ap one (past-push n x l.drawn new) in
              let u : total (past n) (set s.views id (pass_view m)) ≡ x + 1 - n = omega (arith, t, none_yet, now, r.past, gap-more x n) in
              u ∙ ap (λ (k : ℕ). k - n) (sym here);
          numbers = numbers-stay w s.views id l m at refl r.numbers;
          lists = λ seat v there. ⊎_elim (λ hit. subst (EachFits n) hit.1 ((λ _. claim-fits l x es new ((r.lists id (pass_view l) at).0 refl)), λ k g none_there. absurd (some-ne-none g (sym none_there)))) (λ miss. r.lists seat v miss.1) (at_set s.views id seat (pass_view m) v there);
          marks = λ i lt. get_or-set_other s.words 0 (suc i) _ 0 (λ e. omega arith) ∙ r.marks i lt ∙ omega (arith, unmoved s.views id l m at (put i) refl, unmoved s.views id l m at (waits i) refl);
          slots = λ i lt. slot-stays piece i s.views (set s.views id (pass_view m)) (get_elem? s.homes i) (unmoved s.views id l m at (put i) refl) (unmoved s.views id l m at (waits i) refl) (λ p. unmoved s.views id l m at (put_by p i) refl) (r.slots i lt);
        },
        (
          out-of x l.drawn (let t : total (drew x) (set s.views id (pass_view (fresh 0))) + times x l.drawn ≡ total (drew x) s.views + 0 = moved s.views id l (fresh 0) at (drew x) in
              let none_yet : one (nat_lt x x) ≡ 0 = grind (arith, nat_tests) in omega (arith, t, r.drawn x, none_yet)),
          refl,
        ),
      )

  -- of each number at most one pass has deposited it or waits for it
  pub entered-once : (s : St) (id : ℕ) (l : Lists) (i : ℕ) → Ruled piece n w s → get_elem? s.views id ≡ some (pass_view l)
      → total (put i) s.views + total (waits i) s.views + drew i l ≤ 1 + (put i l + waits i l)
  entered-once s id l i r at =
      let f : Lists → ℕ = λ m. put i m + waits i m in
      let each : (k : ℕ) (v : View) → get_elem? s.views k ≡ some v → in_view f v ≤ in_view (drew i) v = λ k v there. in-view-le f (drew i) v (λ live. ((r.lists k v there).0 live).taken i) (λ j m in_there. ((r.lists k v there).1 j m in_there).0.taken i) in
      let gap : total f s.views + (drew i l + 0) ≤ total (drew i) s.views + (f l + 0) = sum-gap (in_view f) (in_view (drew i)) s.views id (pass_view l) each at in
      let both : total f s.views ≡ total (put i) s.views + total (waits i) s.views = total-both (put i) (waits i) s.views in
      omega (arith, gap, both, r.drawn i, one-le (nat_lt i (get_or s.words 0 0)))

  open-taken : (l : Lists) (i j : ℕ) → l.pending ≡ None → 0 < drew i l → put i l ≡ 0 → put j l + waits j l ≤ drew j l → put j l + one (i == j) ≤ drew j l
  open-taken l i j none_yet has new fits = dite (ℕ_discrete i j)
      (λ same. let a : 0 < drew j l = subst (λ k. 0 < drew k l) same has in let b : put j l ≡ 0 = ap (λ k. put k l) (sym same) ∙ new in omega (arith, a, b, one-le (i == j)))
      (λ apart. let a : one (i == j) ≡ 0 = grind (arith, nat_tests) in omega (arith, fits, a))

  open-below : (l : Lists) (i j : ℕ) → l.pending ≡ None → i < n → n ≤ j → put j l + waits j l ≡ 0 → put j l + one (i == j) ≡ 0
  open-below l i j none_yet lt le fits = let a : one (i == j) ≡ 0 = grind (arith, nat_tests) in omega (arith, fits, a)

  pub opens-slot : (slots id : ℕ) (l : Lists) (i : ℕ) → l.pending ≡ None → 0 < drew i l → put i l ≡ 0 → i < n
      → Allows (Ruled piece n w) slots id (pass_view l, []) (suc i) (λ k. (k + 1) % 2 ^ 64) (λ found me. (found ≡ 0) × (me ≡ (pass_view (opens l i), (i, None) ∷ [])))
  opens-slot slots id l i none_yet has new lt s r _ at _ =
      let m : Lists = opens l i in
      let idle : (j : ℕ) → waits j l ≡ 0 = λ j. ap (λ (o : Option ℕ). waits j (record l { pending = o })) none_yet in
      let once = entered-once s id l i r at in
      let put_none : total (put i) s.views ≡ 0 = omega (arith, once, idle i, new, has) in
      let waits_none : total (waits i) s.views ≡ 0 = omega (arith, once, idle i, new, has) in
      let x : ℕ = get_or s.words (suc i) 0 in
      let zero_found : x ≡ 0 = r.marks i lt ∙ omega (arith, put_none, waits_none) in
      let now : (x + 1) % 18446744073709551616 ≡ 1 = ap (λ (k : ℕ). (k + 1) % 18446744073709551616) zero_found in
      let ws : List ℕ = set s.words (suc i) ((x + 1) % 18446744073709551616) in
      let next : get_or ws 0 0 ≡ get_or s.words 0 0 = get_or-set_other s.words (suc i) 0 _ 0 (λ e. omega arith) in
      let vs : List View = set s.views id (pass_view m) in
      let hs : List _ = set s.homes i none in
      let puts : (j : ℕ) → total (put j) vs ≡ total (put j) s.views = λ j. unmoved s.views id l m at (put j) refl in
      let waited : (j : ℕ) → total (waits j) vs ≡ total (waits j) s.views + one (i == j) = λ j. let t : total (waits j) vs + waits j l ≡ total (waits j) s.views + one (i == j) = moved s.views id l m at (waits j) in omega (arith, t, idle j) in (
        pass_view m,
        takes i None,
        (r.slots i lt).empty put_none waits_none,
        record {
          few = r.few;
          sized = (length-set s.words (suc i) _ ∙ r.sized.0, length-set s.homes i none ∙ r.sized.1);
          drawn = λ y. unmoved s.views id l m at (drew y) refl ∙ r.drawn y ∙ ap (λ (k : ℕ). one (nat_lt y k)) (sym next);
          past = unmoved s.views id l m at (past n) refl ∙ r.past ∙ ap (λ (k : ℕ). k - n) (sym next);
          numbers = numbers-stay w s.views id l m at refl r.numbers;
          lists = λ seat v there. ⊎_elim
              (λ hit. let own = (r.lists id (pass_view l) at).0 refl in subst (EachFits n) hit.1 (
                (λ _. record { last = own.last; taken = λ j. open-taken l i j none_yet has new (own.taken j); below = λ j le. open-below l i j none_yet lt le (own.below j le) }),
                λ k g none_there. absurd (some-ne-none g (sym none_there)),
              ))
              (λ miss. r.lists seat v miss.1)
              (at_set s.views id seat (pass_view m) v there);
          marks = λ j lt'. dite (ℕ_discrete j i)
              (λ same. subst (λ k. get_or ws (suc k) 0 ≡ 2 * total (put k) vs + total (waits k) vs) (sym same) (get_or-set_same s.words (suc i) _ 0 (omega (arith, r.sized.0)) ∙ now ∙ (let e : one (i == i) ≡ 1 = grind (arith, nat_tests) in omega (arith, puts i, waited i, put_none, waits_none, e))))
              (λ apart. get_or-set_other s.words (suc i) (suc j) _ 0 (λ e. apart (omega arith)) ∙ r.marks j lt' ∙ (let e : one (i == j) ≡ 0 = grind (arith, nat_tests) in omega (arith, puts j, waited j, e)));
          slots = λ j lt'. dite (ℕ_discrete j i)
              (λ same. subst (λ k. SlotFits piece k vs (get_elem? hs k)) (sym same) (let e : one (i == i) ≡ 1 = grind (arith, nat_tests) in let one_waits : total (waits i) vs ≡ 1 = omega (arith, waited i, waits_none, e) in record {
                empty = λ p q. absurd (omega (arith, q, one_waits));
                out = λ _. set_here s.homes i none (omega (arith, r.sized.1));
                full = λ p. absurd (omega (arith, p, puts i, put_none));
              }))
              (λ apart. let e : one (i == j) ≡ 0 = grind (arith, nat_tests) in subst (SlotFits piece j vs) (sym (set_else s.homes i j none apart))
              (slot-stays piece j s.views vs (get_elem? s.homes j) (puts j) (omega (arith, waited j, e)) (λ p. unmoved s.views id l m at (put_by p j) refl) (r.slots j lt')));
        },
        (zero_found, refl),
      )

  pub own-counts : (s : St) (id : ℕ) (l : Lists) (i : ℕ) → get_elem? s.views id ≡ some (pass_view l) → (put i l ≤ total (put i) s.views) × (waits i l ≤ total (waits i) s.views)
  own-counts s id l i at =
      let a : total (put i) (set s.views id (pass_view (fresh 0))) + put i l ≡ total (put i) s.views + 0 = moved s.views id l (fresh 0) at (put i) in
      let b : total (waits i) (set s.views id (pass_view (fresh 0))) + waits i l ≡ total (waits i) s.views + 0 = moved s.views id l (fresh 0) at (waits i) in
      (omega (arith, a), omega (arith, b))

  pub fills-slot : (slots id : ℕ) (l : Lists) (i : ℕ) (es : List BoardEvent) → l.pending ≡ Some i → i < n
      → Allows (Ruled piece n w) slots id (pass_view l, (i, Some (kept l.number (piece i))) ∷ []) (suc i) (λ k. (k + 1) % 2 ^ 64) (λ found me. (found ≡ 1) × (me ≡ (pass_view (fills l i es), [])))
  fills-slot slots id l i es pending lt s r _ at _ =
      let m : Lists = fills l i es in
      let y : Option Deposit = Some (kept l.number (piece i)) in
      let own = (r.lists id (pass_view l) at).0 refl in
      let here : one (i == i) ≡ 1 = grind (arith, nat_tests) in
      let waiting : (j : ℕ) → waits j l ≡ one (i == j) = λ j. ap (λ (o : Option ℕ). waits j (record l { pending = o })) pending in
      let more : (j : ℕ) → put j m ≡ put j l + one (i == j) = λ j. times-push j i l.deposited in
      let once = entered-once s id l i r at in
      let has : put i l + 1 ≤ drew i l = omega (arith, own.taken i, waiting i, here) in
      let mine = own-counts s id l i at in
      let put_none : total (put i) s.views ≡ 0 = omega (arith, once, has, waiting i, here, mine.1) in
      let mine_none : put i l ≡ 0 = omega (arith, mine.0, put_none) in
      let waits_one : total (waits i) s.views ≡ 1 = omega (arith, once, has, waiting i, here, mine.1, put_none) in
      let x : ℕ = get_or s.words (suc i) 0 in
      let one_found : x ≡ 1 = r.marks i lt ∙ omega (arith, put_none, waits_one) in
      let now : (x + 1) % 18446744073709551616 ≡ 2 = ap (λ (k : ℕ). (k + 1) % 18446744073709551616) one_found in
      let ws : List ℕ = set s.words (suc i) ((x + 1) % 18446744073709551616) in
      let next : get_or ws 0 0 ≡ get_or s.words 0 0 = get_or-set_other s.words (suc i) 0 _ 0 (λ e. omega arith) in
      let vs : List View = set s.views id (pass_view m) in
      let hs : List _ = set s.homes i (some y) in
      let puts : (j : ℕ) → total (put j) vs ≡ total (put j) s.views + one (i == j) = λ j. let t = moved s.views id l m at (put j) in omega (arith, t, more j) in
      let waited : (j : ℕ) → total (waits j) vs + one (i == j) ≡ total (waits j) s.views = λ j. let t : total (waits j) vs + waits j l ≡ total (waits j) s.views + 0 = moved s.views id l m at (waits j) in omega (arith, t, waiting j) in
      let by_else : (p j : ℕ) → one (i == j) ≡ 0 → total (put_by p j) vs ≡ total (put_by p j) s.views = λ p j e. unmoved s.views id l m at (put_by p j) (ap (λ k. cond (l.number == p) k 0) (sym (more j ∙ omega (arith, e)))) in (
        pass_view m,
        gives,
        tt,
        record {
          few = r.few;
          sized = (length-set s.words (suc i) _ ∙ r.sized.0, length-set s.homes i (some y) ∙ r.sized.1);
          drawn = λ z. unmoved s.views id l m at (drew z) refl ∙ r.drawn z ∙ ap (λ (k : ℕ). one (nat_lt z k)) (sym next);
          past = unmoved s.views id l m at (past n) refl ∙ r.past ∙ ap (λ (k : ℕ). k - n) (sym next);
          numbers = numbers-stay w s.views id l m at refl r.numbers;
          lists = λ seat v there. ⊎_elim
              (λ hit. subst (EachFits n) hit.1 (
                (λ _. record { last = own.last; taken = λ j. omega (arith, own.taken j, waiting j, more j); below = λ j le. omega (arith, own.below j le, waiting j, more j) }),
                λ k g none_there. absurd (some-ne-none g (sym none_there)),
              ))
              (λ miss. r.lists seat v miss.1)
              (at_set s.views id seat (pass_view m) v there);
          marks = λ j lt'. dite (ℕ_discrete j i)
              (λ same. subst (λ k. get_or ws (suc k) 0 ≡ 2 * total (put k) vs + total (waits k) vs) (sym same) (get_or-set_same s.words (suc i) _ 0 (omega (arith, r.sized.0)) ∙ now ∙ omega (arith, puts i, waited i, put_none, waits_one, here)))
              (λ apart. get_or-set_other s.words (suc i) (suc j) _ 0 (λ e. apart (omega arith)) ∙ r.marks j lt' ∙ (let e : one (i == j) ≡ 0 = grind (arith, nat_tests) in omega (arith, puts j, waited j, e)));
          slots = λ j lt'. dite (ℕ_discrete j i)
              (λ same. subst (λ k. SlotFits piece k vs (get_elem? hs k)) (sym same) (record {
                empty = λ p q. absurd (omega (arith, p, puts i, here));
                out = λ p. absurd (omega (arith, p, waited i, waits_one, here));
                full = λ _. (l.number, set_here s.homes i (some y) (omega (arith, r.sized.1)), filled-by s id l i es at put_none mine_none);
              }))
              (λ apart. let e : one (i == j) ≡ 0 = grind (arith, nat_tests) in subst (SlotFits piece j vs) (sym (set_else s.homes i j (some y) apart))
              (slot-stays piece j s.views vs (get_elem? s.homes j) (omega (arith, puts j, e)) (omega (arith, waited j, e)) (λ p. by_else p j e) (r.slots j lt')));
        },
        (one_found, refl),
      )
    where
      by-le : (b : Bool) (k : ℕ) → cond b k 0 ≤ k
      by-le true k = omega arith
      by-le false k = omega arith

      filled-by : (s : St) (id : ℕ) (l : Lists) (i : ℕ) (es : List BoardEvent) (at : get_elem? s.views id ≡ some (pass_view l)) → total (put i) s.views ≡ 0 → put i l ≡ 0 → total (put_by l.number i) (set s.views id (pass_view (fills l i es))) ≡ 1
      filled-by s id l i es at none-put none_mine =
          let p : ℕ = l.number in
          let m : Lists = fills l i es in
          let same : (p == p) ≡ true = grind (arith, nat_tests) in
          let here : one (i == i) ≡ 1 = grind (arith, nat_tests) in
          let a : put_by p i l ≡ put i l = ap (λ b. cond b (put i l) 0) same in
          let b : put_by p i m ≡ put i m = ap (λ b. cond b (put i m) 0) same in
          let before : total (put_by p i) s.views ≤ total (put i) s.views = sum-le (in_view (put_by p i)) (in_view (put i)) s.views (λ k v _. in-view-le (put_by p i) (put i) v (λ _. by-le (v.own.number == p) (put i v.own)) (λ j g _. by-le (g.number == p) (put i g))) in
          let t : total (put_by p i) (set s.views id (pass_view m)) + put_by p i l ≡ total (put_by p i) s.views + put_by p i m = moved s.views id l m at (put_by p i) in
          omega (arith, t, a, b, before, none-put, none_mine, times-push i i l.deposited, here)
