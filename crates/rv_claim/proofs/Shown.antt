-- Which board a state shows after a step: each kind of step is its event, or none.
use Rattle.std.proofs.Common.{◌≡◌, ◌≢◌, ℕ, suc, ◌+◌, ◌%◌, ◌^◌, ◌<◌, ◌≤◌, Bool, true, false, cond, not, ◌&&◌, ◌||◌, List, [], ◌∷◌, ◌++◌, length, get_or, set, sym, refl, ap, ◌∙◌, subst, ⊎_elim, arith, get_or-set_same}
use Rattle.std.proofs.lemmas.Bool.{true≢false}
use Rattle.std.specs.Prelude.{nat_lt, nat_le, ◌==◌, IsTrue, Option, Some}
use Rattle.std.specs.List.{list_all}
use Rattle.std.proofs.lemmas.List.{get_or-set_other}
use Rattle.std.proofs.lemmas.List.Sums.{sum_by-cons, sum_by_push}
use Rattle.std.proofs.lemmas.Bool.Decides.{nat_tests}
use mathlib.Core.Option.{Option as Found, some, some-injective, some-ne-none}
use lib.ListN.{get_elem?}
use Rattle.atomic_table.proofs.Lists.{at_set, at_snoc}
use Rattle.rv_book.specs.declared.event.BoardEvent.{BoardEvent}
use Rattle.rv_book.specs.declared.event.BoardEvent.TheVariants.{Claim, Deposit as Deposits}
use Rattle.rv_book.specs.declared.task.Piece.{Piece}
use Rattle.rv_book.specs.Board.{Board, permitted, board_after, draw, drawn_by, is_in, is_journaled}
use Rattle.rv_book.specs.BoardLaws.{one, times}
use Rattle.rv_book.proofs.Lemmas.{drawn-here, drawn-else, length-draw}
use Rattle.rv_claim.specs.declared.view.Deposit.{Deposit}
use Rattle.rv_claim.specs.declared.view.Lists.{Lists}
use Rattle.rv_claim.specs.declared.view.View.{View}
use Rattle.rv_claim.specs.Views.{fresh, pass_view, home_view, spent_view, draws, opens, fills, is_past, drew, put, put_by, waits, numbered, in_view, total}
use Rattle.rv_claim.specs.Rule.{Ruled}
use Rattle.rv_claim.specs.History.{TableState, entries_of, EachPass, DrewOn, Shows}
use Rattle.rv_claim.proofs.Totals.{sum-le, in-view-le, times-push}
use Rattle.rv_claim.proofs.Steps.{below-one, none-else, out-times, moved, unmoved, bounded, entered-once, own-counts}
use Rattle.rv_claim.proofs.Homes.{fresh-by, made-total, joined-total}
use Rattle.rv_claim.proofs.Alone.{once, other-numbers, own-named, some-named}

all-below : (n : ℕ) (xs : List ℕ) → is_past n xs ≡ false → list_all (λ x. nat_lt x n) xs ≡ true
all-below n [] h = refl
all-below n (x ∷ xs) h = ap (λ b. b && list_all (λ y. nat_lt y n) xs) (below-one n x (is_past n xs) h) ∙ all-below n xs (none-else (nat_le n x) (is_past n xs) h)

some-in : (i : ℕ) (xs : List ℕ) → 0 < times i xs → is_in i xs ≡ true
some-in i xs some_one = by (is_in i xs) refl
  where
    by : (b : Bool) → is_in i xs ≡ b → b ≡ true
    by true e = refl
    by false e = absurd (omega (arith, some_one, out-times i xs e))

-- entries of a journal
pub not-journaled : (i : ℕ) (es : List (ℕ × ℕ)) → ((p : ℕ) → entries_of p i es ≡ 0) → is_journaled i es ≡ false
not-journaled i [] none = refl
not-journaled i (e ∷ es) none = by (e.1 == i) refl (not-journaled i es (λ p. omega (arith, sum_by-cons (λ (f : ℕ × ℕ). cond (f.0 == p) (one (f.1 == i)) 0) e es, none p)))
  where
    by : (b : Bool) → (e.1 == i) ≡ b → is_journaled i es ≡ false → (b || is_journaled i es) ≡ false
    by true q rest =
        let here : cond (e.0 == e.0) (one (e.1 == i)) 0 ≡ 1 = ap (λ b. cond b (one (e.1 == i)) 0) (own-named e.0) ∙ ap one q in
        absurd (omega (arith, sum_by-cons (λ (f : ℕ × ℕ). cond (f.0 == e.0) (one (f.1 == i)) 0) e es, none e.0, here))
    by false q rest = rest

pub in-journal : (p i : ℕ) (es : List (ℕ × ℕ)) → 0 < entries_of p i es → is_journaled i es ≡ true
in-journal p i [] some_one = absurd (omega (arith, some_one))
in-journal p i (e ∷ es) some_one = by (e.1 == i) refl (λ more. in-journal p i es more)
  where
    zero-one : (b c : Bool) → c ≡ false → cond b (one c) 0 ≡ 0
    zero-one true c h = ap one h
    zero-one false c h = refl

    by : (b : Bool) → (e.1 == i) ≡ b → (0 < entries_of p i es → is_journaled i es ≡ true) → (b || is_journaled i es) ≡ true
    by true q rest = refl
    by false q rest = rest (omega (arith, some_one, sum_by-cons (λ (f : ℕ × ℕ). cond (f.0 == p) (one (f.1 == i)) 0) e es, zero-one (e.0 == p) (e.1 == i) q))

cond-both : (b : Bool) (x y : ℕ) → cond b (x + y) 0 ≡ cond b x 0 + cond b y 0
cond-both true x y = refl
cond-both false x y = refl

-- a fact of each pass that a view tells of, from another
pub each-from : (P Q : Lists → Type 0) (v : View) → ((l : Lists) → P l → Q l) → EachPass P v → EachPass Q v
each-from P Q v f e = ((λ live. f v.own (e.0 live)), λ k l there. f l (e.1 k l there))

each-two : (P O Q : Lists → Type 0) (v : View) → ((l : Lists) → P l → O l → Q l) → EachPass P v → EachPass O v → EachPass Q v
each-two P O Q v f e o = ((λ live. f v.own (e.0 live) (o.0 live)), λ k l there. f l (e.1 k l there) (o.1 k l there))

-- a fact of all passes, where one of them has changed
pub each-stepped : (P : Lists → Type 0) (vs : List View) (id : ℕ) (m : Lists) → P m → ((seat : ℕ) (v : View) → seat ≢ id → get_elem? vs seat ≡ some v → EachPass P v)
    → (seat : ℕ) (v : View) → get_elem? (set vs id (pass_view m)) seat ≡ some v → EachPass P v
each-stepped P vs id m mine others seat v there = ⊎_elim
    (λ hit. subst (EachPass P) hit.1 ((λ _. mine), λ k g none_there. absurd (some-ne-none g (sym none_there))))
    (λ miss. others seat v miss.0 miss.1)
    (at_set vs id seat (pass_view m) v there)

-- a fact of all passes, where home has made one
pub each-made : (P : Lists → Type 0) (vs : List View) (made : ℕ) (ls : List Lists) → get_elem? vs 0 ≡ some (home_view made ls) → P (fresh made)
    → ((seat : ℕ) (v : View) → get_elem? vs seat ≡ some v → EachPass P v)
    → (seat : ℕ) (v : View) → get_elem? (set vs 0 (home_view (made + 1) ls) ++ pass_view (fresh made) ∷ []) seat ≡ some v → EachPass P v
each-made P vs made ls at new_one all seat v there = ⊎_elim
    (λ old. ⊎_elim
    (λ hit. subst (EachPass P) hit.1 ((λ live. absurd (true≢false (sym live))), (all 0 (home_view made ls) at).1))
    (λ miss. all seat v miss.1)
    (at_set vs 0 seat (home_view (made + 1) ls) v old))
    (λ new. subst (EachPass P) new ((λ _. new_one), λ k m none_there. absurd (some-ne-none m (sym none_there))))
    (at_snoc (set vs 0 (home_view (made + 1) ls)) (pass_view (fresh made)) v seat there)

-- a fact of all passes, where home has gathered one
pub each-joined : (P : Lists → Type 0) (vs : List View) (made : ℕ) (ls : List Lists) (other : ℕ) (l : Lists) → get_elem? vs 0 ≡ some (home_view made ls) → get_elem? vs other ≡ some (pass_view l)
    → ((seat : ℕ) (v : View) → get_elem? vs seat ≡ some v → EachPass P v)
    → (seat : ℕ) (v : View) → get_elem? (set (set vs 0 (home_view made (ls ++ l ∷ []))) other spent_view) seat ≡ some v → EachPass P v
each-joined P vs made ls other l at theirs all seat v there = ⊎_elim
    (λ hit. subst (EachPass P) hit.1 ((λ live. absurd (true≢false (sym live))), λ k m none_there. absurd (some-ne-none m (sym none_there))))
    (λ miss. ⊎_elim
    (λ hit. subst (EachPass P) hit.1 (
      (λ live. absurd (true≢false (sym live))),
      λ k m in_there. ⊎_elim (λ old. (all 0 (home_view made ls) at).1 k m old) (λ new. subst P new ((all other (pass_view l) theirs).0 refl)) (at_snoc ls l m k in_there),
    ))
    (λ old. all seat v old.1)
    (at_set vs 0 seat (home_view made (ls ++ l ∷ [])) v miss.1))
    (at_set (set vs 0 (home_view made (ls ++ l ∷ []))) other seat spent_view v there)

module _ (piece : ℕ → Piece) (n w : ℕ) (s : TableState) (r : Ruled piece n w s) (b : Board) (shown : Shows w s b) where
  module _ (id : ℕ) (l : Lists) (at : get_elem? s.views id ≡ some (pass_view l)) where
    mine : DrewOn b l
    mine = (shown.drawn id (pass_view l) at).0 refl

    below-passes : nat_lt l.number (length b.drawn) ≡ true
    below-passes = let lt : l.number < length b.drawn = mine.0 in grind (arith, nat_tests)

    pub claim-permitted : is_past n l.drawn ≡ false → IsTrue (permitted n b (Claim l.number))
    unfolding permitted
    claim-permitted new =
        ap (λ c. c && list_all (λ x. nat_lt x n) (drawn_by b.drawn l.number)) below-passes
        ∙ ap (list_all (λ x. nat_lt x n)) mine.1 ∙ all-below n l.drawn new

    pub claim-shown : (hs : List (Found (Option Deposit))) (es : List BoardEvent) → is_past n l.drawn ≡ false
        → Shows w record { words = set s.words 0 ((get_or s.words 0 0 + 1) % 2 ^ 64); homes = hs; views = set s.views id (pass_view (draws l (get_or s.words 0 0) es)) } (board_after b (Claim l.number))
    unfolding board_after
    claim-shown hs es new =
        let x : ℕ = get_or s.words 0 0 in
        let m : Lists = draws l x es in
        let few : x ≤ n + w = bounded piece n w s r in
        let next : (x + 1) % 18446744073709551616 ≡ x + 1 = omega (arith, few, r.few.0, r.few.1) in
        let here : get_or (set s.words 0 ((x + 1) % 18446744073709551616)) 0 0 ≡ x + 1 = get_or-set_same s.words 0 _ 0 (omega (arith, r.sized.0)) ∙ next in
        let drawn_now : drawn_by (draw b.drawn l.number b.next) l.number ≡ l.drawn ++ x ∷ [] = drawn-here b.drawn l.number b.next mine.0 ∙ ap (λ ys. ys ++ b.next ∷ []) mine.1 ∙ ap (λ (y : ℕ). l.drawn ++ y ∷ []) shown.next in
        record {
          next = omega (arith, here, shown.next);
          passes = length-draw b.drawn l.number b.next ∙ shown.passes;
          drawn = each-stepped (DrewOn (board_after b (Claim l.number))) s.views id m
              (subst (λ k. l.number < k) (sym (length-draw b.drawn l.number b.next)) mine.0, drawn_now)
              (λ seat v apart there. each-two (DrewOn b) (λ g. g.number ≢ l.number) (DrewOn (board_after b (Claim l.number))) v
              (λ g on other. (subst (λ k. g.number < k) (sym (length-draw b.drawn l.number b.next)) on.0, drawn-else b.drawn l.number g.number b.next other ∙ on.1))
              (shown.drawn seat v there) (other-numbers s.views id l at (once w l.number s.views r.numbers) seat v apart there));
          unmade = λ p none_there.
              let before : total (numbered p) s.views ≡ 0 = sym (unmoved s.views id l m at (numbered p) refl) ∙ none_there in
              drawn-else b.drawn l.number p b.next (λ same. absurd (omega (arith, before, some-named s.views id l at p same))) ∙ shown.unmade p before;
          journal = λ p i. shown.journal p i ∙ sym (unmoved s.views id l m at (put_by p i) refl);
        }

    -- no board has a slot's number entered that no pass deposited
    none-entered : (i : ℕ) → total (put i) s.views ≡ 0 → is_journaled i b.journal ≡ false
    none-entered i none = not-journaled i b.journal (λ p.
        let le : total (put_by p i) s.views ≤ total (put i) s.views = sum-le (in_view (put_by p i)) (in_view (put i)) s.views (λ k v _. in-view-le (put_by p i) (put i) v (λ _. by-le (v.own.number == p) (put i v.own)) (λ j g _. by-le (g.number == p) (put i g))) in
        omega (arith, shown.journal p i, le, none))
      where
        by-le : (c : Bool) (k : ℕ) → cond c k 0 ≤ k
        by-le true k = omega arith
        by-le false k = omega arith

    module _ (i : ℕ) (pending : l.pending ≡ Some i) where
      waiting : (j : ℕ) → waits j l ≡ one (i == j)
      waiting j = ap (λ (o : Option ℕ). waits j (record l { pending = o })) pending

      has : put i l + 1 ≤ drew i l
      has = let here : one (i == i) ≡ 1 = grind (arith, nat_tests) in omega (arith, ((r.lists id (pass_view l) at).0 refl).taken i, waiting i, here)

      none-put : total (put i) s.views ≡ 0
      none-put = let here : one (i == i) ≡ 1 = grind (arith, nat_tests) in omega (arith, entered-once piece n w s id l i r at, has, waiting i, here, (own-counts piece n w s id l i at).1)

      pub deposit-permitted : i < n → IsTrue (permitted n b (Deposits l.number i))
      unfolding permitted
      deposit-permitted lt =
          let below : nat_lt i n ≡ true = grind (arith, nat_tests) in
          let drew_it : is_in i (drawn_by b.drawn l.number) ≡ true = ap (is_in i) mine.1 ∙ some-in i l.drawn (omega (arith, has)) in
          ap (λ c. c && nat_lt i n && not (is_journaled i b.journal)) drew_it
          ∙ ap (λ c. c && not (is_journaled i b.journal)) below ∙ ap not (none-entered i none-put)

      pub fill-shown : (v : ℕ) (hs : List (Found (Option Deposit))) (es : List BoardEvent)
          → Shows w record { words = set s.words (suc i) v; homes = hs; views = set s.views id (pass_view (fills l i es)) } (board_after b (Deposits l.number i))
      unfolding board_after
      fill-shown v hs es =
          let m : Lists = fills l i es in
          record {
            next = shown.next ∙ sym (get_or-set_other s.words (suc i) 0 v 0 (λ e. omega arith));
            passes = shown.passes;
            drawn = each-stepped (DrewOn b) s.views id m mine (λ seat v apart there. shown.drawn seat v there);
            unmade = λ p none_there. shown.unmade p (sym (unmoved s.views id l m at (numbered p) refl) ∙ none_there);
            journal = λ p j.
                let entry : entries_of p j (b.journal ++ (l.number, i) ∷ []) ≡ entries_of p j b.journal + cond (l.number == p) (one (i == j)) 0 = sum_by_push (λ (f : ℕ × ℕ). cond (f.0 == p) (one (f.1 == j)) 0) b.journal (l.number, i) in
                let more : put_by p j m ≡ put_by p j l + cond (l.number == p) (one (i == j)) 0 = ap (λ (k : ℕ). cond (l.number == p) k 0) (times-push j i l.deposited) ∙ cond-both (l.number == p) (put j l) (one (i == j)) in
                omega (arith, entry, more, shown.journal p j, moved s.views id l m at (put_by p j));
          }

    pub open-shown : (i v : ℕ) (hs : List (Found (Option Deposit))) → Shows w record { words = set s.words (suc i) v; homes = hs; views = set s.views id (pass_view (opens l i)) } b
    open-shown i v hs =
        let m : Lists = opens l i in
        record {
          next = shown.next ∙ sym (get_or-set_other s.words (suc i) 0 v 0 (λ e. omega arith));
          passes = shown.passes;
          drawn = each-stepped (DrewOn b) s.views id m mine (λ seat v apart there. shown.drawn seat v there);
          unmade = λ p none_there. shown.unmade p (sym (unmoved s.views id l m at (numbered p) refl) ∙ none_there);
          journal = λ p j. shown.journal p j ∙ sym (unmoved s.views id l m at (put_by p j) refl);
        }

  module _ (made : ℕ) (ls : List Lists) (at : get_elem? s.views 0 ≡ some (home_view made ls)) where
    pub split-shown : made < w → Shows w record { words = s.words; homes = s.homes; views = set s.views 0 (home_view (made + 1) ls) ++ pass_view (fresh made) ∷ [] } b
    split-shown room =
        let sum : (f : Lists → ℕ) → total f (set s.views 0 (home_view (made + 1) ls) ++ pass_view (fresh made) ∷ []) ≡ total f s.views + f (fresh made) = λ f. made-total s.views made ls at f in
        let made-is : r.numbers.home.made ≡ made = ap (λ (v : View). v.made) (some-injective _ _ (sym r.numbers.at ∙ at)) in
        let unused : total (numbered made) s.views ≡ 0 = r.numbers.each made ∙ ap (λ (k : ℕ). one (nat_lt made k)) made-is ∙ (let z : one (nat_lt made made) ≡ 0 = grind (arith, nat_tests) in z) in
        record {
          next = shown.next;
          passes = shown.passes;
          drawn = each-made (DrewOn b) s.views made ls at (omega (arith, shown.passes, room), shown.unmade made unused) shown.drawn;
          unmade = λ p none_there. shown.unmade p (omega (arith, sum (numbered p), none_there));
          journal = λ p i. omega (arith, shown.journal p i, sum (put_by p i), fresh-by p made i);
        }

    pub join-shown : (other : ℕ) (l : Lists) → other ≢ 0 → get_elem? s.views other ≡ some (pass_view l)
        → Shows w record { words = s.words; homes = s.homes; views = set (set s.views 0 (home_view made (ls ++ l ∷ []))) other spent_view } b
    join-shown other l apart theirs =
        let sum : (f : Lists → ℕ) → total f (set (set s.views 0 (home_view made (ls ++ l ∷ []))) other spent_view) ≡ total f s.views = λ f. joined-total s.views made ls other l at apart theirs f in
        record {
          next = shown.next;
          passes = shown.passes;
          drawn = each-joined (DrewOn b) s.views made ls other l at theirs shown.drawn;
          unmade = λ p none_there. shown.unmade p (sym (sum (numbered p)) ∙ none_there);
          journal = λ p i. shown.journal p i ∙ sym (sum (put_by p i));
        }
