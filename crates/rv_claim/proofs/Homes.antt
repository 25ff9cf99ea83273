-- Making and gathering a pass keep the board's rule, and a new table has it.
use Rattle.std.proofs.Common.{replicate, map, ◌≡◌, ◌≢◌, ℕ, zero, suc, ◌+◌, ◌<◌, ◌≤◌, Bool, true, false, cond, List, [], ◌∷◌, ◌++◌, length, get_or, set, sym, refl, ap, ◌∙◌, subst, ⊎_elim, arith}
use Rattle.std.proofs.lemmas.Bool.{true≢false}
use Rattle.std.specs.Prelude.{sum_by, nat_lt, ◌==◌, Option, None}
use Rattle.std.proofs.lemmas.List.{length-map, length-replicate}
use Rattle.std.proofs.lemmas.Bool.Decides.{nat_tests}
use mathlib.Core.Option.{some, some-injective, some-ne-none}
use lib.ListN.{get_elem?}
use Rattle.atomic_table.specs.Table.{Splits, Joins, opening}
use Rattle.atomic_table.proofs.Lists.{at_set, at_longer, at_snoc, set_here, set_else}
use Rattle.rv_book.specs.declared.task.Piece.{Piece}
use Rattle.std.proofs.lemmas.List.Sums.{sum_by_push}
use Rattle.rv_claim.specs.declared.view.Deposit.{Deposit}
use Rattle.rv_claim.specs.declared.view.Lists.{Lists}
use Rattle.rv_claim.specs.declared.view.View.{View}
use Rattle.rv_claim.specs.Views.{fresh, pass_view, home_view, spent_view, drew, put, put_by, waits, past, numbered, each_one, in_view, total}
use Rattle.rv_book.specs.BoardLaws.{one}
use Rattle.rv_claim.specs.Rule.{Fits, EachFits, Ruled}
use Rattle.rv_claim.proofs.Totals.{sum-at, one-more}
use Rattle.rv_claim.proofs.Steps.{slot-stays}

-- a place of a list is below its length
pub at-below : {X : Type 0} (xs : List X) (i : ℕ) (x : X) → get_elem? xs i ≡ some x → i < length xs
at-below [] i x at = absurd (some-ne-none x (sym at))
at-below (y ∷ ys) zero x at = omega arith
at-below (y ∷ ys) (suc i) x at = let h = at-below ys i x at in omega arith

pub fresh-by : (p k i : ℕ) → put_by p i (fresh k) ≡ 0
fresh-by p k i = by (k == p)
  where
    by : (b : Bool) → let z : ℕ = 0 in cond b z z ≡ z
    by true = refl
    by false = refl

-- what home's making and gathering of a pass does to the totals
pub made-total : (vs : List View) (made : ℕ) (ls : List Lists) → get_elem? vs 0 ≡ some (home_view made ls) → (f : Lists → ℕ) → total f (set vs 0 (home_view (made + 1) ls) ++ pass_view (fresh made) ∷ []) ≡ total f vs + f (fresh made)
made-total vs made ls at f =
    let g : View = home_view (made + 1) ls in
    omega (arith, sum_by_push (in_view f) (set vs 0 g) (pass_view (fresh made)), sum-at (in_view f) vs 0 (home_view made ls) g at)

pub joined-total : (vs : List View) (made : ℕ) (ls : List Lists) (other : ℕ) (l : Lists) → get_elem? vs 0 ≡ some (home_view made ls) → other ≢ 0 → get_elem? vs other ≡ some (pass_view l)
    → (f : Lists → ℕ) → total f (set (set vs 0 (home_view made (ls ++ l ∷ []))) other spent_view) ≡ total f vs
joined-total vs made ls other l at apart theirs f =
    let g : View = home_view made (ls ++ l ∷ []) in
    let us : List View = set vs 0 g in
    let a : total f us + sum_by f ls ≡ total f vs + sum_by f (ls ++ l ∷ []) = let t = sum-at (in_view f) vs 0 (home_view made ls) g at in omega (arith, t) in
    let b : total f (set us other spent_view) + f l ≡ total f us = let t = sum-at (in_view f) us other (pass_view l) spent_view (set_else vs 0 other g apart ∙ theirs) in omega (arith, t) in
    omega (arith, a, b, sum_by_push f ls l)

module _ (piece : ℕ → Piece) (n w : ℕ) where
  pub splits : (made : ℕ) (ls : List Lists) → made < w → Splits (Ruled piece n w) 0 (home_view made ls) (home_view (made + 1) ls) (pass_view (fresh made))
  splits made ls room s r at =
      let h : View = home_view made ls in
      let g : View = home_view (made + 1) ls in
      let o : View = pass_view (fresh made) in
      let vs : List View = set s.views 0 g ++ o ∷ [] in
      let sum : (f : Lists → ℕ) → total f vs ≡ total f s.views + f (fresh made) = λ f. made-total s.views made ls at f in
      let same : r.numbers.home ≡ h = some-injective _ _ (sym r.numbers.at ∙ at) in
      let made-is : r.numbers.home.made ≡ made = ap (λ (v : View). v.made) same in
      let first : get_elem? vs 0 ≡ some g = at_longer (set s.views 0 g) (o ∷ []) 0 g (set_here s.views 0 g (at-below s.views 0 h at)) in
      record {
        few = r.few;
        sized = r.sized;
        drawn = λ x. omega (arith, sum (drew x)) ∙ r.drawn x;
        past = omega (arith, sum (past n)) ∙ r.past;
        numbers = record {
          home = g;
          at = first;
          quiet = refl;
          few = omega arith;
          count = omega (arith, sum each_one, r.numbers.count, made-is);
          each = λ k.
              let t : total (numbered k) vs ≡ total (numbered k) s.views + one (made == k) = sum (numbered k) in
              let u : total (numbered k) s.views ≡ one (nat_lt k made) = r.numbers.each k ∙ ap (λ (m : ℕ). one (nat_lt k m)) made-is in
              omega (arith, t, u, one-more made k);
        };
        lists = λ seat v there. ⊎_elim
            (λ old. ⊎_elim (λ hit. subst (EachFits n) hit.1 ((λ live. absurd (true≢false (sym live))), (r.lists 0 h at).1)) (λ miss. r.lists seat v miss.1) (at_set s.views 0 seat g v old))
            (λ new. subst (EachFits n) new ((λ _. record { last = refl; taken = λ i. omega arith; below = λ i le. refl }), λ k m none_there. absurd (some-ne-none m (sym none_there))))
            (at_snoc (set s.views 0 g) o v seat there);
        marks = λ i lt. r.marks i lt ∙ omega (arith, sum (put i), sum (waits i));
        slots = λ i lt. slot-stays piece i s.views vs (get_elem? s.homes i) (omega (arith, sum (put i))) (omega (arith, sum (waits i))) (λ p. omega (arith, sum (put_by p i), fresh-by p made i)) (r.slots i lt);
      }

  pub joins : (made : ℕ) (ls : List Lists) (other : ℕ) (l : Lists) → l.pending ≡ None → Joins (Ruled piece n w) 0 (home_view made ls) other (pass_view l) (home_view made (ls ++ l ∷ [])) spent_view
  joins made ls other l idle s r at apart at' =
      let h : View = home_view made ls in
      let g : View = home_view made (ls ++ l ∷ []) in
      let o : View = pass_view l in
      let us : List View = set s.views 0 g in
      let vs : List View = set us other spent_view in
      let theirs : get_elem? s.views other ≡ some o = sym (set_else s.views 0 other g apart) ∙ at' in
      let sum : (f : Lists → ℕ) → total f vs ≡ total f s.views = λ f. joined-total s.views made ls other l at apart theirs f in
      let same : r.numbers.home ≡ h = some-injective _ _ (sym r.numbers.at ∙ at) in
      let made-is : r.numbers.home.made ≡ made = ap (λ (v : View). v.made) same in
      let first : get_elem? vs 0 ≡ some g = set_else us other 0 spent_view (λ e. apart (sym e)) ∙ set_here s.views 0 g (at-below s.views 0 h at) in
      record {
        few = r.few;
        sized = r.sized;
        drawn = λ x. sum (drew x) ∙ r.drawn x;
        past = sum (past n) ∙ r.past;
        numbers = record {
          home = g;
          at = first;
          quiet = refl;
          few = omega (arith, r.numbers.few, made-is);
          count = sum each_one ∙ r.numbers.count ∙ made-is;
          each = λ k. sum (numbered k) ∙ r.numbers.each k ∙ ap (λ (m : ℕ). one (nat_lt k m)) made-is;
        };
        lists = λ seat v there. ⊎_elim
            (λ hit. subst (EachFits n) hit.1 ((λ live. absurd (true≢false (sym live))), λ k m none_there. absurd (some-ne-none m (sym none_there))))
            (λ miss. ⊎_elim
            (λ hit. subst (EachFits n) hit.1 (
              (λ live. absurd (true≢false (sym live))),
              λ k m in_there. ⊎_elim (λ old. (r.lists 0 h at).1 k m old) (λ new. subst (λ (z : Lists). Fits n z × (z.pending ≡ None)) new ((r.lists other o theirs).0 refl, idle)) (at_snoc ls l m k in_there),
            ))
            (λ old. r.lists seat v old.1)
            (at_set s.views 0 seat g v miss.1))
            (at_set us other seat spent_view v there);
        marks = λ i lt. r.marks i lt ∙ omega (arith, sum (put i), sum (waits i));
        slots = λ i lt. slot-stays piece i s.views vs (get_elem? s.homes i) (sum (put i)) (sum (waits i)) (λ p. sum (put_by p i)) (r.slots i lt);
      }

  pub no-words : (k i : ℕ) → let z : ℕ = 0 in get_or (replicate k z) i z ≡ z
  no-words zero i = refl
  no-words (suc k) zero = refl
  no-words (suc k) (suc i) = no-words k i

  nones : (k i : ℕ) → i < k → let nothing : Option Deposit = None in get_elem? (map some (replicate k nothing)) i ≡ some (some nothing)
  nones zero i lt = absurd (omega arith)
  nones (suc k) zero lt = refl
  nones (suc k) (suc i) lt = nones k i (omega arith)

  pub begins : n ≤ 65536 → w ≤ 64 → Ruled piece n w (opening (replicate (n + 1) 0) (replicate n None) (home_view 0 []))
  begins few_n few_w = record {
    few = (few_n, few_w);
    sized = (length-replicate (n + 1) 0, length-map (replicate n None) some ∙ length-replicate n None);
    drawn = λ x. sym (none-below x) ∙ ap (λ (k : ℕ). one (nat_lt x k)) (sym (no-words (n + 1) 0));
    past = omega (arith, no-words (n + 1) 0);
    numbers = record { home = home_view 0 []; at = refl; quiet = refl; few = omega arith; count = refl; each = λ k. sym (none-below k) };
    lists = λ seat v there. at-first seat v there;
    marks = λ i lt. no-words (n + 1) (suc i);
    slots = λ i lt. record { empty = λ p q. nones n i lt; out = λ p. absurd (omega (arith, p)); full = λ p. absurd (omega (arith, p)) };
  }
    where
      none-below : (x : ℕ) → one (nat_lt x 0) ≡ 0
      none-below x = grind (arith, nat_tests)

      at-first : (seat : ℕ) (v : View) → get_elem? (home_view 0 [] ∷ []) seat ≡ some v → EachFits n v
      at-first zero v there = subst (EachFits n) (some-injective (home_view 0 []) v there) ((λ live. absurd (true≢false (sym live))), λ k m none_there. absurd (some-ne-none m (sym none_there)))
      at-first (suc seat) v there = absurd (some-ne-none v (sym there))
