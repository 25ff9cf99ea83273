-- The last state of a table, where home has gathered all passes, is that of a run of the board's machine.
use Rattle.std.proofs.Common.{◌≡◌, ◌≢◌, ℕ, zero, suc, ◌+◌, ◌<◌, Bool, true, false, cond, ◌&&◌, ◌||◌, List, [], ◌∷◌, length, map, sym, refl, ap, ◌∙◌, arith}
use Rattle.std.specs.Prelude.{Option, sum_by, nat_le, slice_index_or, ◌==◌}
use Rattle.std.specs.List.{list_all}
use Rattle.std.proofs.lemmas.Bool.Decides.{nat_tests}
use Rattle.std.proofs.lemmas.List.Sums.{sum_by-cons}
use mathlib.Core.Option.{some}
use lib.ListN.{get_elem?}
use Rattle.atomic_table.specs.Table.{Final, Seen}
use Rattle.rv_book.specs.declared.task.Piece.{Piece}
use Rattle.rv_book.specs.Board.{Board, drawn_by, is_done, is_in, is_journaled, pass_done}
use Rattle.rv_book.specs.BoardLaws.{times}
use Rattle.rv_claim.specs.declared.pass.Pass.{Pass}
use Rattle.rv_claim.specs.declared.view.Deposit.{Deposit}
use Rattle.rv_claim.specs.declared.view.Lists.{Lists}
use Rattle.rv_claim.specs.declared.view.View.{View}
use Rattle.rv_claim.specs.Views.{home_view, put, put_by}
use Rattle.rv_claim.specs.Rule.{Ruled}
use Rattle.rv_claim.specs.History.{TableState, Kept, entries_of}
use Rattle.rv_claim.specs.Passes.{number_of, drawn_of, deposited_of}
use Rattle.rv_claim.specs.Making.{own_of}
use Rattle.rv_claim.specs.Closing.{IsRun, is_settled}
use Rattle.rv_claim.proofs.Closes.{places, length-own, same-lists}
use Rattle.rv_claim.proofs.Ending.{all-home}
use Rattle.rv_claim.proofs.Shown.{in-journal}
use Rattle.rv_claim.proofs.Steps.{in-times}

-- the rule, of a last state with its history
abbrev pub final-ruled : (piece : ℕ → Piece) (n w id : ℕ) (v : View) (words : List ℕ) (xs : List (Option Deposit)) → Final (Seen (Kept piece n w) id v) words xs → Final (Seen (Ruled piece n w) id v) words xs
final-ruled piece n w id v words xs f = (f.0, (f.1.0.ruled, f.1.1), f.2, f.3, f.4)

-- lists, each of a pass
at-own : (ps : List Pass) (k : ℕ) (d : Pass) → k < length ps → get_elem? (map own_of ps) k ≡ some (own_of (slice_index_or ps k d))
at-own [] k d lt = absurd (omega (arith, lt))
at-own (p ∷ ps) zero d lt = refl
at-own (p ∷ ps) (suc k) d lt = at-own ps k d (omega (arith, lt))

all-drawn : (ds : List (List ℕ)) (ps : List Pass) → length ds ≡ length ps → ((k : ℕ) (d : Pass) → k < length ps → drawn_by ds k ≡ drawn_of (slice_index_or ps k d)) → ds ≡ map drawn_of ps
all-drawn [] [] long each = refl
all-drawn [] (p ∷ ps) long each = absurd (omega (arith, long))
all-drawn (d ∷ ds) [] long each = absurd (omega (arith, long))
all-drawn (d ∷ ds) (p ∷ ps) long each =
    let first : d ≡ drawn_of p = each 0 p (omega arith) in
    let rest : ds ≡ map drawn_of ps = all-drawn ds ps (omega (arith, long)) (λ k q lt. each (suc k) q (omega (arith, lt))) in
    ap (λ e. e ∷ ds) first ∙ ap (λ es. drawn_of p ∷ es) rest

deposited-at : (ps : List Pass) (k : ℕ) (d : Pass) → k < length ps → drawn_by (map deposited_of ps) k ≡ deposited_of (slice_index_or ps k d)
deposited-at [] k d lt = absurd (omega (arith, lt))
deposited-at (p ∷ ps) zero d lt = refl
deposited-at (p ∷ ps) (suc k) d lt = deposited-at ps k d (omega (arith, lt))

all-passes : (test : List ℕ → Bool) (ps : List Pass) → ((k : ℕ) (d : Pass) → k < length ps → test (drawn_of (slice_index_or ps k d)) ≡ true) → list_all test (map drawn_of ps) ≡ true
all-passes test [] each = refl
all-passes test (p ∷ ps) each = ap (λ b. b && list_all test (map drawn_of ps)) (each 0 p (omega arith)) ∙ all-passes test ps (λ k d lt. each (suc k) d (omega (arith, lt)))

-- who put i, of passes whose numbers are their places from q on
module _ (i : ℕ) where
  put-else : (p : ℕ) (l : Lists) → l.number ≢ p → put_by p i l ≡ 0
  put-else p l apart = let far : (l.number == p) ≡ false = grind (arith, nat_tests) in ap (λ b. cond b (put i l) 0) far

  put-here : (p : ℕ) (l : Lists) → l.number ≡ p → put_by p i l ≡ put i l
  put-here p l same = let here : (l.number == p) ≡ true = grind (arith, nat_tests) in ap (λ b. cond b (put i l) 0) here

  none-before : (ls : List Lists) (q p : ℕ) → ((k : ℕ) (l : Lists) → get_elem? ls k ≡ some l → l.number ≡ q + k) → p < q → sum_by (put_by p i) ls ≡ 0
  none-before [] q p at lt = refl
  none-before (l ∷ ls) q p at lt =
      let first : l.number ≡ q + 0 = at 0 l refl in
      omega (arith, sum_by-cons (put_by p i) l ls, put-else p l (λ e. omega (arith, e, first, lt)), none-before ls (q + 1) p (λ k m there. at (suc k) m there ∙ omega arith) (omega (arith, lt)))

  put-at : (ls : List Lists) (q p : ℕ) → ((k : ℕ) (l : Lists) → get_elem? ls k ≡ some l → l.number ≡ q + k)
      → sum_by (put_by (q + p) i) ls ≡ times i (drawn_by (map (λ (l : Lists). l.deposited) ls) p)
  put-at [] q p at = refl
  put-at (l ∷ ls) q zero at =
      let first : l.number ≡ q + 0 = at 0 l refl in
      let rest : sum_by (put_by (q + 0) i) ls ≡ 0 = none-before ls (q + 1) (q + 0) (λ k m there. at (suc k) m there ∙ omega arith) (omega arith) in
      omega (arith, sum_by-cons (put_by (q + 0) i) l ls, put-here (q + 0) l first, rest)
  put-at (l ∷ ls) q (suc p) at =
      let first : l.number ≡ q + 0 = at 0 l refl in
      let next : q + suc p ≡ (q + 1) + p = omega arith in
      let rest = ap (λ (k : ℕ). sum_by (put_by k i) ls) next ∙ put-at ls (q + 1) p (λ k m there. at (suc k) m there ∙ omega arith) in
      omega (arith, sum_by-cons (put_by (q + suc p) i) l ls, put-else (q + suc p) l (λ e. omega (arith, e, first)), rest)

-- what a pass drew below n is in the journal
all-entered : (n : ℕ) (js : List (ℕ × ℕ)) (xs : List ℕ) → ((x : ℕ) → x < n → is_in x xs ≡ true → is_journaled x js ≡ true) → list_all (λ x. nat_le n x || is_journaled x js) xs ≡ true
all-entered n js [] each = refl
all-entered n js (x ∷ xs) each =
    ap (λ b. b && list_all (λ y. nat_le n y || is_journaled y js) xs) (by (nat_le n x) refl)
    ∙ all-entered n js xs (λ y lt there. each y lt (ap (λ b. (x == y) || b) there ∙ or-last (x == y)))
  where
    or-last : (b : Bool) → (b || true) ≡ true
    or-last true = refl
    or-last false = refl

    by : (b : Bool) → nat_le n x ≡ b → (b || is_journaled x js) ≡ true
    by true e = refl
    by false e = each x (grind (arith, nat_tests)) (ap (λ b. b || is_in x xs) (let here : (x == x) ≡ true = grind (arith, nat_tests) in here))

module _ (piece : ℕ → Piece) (n w : ℕ) (ps : List Pass) (words : List ℕ) (xs : List (Option Deposit)) (long : length ps ≡ w)
    (named : (k : ℕ) (d : Pass) → k < length ps → number_of (slice_index_or ps k d) ≡ k) (f : Final (Seen (Kept piece n w) 0 (home_view w (map own_of ps))) words xs) where
  abbrev s : TableState
  s = f.0

  at : get_elem? s.views 0 ≡ some (home_view w (map own_of ps))
  at = f.1.1

  abbrev b : Board
  b = f.1.0.history.board

  its-drawn : (j : ℕ) (d : Pass) → j < length ps → drawn_by b.drawn j ≡ drawn_of (slice_index_or ps j d)
  its-drawn j d lt =
      let mine : Lists = own_of (slice_index_or ps j d) in
      let there : get_elem? (map own_of ps) j ≡ some mine = at-own ps j d lt in
      ap (drawn_by b.drawn) (sym (places ps named j mine there)) ∙ ((f.1.0.history.shows.drawn 0 (home_view w (map own_of ps)) at).1 j mine there).1

  lists : b.drawn ≡ map drawn_of ps
  lists = all-drawn b.drawn ps (f.1.0.history.shows.passes ∙ sym long) its-drawn

  entries : (p i : ℕ) → entries_of p i b.journal ≡ times i (drawn_by (map deposited_of ps) p)
  entries p i =
      f.1.0.history.shows.journal p i
      ∙ all-home piece n w (map own_of ps) words xs (length-own ps ∙ long) (places ps named) (final-ruled piece n w 0 (home_view w (map own_of ps)) words xs f) (put_by p i)
      ∙ ap (λ (k : ℕ). sum_by (put_by k i) (map own_of ps)) (let e : p ≡ 0 + p = omega arith in e) ∙ put-at i (map own_of ps) 0 p (λ j l there. places ps named j l there ∙ omega arith)
      ∙ ap (λ ds. times i (drawn_by ds p)) (same-lists ps)

  pub is-run : ((j : ℕ) (d : Pass) → j < length ps → is_settled n (drawn_of (slice_index_or ps j d)) (deposited_of (slice_index_or ps j d))) → IsRun n w ps
  unfolding is_done
  is-run settled = record {
    events = f.1.0.history.events;
    board = b;
    reached = f.1.0.history.reached;
    seen = λ j d lt. (f.1.0.history.seen 0 (home_view w (map own_of ps)) at).1 j (own_of (slice_index_or ps j d)) (at-own ps j d lt);
    drawn = lists;
    journal = entries;
    done = λ past. ap (list_all (pass_done n b)) lists ∙ all-passes (pass_done n b) ps (λ j d lt.
        let mine : List ℕ = drawn_of (slice_index_or ps j d) in
        ap (λ t. t && list_all (λ x. nat_le n x || is_journaled x b.journal) mine) (past j d lt)
        ∙ all-entered n b.journal mine (λ x below there.
        let put_there : is_in x (deposited_of (slice_index_or ps j d)) ≡ true = settled j d lt x below there in
        in-journal j x b.journal (omega (arith, entries j x, ap (times x) (deposited-at ps j d lt), in-times x (deposited_of (slice_index_or ps j d)) put_there))));
  }
