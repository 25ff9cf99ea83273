-- How a book is made of the last state of a table.
use Rattle.std.proofs.Common.{◌≡◌, ◌≢◌, ℕ, zero, suc, ◌+◌, ◌<◌, ◌≤◌, Bool, true, false, ◌||◌, List, [], ◌∷◌, ◌++◌, length, get_or, set, map, sym, refl, ap, ◌∙◌, subst, arith}
use Rattle.std.specs.Prelude.{Option, Some, None, slice_index_or, ◌==◌}
use Rattle.std.specs.List.{flat_map, range_with_len, remove}
use Rattle.std.proofs.Common.{get_or-set_same}
use Rattle.std.proofs.lemmas.List.{get_or-set_other}
use Rattle.std.proofs.lemmas.Bool.Decides.{nat_tests}
use Rattle.std.proofs.Math.Bool.{or-false}
use Rattle.std.proofs.lemmas.Grind.{flat_map-append}
use Rattle.std.proofs.lemmas.List.Folds.{list_any-append}
use mathlib.Core.Option.{some, some-injective, some-ne-none}
use mathlib.Core.List.{append-nil}
use lib.ListN.{get_elem?}
use Rattle.atomic_table.specs.Table.{Final, Seen}
use Rattle.rv_book.specs.Board.{is_in}
use Rattle.rv_book.specs.declared.entry.Entry.{Entry}
use Rattle.rv_book.specs.declared.entry.Deposited.{Deposited}
use Rattle.rv_book.specs.declared.task.Piece.{Piece}
use Rattle.rv_book.specs.Journal.{BookState, IsDeposit, entry, indices, is_entered, pieces_of, with_entry}
use Rattle.rv_claim.specs.declared.pass.Pass.{Pass}
use Rattle.rv_claim.specs.declared.view.Deposit.{Deposit}
use Rattle.rv_claim.specs.declared.view.Lists.{Lists}
use Rattle.rv_claim.specs.declared.view.View.{View}
use Rattle.rv_claim.specs.Views.{home_view, is_past, with_gathered, kept}
use Rattle.rv_book.proofs.Lemmas.{some-not-none, some-inj, enters-new, range-snoc}
use Rattle.std.proofs.lemmas.List.{map-append}
use Rattle.rv_claim.proofs.Steps.{Seat}
use Rattle.rv_claim.specs.Rule.{Ruled}
use Rattle.rv_claim.specs.History.{Kept}
use Rattle.rv_claim.specs.Passes.{number_of, drawn_of, deposited_of}
use Rattle.rv_claim.specs.Making.{own_of}
use Rattle.rv_claim.specs.Closing.{depositor, entry_by, closing, slot_by}
use Rattle.rv_claim.proofs.Ending.{closed-slot, each-deposited}

pub closing-more : (ds : List (List ℕ)) (i : ℕ) → closing ds (i + 1) ≡ closing ds i ++ entry_by (depositor i ds 0) i
closing-more ds i =
    let f : ℕ → List Entry = λ k. entry_by (depositor k ds 0) k in
    ap (flat_map f) (range-snoc 0 i i (omega arith)) ∙ flat_map-append f (range_with_len 0 i) (i ∷ []) ∙ ap (λ es. closing ds i ++ es) (append-nil (f i))

entered-by : (o : Option ℕ) (i j : ℕ) → j ≢ i → is_entered j (entry_by o i) ≡ false
entered-by None i j n = refl
entered-by (Some p) i j n = or-false (i == j) ∙ grind (arith, nat_tests)

-- no later number is entered
pub not-yet : (ds : List (List ℕ)) (i j : ℕ) → i ≤ j → is_entered j (closing ds i) ≡ false
not-yet ds zero j le = refl
not-yet ds (suc i) j le =
    let more = closing-more ds i in
    let e : suc i ≡ i + 1 = omega arith in
    ap (λ k. is_entered j (closing ds k)) e ∙ ap (is_entered j) more ∙ list_any-append (λ (e : Entry). e.index == j) (closing ds i) (entry_by (depositor i ds 0) i)
    ∙ ap (λ b. b || is_entered j (entry_by (depositor i ds 0) i)) (not-yet ds i j (omega (arith, le))) ∙ entered-by (depositor i ds 0) i j (λ q. omega (arith, le, q))

-- where each number was deposited, each is entered
pub indices-closing : (ds : List (List ℕ)) (n : ℕ) → ((i : ℕ) → i < n → (p : ℕ) × (depositor i ds 0 ≡ Some p)) → indices (closing ds n) ≡ range_with_len 0 n
indices-closing ds zero each = refl
indices-closing ds (suc n) each =
    let e : suc n ≡ n + 1 = omega arith in
    ap (λ k. indices (closing ds k)) e ∙ ap indices (closing-more ds n) ∙ map-append (λ (f : Entry). f.index) (closing ds n) (entry_by (depositor n ds 0) n)
    ∙ ap (λ ks. ks ++ indices (entry_by (depositor n ds 0) n)) (indices-closing ds n (λ i lt. each i (omega (arith, lt))))
    ∙ ap (λ o. range_with_len 0 n ++ indices (entry_by o n)) (each n (omega arith)).1 ∙ sym (range-snoc 0 n n (omega arith)) ∙ ap (range_with_len 0) (sym e)

-- the last state, of a table whose key and seat are known by other names
pub final-as : (piece : ℕ → Piece) (n m w x id : ℕ) (v u : View) (words : List ℕ) (xs : List (Option Deposit)) → n ≡ m → w ≡ x → id ≡ 0 → v ≡ u
    → Final (Seen (Kept piece n w) id v) words xs → Final (Seen (Kept piece m x) 0 u) words xs
final-as piece n m w x id v u words xs en ew ei ev t =
    subst (λ (z : ℕ × ℕ × ℕ × View). Final (Seen (Kept piece z.0 z.1) z.2 z.3) words xs) (λ i. (en i, ew i, ei i, ev i)) t

-- the lists of passes
at-mapped : {X Y : Type 0} (f : X → Y) (xs : List X) (k : ℕ) (y : Y) → get_elem? (map f xs) k ≡ some y → (x : X) × (get_elem? xs k ≡ some x) × (f x ≡ y)
at-mapped f [] k y e = absurd (some-ne-none y (sym e))
at-mapped f (x ∷ xs) zero y e = (x, refl, some-injective (f x) y e)
at-mapped f (x ∷ xs) (suc k) y e = at-mapped f xs k y e

at-read : {X : Type 0} (xs : List X) (k : ℕ) (x d : X) → get_elem? xs k ≡ some x → (k < length xs) × (slice_index_or xs k d ≡ x)
at-read [] k x d e = absurd (some-ne-none x (sym e))
at-read (y ∷ ys) zero x d e = (omega arith, some-injective y x e)
at-read (y ∷ ys) (suc k) x d e = let r = at-read ys k x d e in (omega (arith, r.0), r.1)

pub places : (ps : List Pass) → ((k : ℕ) (d : Pass) → k < length ps → number_of (slice_index_or ps k d) ≡ k) → (k : ℕ) (l : Lists) → get_elem? (map own_of ps) k ≡ some l → l.number ≡ k
places ps named k l at =
    let t = at-mapped own_of ps k l at in
    let p : Pass = t.0 in
    let r = at-read ps k p p t.1 in
    ap (λ (m : Lists). m.number) (sym t.2) ∙ p.named ∙ ap number_of (sym r.1) ∙ named k p r.0

pub each-pass : (P : Lists → Type 0) (ps : List Pass) → ((k : ℕ) (d : Pass) → k < length ps → P (own_of (slice_index_or ps k d))) → (k : ℕ) (l : Lists) → get_elem? (map own_of ps) k ≡ some l → P l
each-pass P ps all k l at =
    let t = at-mapped own_of ps k l at in
    let p : Pass = t.0 in
    let r = at-read ps k p p t.1 in
    subst P (ap own_of r.1 ∙ t.2) (all k p r.0)

pub same-lists : (ps : List Pass) → map (λ (l : Lists). l.deposited) (map own_of ps) ≡ map deposited_of ps
same-lists [] = refl
same-lists (p ∷ ps) = ap (λ ls. deposited_of p ∷ ls) (same-lists ps)

pub first-removed : (ps : List Pass) (p : Pass) → 0 < length ps → p ≡ slice_index_or ps 0 p → own_of p ∷ map own_of (remove ps 0) ≡ map own_of ps
first-removed [] p lt e = absurd (omega (arith, lt))
first-removed (q ∷ qs) p lt e = ap (λ r. own_of r ∷ map own_of qs) e

pub length-own : (ps : List Pass) → length (map own_of ps) ≡ length ps
length-own [] = refl
length-own (p ∷ ps) = ap suc (length-own ps)

pub gathered-all : (w : ℕ) (ps rest : List Pass) (p : Pass) (h j m : Seat) → h ≡ (home_view w [], []) → j ≡ (with_gathered h.0 p.seat.me.0, h.1) → m ≡ (home_view w (j.0.gathered ++ map own_of rest), [])
    → rest ≡ remove ps 0 → p ≡ slice_index_or ps 0 p → 0 < length ps → m.0 ≡ home_view w (map own_of ps)
gathered-all w ps rest p h j m eh ej em er ep lt =
    let first : j.0.gathered ≡ own_of p ∷ [] = ap (λ (s : Seat). s.0.gathered) ej ∙ ap (λ (s : Seat). s.0.gathered ++ own_of p ∷ []) eh in
    ap (λ (s : Seat). s.0) em ∙ ap (home_view w) (ap (λ ls. ls ++ map own_of rest) first ∙ ap (λ r. own_of p ∷ map own_of r) er ∙ first-removed ps p lt ep)

module _ (piece : ℕ → Piece) (n w : ℕ) (ps : List Pass) (words : List ℕ) (xs : List (Option Deposit)) (long : length ps ≡ w)
    (named : (k : ℕ) (d : Pass) → k < length ps → number_of (slice_index_or ps k d) ≡ k) (f : Final (Seen (Ruled piece n w) 0 (home_view w (map own_of ps))) words xs) where
  pub slot-at : (i : ℕ) → i < n → get_elem? xs i ≡ some (slot_by piece (depositor i (map deposited_of ps) 0) i)
  slot-at i lt = closed-slot piece n w (map own_of ps) words xs (length-own ps ∙ long) (places ps named) f i lt ∙ ap (λ ds. some (slot_by piece (depositor i ds 0) i)) (same-lists ps)

  pub each-at : 0 < w → ((k : ℕ) (d : Pass) → k < length ps → is_past n (drawn_of (slice_index_or ps k d)) ≡ true)
      → ((k : ℕ) (d : Pass) → k < length ps → (i : ℕ) → i < n → is_in i (drawn_of (slice_index_or ps k d)) ≡ true → is_in i (deposited_of (slice_index_or ps k d)) ≡ true)
      → (i : ℕ) → i < n → (p : ℕ) × (depositor i (map deposited_of ps) 0 ≡ Some p)
  each-at some_pass past settled i lt =
      let t = each-deposited piece n w (map own_of ps) words xs (length-own ps ∙ long) (places ps named) f some_pass (each-pass (λ l. is_past n l.drawn ≡ true) ps past)
      (each-pass (λ l. (i : ℕ) → i < n → is_in i l.drawn ≡ true → is_in i l.deposited ≡ true) ps settled) i lt in
      (t.0, ap (λ ds. depositor i ds 0) (sym (same-lists ps)) ∙ t.1)

-- what was taken from a slot
pub taken-piece : (piece : ℕ → Piece) (o : Option ℕ) (i : ℕ) (k : Deposit) (x : Option Deposit) → x ≡ Some k → x ≡ slot_by piece o i → (p : ℕ) × (o ≡ Some p) × (k ≡ kept p (piece i))
taken-piece piece None i k x e f = absurd (some-not-none k (sym e ∙ f))
taken-piece piece (Some p) i k x e f = (p, refl, some-inj k k (kept p (piece i)) (sym e ∙ f))

pub taken-none : (piece : ℕ → Piece) (o : Option ℕ) (i : ℕ) (x : Option Deposit) → x ≡ None → x ≡ slot_by piece o i → o ≡ None
taken-none piece None i x e f = refl
taken-none piece (Some p) i x e f = absurd (some-not-none (kept p (piece i)) (sym f ∙ e))

-- the slots that are full, after one is taken
pub still-full : (fs : List Bool) (i k : ℕ) → i + 1 ≤ k → get_or fs k false ≡ true → get_or (set fs i false) k false ≡ true
still-full fs i k le h = get_or-set_other fs i k false false (λ e. omega (arith, le, e)) ∙ h

pub now-empty : (fs : List Bool) (i k : ℕ) → i < length fs → k < i + 1 → (k < i → get_or fs k false ≡ false) → get_or (set fs i false) k false ≡ false
now-empty fs i k lt at h = by (k == i) refl
  where
    by : (b : Bool) → (k == i) ≡ b → get_or (set fs i false) k false ≡ false
    by true e = (let same : k ≡ i = grind (arith, nat_tests) in subst (λ j. get_or (set fs i false) j false ≡ false) (sym same) (get_or-set_same fs i false false lt))
    by false e = (let apart : k ≢ i = grind (arith, nat_tests) in get_or-set_other fs i k false false apart ∙ h (omega (arith, at, apart)))

-- the book after a slot that was full, and after one that was not
pub book-more : (piece : ℕ → Piece) (n : ℕ) (ds : List (List ℕ)) (i p q j : ℕ) (b c : BookState) (r : Deposited) → b ≡ record { pieces = pieces_of piece n; journal = closing ds i }
    → IsDeposit b q j r c → q ≡ p → j ≡ i → depositor i ds 0 ≡ Some p → c ≡ record { pieces = pieces_of piece n; journal = closing ds (i + 1) }
book-more piece n ds i p q j b c r eb d eq ej ed =
    let new : is_entered j b.journal ≡ false = ap (λ (s : BookState). is_entered j s.journal) eb ∙ ap (λ k. is_entered k (closing ds i)) ej ∙ not-yet ds i i (omega arith) in
    enters-new b c q j r d new ∙ ap (λ (s : BookState). with_entry s q j) eb
    ∙ ap (λ (z : ℕ × ℕ). let s : BookState = record { pieces = pieces_of piece n; journal = closing ds i ++ entry z.0 z.1 ∷ [] } in s) (λ k. (eq k, ej k))
    ∙ ap (λ es. let s : BookState = record { pieces = pieces_of piece n; journal = es } in s) (sym (closing-more ds i ∙ ap (λ o. closing ds i ++ entry_by o i) ed))

pub book-same : (piece : ℕ → Piece) (n : ℕ) (ds : List (List ℕ)) (i : ℕ) (b : BookState) → b ≡ record { pieces = pieces_of piece n; journal = closing ds i }
    → depositor i ds 0 ≡ None → b ≡ record { pieces = pieces_of piece n; journal = closing ds (i + 1) }
book-same piece n ds i b eb ed =
    eb ∙ ap (λ es. let s : BookState = record { pieces = pieces_of piece n; journal = es } in s) (sym (closing-more ds i ∙ ap (λ o. closing ds i ++ entry_by o i) ed ∙ append-nil (closing ds i)))
