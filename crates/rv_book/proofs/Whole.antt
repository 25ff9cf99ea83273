-- A book whose journal names the first n indices in rising order.
use Rattle.std.proofs.Common.{◌≡◌, ℕ, zero, suc, ◌+◌, ◌<◌, ◌≤◌, ◌≢◌, Bool, true, false, cond, ◌||◌, List, [], ◌∷◌, ◌++◌, map, sym, refl, ap, ◌∙◌, arith}
use Rattle.std.specs.Prelude.{Option, Some, None, fold, slice_get, ◌==◌}
use Rattle.std.specs.List.{list_any, range_with_len}
use Rattle.std.proofs.lemmas.Bool.{true≢false}
use Rattle.std.proofs.lemmas.Bool.Decides.{nat_tests}
use Rattle.rv_rules.specs.Sums.{add_lanes}
use Rattle.rv_book.specs.declared.entry.Entry.{Entry}
use Rattle.rv_book.specs.declared.entry.Deposited.{Deposited}
use Rattle.rv_book.specs.declared.entry.Deposited.TheVariants.{New, There}
use Rattle.rv_book.specs.declared.task.Piece.{Piece}
use Rattle.rv_book.specs.Journal.{BookState, IsDeposit, IsWhole, with_entry, indices, is_entered, pieces_of, lanes_at, lanes_of, total_of, sum_of, zeros, read_lanes, write_lanes}

-- the first n pieces have that of each index below n
pub piece-below : (piece : ℕ → Piece) (n i : ℕ) → i < n → slice_get (pieces_of piece n) i ≡ Some (piece i)
piece-below piece n i lt = from piece 0 n i i (omega arith) lt
  where
    from : (piece : ℕ → Piece) (a n i k : ℕ) → a + i ≡ k → i < n → slice_get (map piece (range_with_len a n)) i ≡ Some (piece k)
    from piece a zero i k e lt = absurd (omega (arith, lt))
    from piece a (suc n) zero k e lt = ap (λ j. Some (piece j)) (let q : a ≡ k = omega (arith, e) in q)
    from piece a (suc n) (suc i) k e lt = from piece (a + 1) n i k (omega (arith, e)) (omega (arith, lt))

-- a number more at the end of numbers in a row
pub range-snoc : (a n j : ℕ) → a + n ≡ j → range_with_len a (n + 1) ≡ range_with_len a n ++ j ∷ []
range-snoc a n j at = ap (range_with_len a) (let e : n + 1 ≡ suc n = omega arith in e) ∙ more a n j at
  where
    more : (a n j : ℕ) → a + n ≡ j → range_with_len a (suc n) ≡ range_with_len a n ++ j ∷ []
    more a zero j at = ap (λ (k : ℕ). k ∷ []) (let e : a ≡ j = omega (arith, at) in e)
    more a (suc n) j at = ap (λ ks. a ∷ ks) (more (a + 1) n j (omega (arith, at)))

-- a deposit of an index that isn't in the book enters it
pub enters-new : (b c : BookState) (p i : ℕ) (r : Deposited) → IsDeposit b p i r c → is_entered i b.journal ≡ false → c ≡ with_entry b p i
enters-new b c p i New d new = d.1
enters-new b c p i (There k) d new = absurd (true≢false (sym d.0 ∙ new))

in-range : (a n i : ℕ) → a ≤ i → i < a + n → list_any (λ k. k == i) (range_with_len a n) ≡ true
in-range a zero i le lt = absurd (omega (arith, le, lt))
in-range a (suc n) i le lt = by (a == i) refl (λ apart. in-range (a + 1) n i (omega (arith, le, apart)) (omega (arith, lt)))
  where
    by : (b : Bool) → (a == i) ≡ b → (a ≢ i → list_any (λ k. k == i) (range_with_len (a + 1) n) ≡ true) → (b || list_any (λ k. k == i) (range_with_len (a + 1) n)) ≡ true
    by true e rest = refl
    by false e rest = rest (grind (arith, nat_tests))

entered-indices : (i : ℕ) (es : List Entry) → is_entered i es ≡ list_any (λ k. k == i) (indices es)
entered-indices i [] = refl
entered-indices i (e ∷ es) = ap (λ t. e.index == i || t) (entered-indices i es)

module _ (piece : ℕ → Piece) (n : ℕ) (f : Piece → List ℕ) where
  abbrev adds : List ℕ → ℕ → List ℕ
  adds sum i = add_lanes sum (lanes_at f (pieces_of piece n) i)

  total-indices : (es : List Entry) (sum : List ℕ) → fold (λ sum (e : Entry). adds sum e.index) sum es ≡ fold adds sum (indices es)
  total-indices [] sum = refl
  total-indices (e ∷ es) sum = total-indices es (adds sum e.index)

  total-range : (a m : ℕ) (sum : List ℕ) → a + m ≤ n → fold adds sum (range_with_len a m) ≡ fold (λ sum p. add_lanes sum (f p)) sum (map piece (range_with_len a m))
  total-range a zero sum le = refl
  total-range a (suc m) sum le =
      ap (λ (o : Option Piece). fold adds (add_lanes sum (lanes_of f o)) (range_with_len (a + 1) m)) (piece-below piece n a (omega (arith, le)))
      ∙ total-range (a + 1) m (add_lanes sum (f (piece a))) (omega (arith, le))

  total-whole : (b : BookState) → b.pieces ≡ pieces_of piece n → indices b.journal ≡ range_with_len 0 n → total_of f b.pieces b.journal ≡ sum_of f (pieces_of piece n)
  total-whole b pieces order = ap (λ ps. total_of f ps b.journal) pieces ∙ total-indices b.journal zeros ∙ ap (fold adds zeros) order ∙ total-range 0 n zeros (omega arith)

-- such a book of the first n pieces is whole
pub whole : (piece : ℕ → Piece) (n : ℕ) (b : BookState) → b.pieces ≡ pieces_of piece n → indices b.journal ≡ range_with_len 0 n → IsWhole piece n b
whole piece n b pieces order = record {
  pieces = pieces;
  order = order;
  each = λ i lt.
      let there : is_entered i b.journal ≡ true = entered-indices i b.journal ∙ ap (list_any (λ k. k == i)) order ∙ in-range 0 n i (omega arith) (omega (arith, lt)) in
      ap (λ t. cond t (slice_get b.pieces i) None) there ∙ ap (λ ps. slice_get ps i) pieces ∙ piece-below piece n i lt;
  reads = total-whole piece n read_lanes b pieces order;
  writes = total-whole piece n write_lanes b pieces order;
}
