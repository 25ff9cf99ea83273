-- The shard and the row of a step.
use Rattle.std.proofs.Common.{◌≡◌, ℕ, zero, suc, ◌+◌, ◌*◌, ◌/◌, ◌%◌, ◌<◌, ◌≤◌, List, [], ◌∷◌, ◌++◌, length, take, drop, Some, slice_get, sym, ap, subst, ◌∙◌, append_assoc, append-nil, arith}
use Rattle.std.proofs.Math.Nat.{lt_of_mul-lt-mul_right, mul-le-mul_right, mod-lt}
use Rattle.std.proofs.lemmas.Nat.{div-add-mod'}
use Rattle.std.proofs.lemmas.List.{take-append-drop, take-append-le, take_all}
use Rattle.std.proofs.Math.Seq.{take-append-add}
use Rattle.std.proofs.lemmas.Grind.{flat_map-append}
use Rattle.rv_spec.specs.Trace.{Row}
use Rattle.rv_spec.specs.Record.{Shard, Parts, all_rows}
use Rattle.rv_spec.specs.Grammar.{PartsFit}
use Rattle.rv_text.proofs.Lemmas.{rows_in, rows-exact, sized, BeginsWith}
use Rattle.rv_query.specs.Accesses.{numbered}
use Rattle.rv_query.specs.Following.{GoPast, BehindRows, BeginWithRow}
use Rattle.rv_query.specs.declared.trail.Trail.{Trail}
use Rattle.rv_query.proofs.Trails.{past-both}
use Rattle.rv_query.proofs.Rows.{numbered-append, next-begins}

module _ (p : Parts) (fit : PartsFit p) where
  abbrev size : ℕ
  size = p.header.size

  abbrev front : ℕ → List Row
  front k = rows_in (take k p.shards)

  -- the rows before a shard
  pub rows-before : (k : ℕ) → k < length p.shards → length (front k) ≡ k * size
  rows-before k lt = rows-exact p.header 0 p.shards k fit.shards lt (let less : k * size < p.header.steps = (sized p fit).less k (omega (arith, lt, fit.count)) in omega (arith, less))

  front-more : (k : ℕ) (s : Shard) → take (k + 1) p.shards ≡ take k p.shards ++ s ∷ [] → front (k + 1) ≡ front k ++ s.rows
  front-more k s is = ap rows_in is ∙ flat_map-append (λ (t : Shard). t.rows) (take k p.shards) (s ∷ []) ∙ ap (λ l. front k ++ l) (append-nil s.rows)

  -- the accesses of the rows of a shard's front follow those of the shards before it
  numbered-more : (k : ℕ) (rs : List Row) → k < length p.shards → numbered 0 (front k ++ rs) ≡ numbered 0 (front k) ++ numbered (k * size) rs
  numbered-more k rs lt =
      let place : 0 + length (front k) ≡ k * size = omega (arith, rows-before k lt) in
      numbered-append 0 (front k) rs ∙ ap (λ n. numbered 0 (front k) ++ numbered n rs) place

  -- past one whole shard more
  pub past-shard : (first s k : ℕ) (ts us vs : List Trail) (rest : List ℕ) (t : Shard) → k < length p.shards → (k + 1) * size ≤ p.header.steps → BeginsWith p k rest t
      → GoPast first s ts us (numbered 0 (front k)) → (size ≤ length t.rows → GoPast first s us vs (numbered (k * size) (take size t.rows)))
      → GoPast first s ts vs (numbered 0 (front (k + 1)))
  past-shard first s k ts us vs rest t lt whole at before here =
      let spread : (k + 1) * size ≡ k * size + size = omega arith in
      let count : length t.rows ≡ size = omega (arith, at.fits.count, at.fits.rows, whole, spread) in
      let all : take size t.rows ≡ t.rows = take_all size t.rows (omega (arith, count)) in
      subst (GoPast first s ts vs) (sym (ap (numbered 0) (front-more k t at.front) ∙ numbered-more k t.rows lt))
      (past-both first s ts us vs (numbered 0 (front k)) (numbered (k * size) t.rows) before (subst (λ l. GoPast first s us vs (numbered (k * size) l)) all (here (omega (arith, count)))))

  module _ (step : ℕ) (within : step < p.header.steps) where
    abbrev k : ℕ
    k = step / size

    abbrev rem : ℕ
    rem = step % size

    some : 0 < size
    some = omega (arith, fit.header.size.0)

    parted : k * size + rem ≡ step
    parted = div-add-mod' step size

    rem-less : rem < size
    rem-less = mod-lt step some

    -- the shard of the step is there, and those before it are full
    pub shard-there : k < length p.shards
    shard-there =
        let less : k * size < p.header.shards * size = omega (arith, parted, within, (sized p fit).most) in
        subst (λ n. k < n) (sym fit.count) (lt_of_mul-lt-mul_right size less)

    pub whole-before : (i : ℕ) → i < k → (i + 1) * size ≤ step
    whole-before i lt =
        let most : (i + 1) * size ≤ k * size = mul-le-mul_right size (omega (arith, lt)) in
        omega (arith, most, parted)

    module _ (rest : List ℕ) (t : Shard) (at : BeginsWith p k rest t) where
      -- the row of the step is there
      pub row-there : rem < length t.rows
      row-there = omega (arith, at.fits.count, at.fits.rows, rem-less, parted, within)

      others : List Row
      others = rows_in (drop (k + 1) p.shards)

      all-apart : all_rows p ≡ front k ++ (t.rows ++ others)
      unfolding others
      all-apart =
          ap rows_in (sym (take-append-drop (k + 1) p.shards)) ∙ flat_map-append (λ (u : Shard). u.rows) (take (k + 1) p.shards) (drop (k + 1) p.shards)
          ∙ ap (λ l. l ++ others) (front-more k t at.front) ∙ append_assoc (front k) t.rows others

      step-place : step ≡ length (front k) + rem
      step-place = omega (arith, parted, rows-before k shard-there)

      -- the rows before the step
      rows-until : take step (all_rows p) ≡ front k ++ take rem t.rows
      rows-until =
          ap (λ n. take n (all_rows p)) step-place ∙ ap (take (length (front k) + rem)) all-apart ∙ take-append-add (front k) (t.rows ++ others) rem
          ∙ ap (λ l. front k ++ l) (take-append-le rem t.rows others (omega (arith, row-there)))

      pub past-last : (first s : ℕ) (ts us vs : List Trail) → GoPast first s ts us (numbered 0 (front k)) → GoPast first s us vs (numbered (k * size) (take rem t.rows))
          → GoPast first s ts vs (numbered 0 (take step (all_rows p)))
      past-last first s ts us vs before here =
          subst (GoPast first s ts vs) (sym (ap (numbered 0) rows-until ∙ numbered-more k (take rem t.rows) shard-there))
          (past-both first s ts us vs (numbered 0 (front k)) (numbered (k * size) (take rem t.rows)) before here)

      -- the row of the step
      pub row-begins : (bytes : List ℕ) → BehindRows t.rows rem bytes → BeginWithRow (all_rows p) step bytes
      row-begins bytes behind =
          let b = next-begins t.rows rem bytes row-there behind in
          record {
            row = b.row;
            rest = b.rest;
            at = ap (slice_get (all_rows p)) step-place ∙ ap (λ l. slice_get l (length (front k) + rem)) all-apart ∙ behind-front (front k) (t.rows ++ others) rem ∙ in-front t.rows others rem b.row b.at;
            fits = b.fits;
            are = b.are;
          }
        where
          behind-front : (xs ys : List Row) (n : ℕ) → slice_get (xs ++ ys) (length xs + n) ≡ slice_get ys n
          behind-front [] ys n = ap (slice_get ys) (let e : 0 + n ≡ n = omega arith in e)
          behind-front (x ∷ xs) ys n = ap (slice_get (x ∷ xs ++ ys)) (let e : suc (length xs) + n ≡ suc (length xs + n) = omega arith in e) ∙ behind-front xs ys n

          in-front : (xs ys : List Row) (n : ℕ) (x : Row) → slice_get xs n ≡ Some x → slice_get (xs ++ ys) n ≡ Some x
          in-front [] ys n x e = absurd cc
          in-front (y ∷ xs) ys zero x e = e
          in-front (y ∷ xs) ys (suc n) x e = in-front xs ys n x e
