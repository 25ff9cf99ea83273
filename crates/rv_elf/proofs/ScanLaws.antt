-- What one more program header adds to a pass.
use Rattle.std.proofs.Common.{◌≡◌, ℕ, ◌+◌, ◌-◌, ◌<◌, ◌≤◌, ◌^◌, ◌⊎◌, inl, inr, min, Bool, true, false, ◌||◌, ◌==◌, nat_lt, List, [], ◌∷◌, ◌++◌, length, take, map, refl, sym, ◌∙◌, ap, subst, arith, length-append, length-take, append-nil}
use Rattle.std.specs.List.{list_any}
use Rattle.std.proofs.lemmas.Bool.{lt-ltb, le-ltb, ltb-false, cond-true, cond-false, eq-eqb, ne_eqb}
use Rattle.std.proofs.lemmas.List.Elements.{filter-append}
use Rattle.std.proofs.lemmas.List.Folds.{list_any-append}
use Rattle.std.proofs.Common.{drop, get_or, Some}
use Rattle.std.proofs.lemmas.List.{length-map}
use Rattle.std.proofs.lemmas.List.{take_all, take-append-le, map-append}
use Rattle.std.proofs.lemmas.Bool.{cases_lt}
use Rattle.rv_spec.specs.Elf.{Segment as Described, headers, load_segments, overlaps, some_overlap, first_fault}
use Rattle.rv_elf.specs.Faults.{IsClear}
use Rattle.rv_elf.proofs.FaultLaws.{fault-is, clear-more}
use Rattle.rv_elf.specs.declared.scan.Scan.{Scan}
use Rattle.rv_elf.specs.declared.segment.Segment.{Segment}
use Rattle.rv_elf.specs.Segments.{described, loads_of, IsScan}

or-none : (b : Bool) → (b || false) ≡ b
or-none true = refl
or-none false = refl

-- a test of the headers with one more
any-more : {A : Type 0} (p : A → Bool) (xs : List A) (x : A) → list_any p (xs ++ x ∷ []) ≡ (list_any p xs || p x)
any-more p xs x = list_any-append p xs (x ∷ []) ∙ ap (λ z. list_any p xs || z) (or-none (p x))

loads-more : (hs : List Described) (h : Described) → h.kind ≡ 1 → loads_of (hs ++ h ∷ []) ≡ loads_of hs ++ h ∷ []
loads-more hs h e = filter-append (λ s. s.kind == 1) hs (h ∷ []) ∙ ap (λ z. loads_of hs ++ z) (cond-true (h.kind == 1) (h ∷ []) [] (eq-eqb h.kind 1 e))

loads-same : (hs : List Described) (h : Described) → (h.kind ≡ 1 → ⊥) → loads_of (hs ++ h ∷ []) ≡ loads_of hs
loads-same hs h e = filter-append (λ s. s.kind == 1) hs (h ∷ []) ∙ ap (λ z. loads_of hs ++ z) (cond-false (h.kind == 1) (h ∷ []) [] (ne_eqb h.kind 1 e)) ∙ append-nil (loads_of hs)

-- one more load of a pass
module _ (hs : List Described) (g : Segment) (load : g.kind ≡ 1) where
  tested : (p : Described → Bool) (old new : Bool) → new ≡ (old || p (described g)) → old ≡ list_any p (loads_of hs) → new ≡ list_any p (loads_of (hs ++ described g ∷ []))
  tested p old new e is =
      e ∙ ap (λ z. z || p (described g)) is ∙ sym (any-more p (loads_of hs) (described g)) ∙ ap (list_any p) (sym (loads-more hs (described g) load))

  kept : (many more : Bool) (items now : List Segment) → many ≡ nat_lt 64 (length (loads_of hs)) → map described items ≡ take 64 (loads_of hs)
      → (length items ≡ 64) ⊎ (length items < 64)
      → (length items ≡ 64 → (more ≡ true) × (now ≡ items)) → (length items < 64 → (more ≡ many) × (now ≡ items ++ g ∷ []))
      → (more ≡ nat_lt 64 (length (loads_of hs ++ described g ∷ []))) × (map described now ≡ take 64 (loads_of hs ++ described g ∷ []))
  kept many more items now is all (inl h) full room =
      let counted : length items ≡ min 64 (length (loads_of hs)) = sym (length-map items described) ∙ ap length all ∙ length-take 64 (loads_of hs) in
      let grown : length (loads_of hs ++ described g ∷ []) ≡ length (loads_of hs) + 1 = length-append (loads_of hs) (described g ∷ []) in (
        (full h).0 ∙ sym (lt-ltb 64 (length (loads_of hs ++ described g ∷ [])) (omega arith)),
        ap (map described) (full h).1 ∙ all ∙ sym (take-append-le 64 (loads_of hs) (described g ∷ []) (omega arith)),
      )
  kept many more items now is all (inr h) full room =
      let counted : length items ≡ min 64 (length (loads_of hs)) = sym (length-map items described) ∙ ap length all ∙ length-take 64 (loads_of hs) in
      let grown : length (loads_of hs ++ described g ∷ []) ≡ length (loads_of hs) + 1 = length-append (loads_of hs) (described g ∷ []) in (
        (room h).0 ∙ is ∙ le-ltb 64 (length (loads_of hs)) (omega arith) ∙ sym (le-ltb 64 (length (loads_of hs ++ described g ∷ [])) (omega arith)),
        ap (map described) (room h).1 ∙ map-append described items (g ∷ []) ∙ ap (λ z. z ++ described g ∷ []) (all ∙ take_all 64 (loads_of hs) (omega arith))
            ∙ sym (take_all 64 (loads_of hs ++ described g ∷ []) (omega arith)),
      )

  pub scan-load : (size : ℕ) (old new : Scan) → IsScan size hs old
      → new.interpreter ≡ (old.interpreter || (g.kind == 3))
      → new.past_file ≡ (old.past_file || nat_lt size (g.offset + g.file_size))
      → new.above_memory ≡ (old.above_memory || nat_lt g.memory_size g.file_size)
      → new.past_memory ≡ (old.past_memory || nat_lt (2 ^ 32) (g.address + g.memory_size))
      → length old.loads.items ≤ 64
      → (length old.loads.items ≡ 64 → (new.too_many ≡ true) × (new.loads.items ≡ old.loads.items))
      → (length old.loads.items < 64 → (new.too_many ≡ old.too_many) × (new.loads.items ≡ old.loads.items ++ g ∷ []))
      → IsScan size (hs ++ described g ∷ []) new
  scan-load size old new x i f a m most full room =
      let which : (length old.loads.items ≡ 64) ⊎ (length old.loads.items < 64) = split (length old.loads.items) (cases_lt (length old.loads.items) 64) most in
      let both = kept old.too_many new.too_many old.loads.items new.loads.items x.too_many x.loads which full room in
      record {
        interpreter = i ∙ ap (λ z. z || (g.kind == 3)) x.interpreter ∙ sym (any-more (λ h. h.kind == 3) hs (described g));
        past_file = tested (λ h. nat_lt size (h.offset + h.file_size)) old.past_file new.past_file f x.past_file;
        above_memory = tested (λ h. nat_lt h.memory_size h.file_size) old.above_memory new.above_memory a x.above_memory;
        past_memory = tested (λ h. nat_lt (2 ^ 32) (h.address + h.memory_size)) old.past_memory new.past_memory m x.past_memory;
        too_many = both.0 ∙ ap (λ z. nat_lt 64 (length z)) (sym (loads-more hs (described g) load));
        loads = both.1 ∙ ap (take 64) (sym (loads-more hs (described g) load));
      }
    where
      split : (n : ℕ) → (n < 64) ⊎ (64 ≤ n) → n ≤ 64 → (n ≡ 64) ⊎ (n < 64)
      split n (inl h) m = inr h
      split n (inr h) m = inl (omega arith)

-- one more header of another type
pub scan-other : (size : ℕ) (hs : List Described) (h : Described) (old new : Scan) → (h.kind ≡ 1 → ⊥) → IsScan size hs old
    → new ≡ record old { interpreter = old.interpreter || (h.kind == 3) } → IsScan size (hs ++ h ∷ []) new
scan-other size hs h old new other x e = rw e record {
  interpreter = ap (λ z. z || (h.kind == 3)) x.interpreter ∙ sym (any-more (λ h. h.kind == 3) hs h);
  past_file = x.past_file ∙ ap (list_any (λ h. nat_lt size (h.offset + h.file_size))) (sym (loads-same hs h other));
  above_memory = x.above_memory ∙ ap (list_any (λ h. nat_lt h.memory_size h.file_size)) (sym (loads-same hs h other));
  past_memory = x.past_memory ∙ ap (list_any (λ h. nat_lt (2 ^ 32) (h.address + h.memory_size))) (sym (loads-same hs h other));
  too_many = x.too_many ∙ ap (λ z. nat_lt 64 (length z)) (sym (loads-same hs h other));
  loads = x.loads ∙ ap (take 64) (sym (loads-same hs h other));
}

-- the loads that a pass keeps are all where they are not too many
pub kept-all : (size : ℕ) (hs : List Described) (s : Scan) → IsScan size hs s → s.too_many ≡ false → map described s.loads.items ≡ loads_of hs
kept-all size hs s x e = x.loads ∙ take_all 64 (loads_of hs) (ltb-false 64 (length (loads_of hs)) (sym x.too_many ∙ e))

-- the faults of the program headers, in turn
module _ (file : List ℕ) (s : Scan) (x : IsScan (length file) (headers file) s) where
  pub clear-10 : IsClear 9 file → s.interpreter ≡ false → IsClear 10 file
  clear-10 c e = clear-more file 9 c (sym x.interpreter ∙ e)

  pub fault-10 : IsClear 9 file → s.interpreter ≡ true → first_fault file ≡ Some 10
  fault-10 c e = fault-is file 9 c (sym x.interpreter ∙ e)

  pub clear-11 : IsClear 10 file → s.past_file ≡ false → IsClear 11 file
  unfolding load_segments
  clear-11 c e = clear-more file 10 c (sym x.past_file ∙ e)

  pub fault-11 : IsClear 10 file → s.past_file ≡ true → first_fault file ≡ Some 11
  unfolding load_segments
  fault-11 c e = fault-is file 10 c (sym x.past_file ∙ e)

  pub clear-12 : IsClear 11 file → s.above_memory ≡ false → IsClear 12 file
  unfolding load_segments
  clear-12 c e = clear-more file 11 c (sym x.above_memory ∙ e)

  pub fault-12 : IsClear 11 file → s.above_memory ≡ true → first_fault file ≡ Some 12
  unfolding load_segments
  fault-12 c e = fault-is file 11 c (sym x.above_memory ∙ e)

  pub clear-13 : IsClear 12 file → s.past_memory ≡ false → IsClear 13 file
  unfolding load_segments
  clear-13 c e = clear-more file 12 c (sym x.past_memory ∙ e)

  pub fault-13 : IsClear 12 file → s.past_memory ≡ true → first_fault file ≡ Some 13
  unfolding load_segments
  fault-13 c e = fault-is file 12 c (sym x.past_memory ∙ e)

  pub clear-14 : IsClear 13 file → s.too_many ≡ false → IsClear 14 file
  unfolding load_segments
  clear-14 c e = clear-more file 13 c (sym x.too_many ∙ e)

  pub fault-14 : IsClear 13 file → s.too_many ≡ true → first_fault file ≡ Some 14
  unfolding load_segments
  fault-14 c e = fault-is file 13 c (sym x.too_many ∙ e)

  pub clear-15 : IsClear 14 file → s.too_many ≡ false → some_overlap (map described s.loads.items) ≡ false → IsClear 15 file
  unfolding load_segments
  clear-15 c e o = clear-more file 14 c (ap some_overlap (sym (kept-all (length file) (headers file) s x e)) ∙ o)

  pub fault-15 : IsClear 14 file → s.too_many ≡ false → some_overlap (map described s.loads.items) ≡ true → first_fault file ≡ Some 15
  unfolding load_segments
  fault-15 c e o = fault-is file 14 c (ap some_overlap (sym (kept-all (length file) (headers file) s x e)) ∙ o)

-- ---- the overlap of a first segment, and of the rest

abbrev pub meets_any : Segment → List Segment → Bool
meets_any f ss = list_any (λ s. overlaps (described f) (described s)) ss

any-map : {A B : Type 0} (p : B → Bool) (f : A → B) (xs : List A) → list_any p (map f xs) ≡ list_any (λ x. p (f x)) xs
any-map p f [] = refl
any-map p f (x ∷ xs) = ap (λ z. p (f x) || z) (any-map p f xs)

pub overlap-first : (ss : List Segment) (d : Segment) → 1 ≤ length ss
    → (let rest = take (length ss - 1) (drop 1 ss) in some_overlap (map described ss) ≡ (meets_any (get_or ss 0 d) rest || some_overlap (map described rest)))
overlap-first [] d h = absurd (omega arith)
overlap-first (s ∷ ss) d h =
    let whole : take (length (s ∷ ss) - 1) ss ≡ ss = take_all (length (s ∷ ss) - 1) ss (omega arith) in
    subst (λ z. some_overlap (map described (s ∷ ss)) ≡ (meets_any s z || some_overlap (map described z))) (sym whole)
    (ap (λ z. z || some_overlap (map described ss)) (any-map (overlaps (described s)) described ss))
