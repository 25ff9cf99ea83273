-- The faults of the ELF header, in turn.
use Rattle.std.proofs.Common.{◌≡◌, ◌⊎◌, inl, inr, ℕ, ◌+◌, ◌*◌, ◌%◌, ◌<◌, ◌≤◌, Bool, true, false, not, ◌==◌, nat_eq, nat_lt, List, [], ◌∷◌, length, slice_index, Some, None, sym, ◌∙◌, ap}
use Rattle.std.specs.List.{starts_with}
use Rattle.std.proofs.lemmas.Bool.{lt-ltb, le-ltb, ltb-false, eq-eqb, ne_eqb, and_left, and_right, and_from, eqb-true, not-false}
use Rattle.rv_spec.specs.Words.{u16_at, u32_at}
use Rattle.rv_spec.specs.Elf.{first_fault, headers_at, header_count}
use Rattle.rv_elf.specs.Faults.{IsClear}
use Rattle.rv_elf.proofs.FaultLaws.{fault-is, clear-more, clear-none, clear-all}

same : (a b : ℕ) → a ≡ b → not (a == b) ≡ false
same a b e = ap not (eq-eqb a b e)

other : (a b : ℕ) → (a ≡ b → ⊥) → not (a == b) ≡ true
other a b e = ap not (ne_eqb a b e)

abbrev pub has_magic : List ℕ → Bool
has_magic file = starts_with nat_eq file (0x7F ∷ 0x45 ∷ 0x4C ∷ 0x46 ∷ [])

module _ (file : List ℕ) where
  pub clear-1 : 52 ≤ length file → IsClear 1 file
  clear-1 h = clear-more file 0 (clear-none file) (le-ltb (length file) 52 h)

  pub fault-1 : length file < 52 → first_fault file ≡ Some 1
  fault-1 h = fault-is file 0 (clear-none file) (lt-ltb (length file) 52 h)

  pub clear-2 : IsClear 1 file → has_magic file ≡ true → IsClear 2 file
  clear-2 c e = clear-more file 1 c (ap not e)

  pub fault-2 : IsClear 1 file → has_magic file ≡ false → first_fault file ≡ Some 2
  fault-2 c e = fault-is file 1 c (ap not e)

  -- the first two tests together
  pub whole-magic : 52 ≤ length file → has_magic file ≡ true → IsClear 2 file
  whole-magic h e = clear-2 (clear-1 h) e

  pub clear-3 : IsClear 2 file → slice_index file 4 ≡ 1 → IsClear 3 file
  clear-3 c e = clear-more file 2 c (same (slice_index file 4) 1 e)

  pub fault-3 : IsClear 2 file → (slice_index file 4 ≡ 1 → ⊥) → first_fault file ≡ Some 3
  fault-3 c e = fault-is file 2 c (other (slice_index file 4) 1 e)

  pub clear-4 : IsClear 3 file → slice_index file 5 ≡ 1 → IsClear 4 file
  clear-4 c e = clear-more file 3 c (same (slice_index file 5) 1 e)

  pub fault-4 : IsClear 3 file → (slice_index file 5 ≡ 1 → ⊥) → first_fault file ≡ Some 4
  fault-4 c e = fault-is file 3 c (other (slice_index file 5) 1 e)

  -- the first four tests together
  pub little-words : 52 ≤ length file → has_magic file ≡ true → slice_index file 4 ≡ 1 → slice_index file 5 ≡ 1 → IsClear 4 file
  little-words h e class order = clear-4 (clear-3 (whole-magic h e) class) order

  pub clear-5 : IsClear 4 file → slice_index file 6 ≡ 1 → u32_at file 20 ≡ 1 → IsClear 5 file
  clear-5 c e f = clear-more file 4 c (ap not (and_from (slice_index file 6 == 1) (u32_at file 20 == 1) (eq-eqb (slice_index file 6) 1 e) (eq-eqb (u32_at file 20) 1 f)))

  pub fault-5 : IsClear 4 file → (slice_index file 6 ≡ 1 → ⊥) ⊎ (u32_at file 20 ≡ 1 → ⊥) → first_fault file ≡ Some 5
  fault-5 c (inl e) = fault-is file 4 c (ap not (and_left (slice_index file 6 == 1) (u32_at file 20 == 1) (ne_eqb (slice_index file 6) 1 e)))
  fault-5 c (inr f) = fault-is file 4 c (ap not (and_right (slice_index file 6 == 1) (u32_at file 20 == 1) (ne_eqb (u32_at file 20) 1 f)))

  pub clear-6 : IsClear 5 file → u16_at file 16 ≡ 2 → IsClear 6 file
  clear-6 c e = clear-more file 5 c (same (u16_at file 16) 2 e)

  pub fault-6 : IsClear 5 file → (u16_at file 16 ≡ 2 → ⊥) → first_fault file ≡ Some 6
  fault-6 c e = fault-is file 5 c (other (u16_at file 16) 2 e)

  pub clear-7 : IsClear 6 file → u16_at file 18 ≡ 243 → IsClear 7 file
  clear-7 c e = clear-more file 6 c (same (u16_at file 18) 243 e)

  pub fault-7 : IsClear 6 file → (u16_at file 18 ≡ 243 → ⊥) → first_fault file ≡ Some 7
  fault-7 c e = fault-is file 6 c (other (u16_at file 18) 243 e)

  pub clear-8 : IsClear 7 file → u16_at file 42 ≡ 32 → IsClear 8 file
  clear-8 c e = clear-more file 7 c (same (u16_at file 42) 32 e)

  pub fault-8 : IsClear 7 file → (u16_at file 42 ≡ 32 → ⊥) → first_fault file ≡ Some 8
  fault-8 c e = fault-is file 7 c (other (u16_at file 42) 32 e)

  pub clear-9 : IsClear 8 file → (table count : ℕ) → table ≡ headers_at file → count ≡ header_count file → table + 32 * count ≤ length file → IsClear 9 file
  clear-9 c table count e f h =
      clear-more file 8 c (ap (λ t. nat_lt (length file) (t + 32 * header_count file)) (sym e) ∙ ap (λ n. nat_lt (length file) (table + 32 * n)) (sym f) ∙ le-ltb (length file) (table + 32 * count) h)

  pub fault-9 : IsClear 8 file → (table count : ℕ) → table ≡ headers_at file → count ≡ header_count file → length file < table + 32 * count → first_fault file ≡ Some 9
  fault-9 c table count e f h =
      fault-is file 8 c (ap (λ t. nat_lt (length file) (t + 32 * header_count file)) (sym e) ∙ ap (λ n. nat_lt (length file) (table + 32 * n)) (sym f) ∙ lt-ltb (length file) (table + 32 * count) h)

  pub whole-identity : IsClear 5 file → 52 ≤ length file
  unfolding IsClear
  whole-identity c = ltb-false (length file) 52 c.0

  pub whole-machine : IsClear 8 file → 52 ≤ length file
  unfolding IsClear
  whole-machine c = ltb-false (length file) 52 c.0

  pub whole-header : IsClear 9 file → 52 ≤ length file
  unfolding IsClear
  whole-header c = ltb-false (length file) 52 c.0

  pub whole-table : IsClear 9 file → headers_at file + 32 * header_count file ≤ length file
  unfolding IsClear
  whole-table c = ltb-false (length file) (headers_at file + 32 * header_count file) c.1.1.1.1.1.1.1.1.0

  -- the entry of a file without a fault
  pub entry-aligned : first_fault file ≡ None → u32_at file 24 % 4 ≡ 0
  entry-aligned e = eqb-true (u32_at file 24 % 4) 0 (not-false (u32_at file 24 % 4 == 0) (clear-all file e).1.1.1.1.1.1.1.1.1.1.1.1.1.1.1.0)
