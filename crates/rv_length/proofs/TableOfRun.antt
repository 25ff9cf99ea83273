-- The table of a run has an entry for each word of memory that was used, at most two a step, and for x1 to x31 and the reservation.
use Rattle.std.proofs.Common.{◌≡◌, ◌⊎◌, inl, inr, ℕ, zero, suc, ◌+◌, ◌*◌, ◌^◌, ◌<◌, ◌≤◌, Bool, true, false, cond, ◌&&◌, ◌||◌, ◌==◌, nat_lt, IsTrue, List, [], ◌∷◌, ◌++◌, length, map, ap, ◌∙◌, arith, length-append}
use Rattle.std.specs.List.{AllByRecursion, flat_map}
use Rattle.std.specs.Int.{w32, to_le_bytes}
use Rattle.std.proofs.lemmas.Bool.{and_parts, eqb-true, lt-ltb, ltb-true, or_cases}
use Rattle.std.proofs.lemmas.List.{length-map}
use Rattle.rv_base.specs.declared.record.TableEntry.{TableEntry}
use Rattle.rv_spec.specs.Elf.{Image}
use Rattle.rv_spec.specs.Run.{run}
use Rattle.rv_spec.specs.Cells.{is_cell, reservation_cell, time_of}
use Rattle.rv_spec.specs.Visits.{Use, step_uses}
use Rattle.rv_spec.specs.Trace.{history, insert_rising, rising, last_entry, table_of, table}
use Rattle.rv_spec.specs.Grammar.{IsRising}
use Rattle.rv_spec.specs.Record.{entry_bytes, table_bytes}
use Rattle.rv_rules.proofs.Lemmas.{all-in, all-of, in-rising, rising-rises}
use Rattle.rv_isa.specs.Ranges.{AreCells, StepFits}
use Rattle.rv_file.proofs.Lemmas.{length-entries}
use Rattle.rv_length.specs.Lengths.{entries_bound, table_bound}
use Rattle.rv_length.proofs.MemoryWords.{one_if, words, cells_left, one-step-more, run-words}

-- ---- the cells that a run uses

-- a word of memory, or a register or the reservation
abbrev IsKnown : ℕ → Type 0
IsKnown c = (c < 2 ^ 30) ⊎ ((2 ^ 30 < c) × (c < 2 ^ 30 + 33))

abbrev AreKnown : List ℕ → Type 0
AreKnown cs = AllByRecursion IsKnown cs

cell-is-known : (version c : ℕ) → IsTrue (is_cell version c) → IsKnown c
cell-is-known version c h =
    elim (or_cases (nat_lt c (2 ^ 30) || nat_lt (2 ^ 30) c && nat_lt c (2 ^ 30 + 32)) (version == 2 && c == reservation_cell) h) [
      | inl known ↦
          elim (or_cases (nat_lt c (2 ^ 30)) (nat_lt (2 ^ 30) c && nat_lt c (2 ^ 30 + 32)) known) [
            | inl word ↦ inl (ltb-true c (2 ^ 30) word)
            | inr register ↦ (let both = and_parts (nat_lt (2 ^ 30) c) (nat_lt c (2 ^ 30 + 32)) register in inr (ltb-true (2 ^ 30) c both.0, omega (arith, ltb-true c (2 ^ 30 + 32) both.1)))
          ]
      | inr reservation ↦ (let is = eqb-true c reservation_cell (and_parts (version == 2) (c == reservation_cell) reservation).1 in inr (omega (arith, is), omega (arith, is)))
    ]

known-append : (cs ds : List ℕ) → AreKnown cs → AreKnown ds → AreKnown (cs ++ ds)
known-append [] ds h k = k
known-append (c ∷ cs) ds h k = (h.0, known-append cs ds h.1 k)

uses-known : (version : ℕ) (us : List Use) → AreCells version us → AreKnown (map (λ u. u.cell) us)
uses-known version [] h = tt
uses-known version (u ∷ us) h = (cell-is-known version u.cell h.0.0, uses-known version us h.1)

run-known : (i : Image) (input : List ℕ) → ((k : ℕ) → StepFits i input k) → (n : ℕ) → AreKnown (cells_left (history i input n))
unfolding history
run-known i input fits zero = tt
run-known i input fits (suc n) =
    let used : List ℕ = map (λ u. u.cell) (step_uses input (run i input n)) in
    rw (one-step-more i input n) (known-append (cells_left (history i input n)) used (run-known i input fits n) (uses-known i.version (step_uses input (run i input n)) (fits n).cells))

-- ---- rising cells, each once

words-insert : (c : ℕ) (ds : List ℕ) → words (insert_rising c ds) ≤ one_if (nat_lt c (2 ^ 30)) + words ds
words-insert c [] = omega arith
words-insert c (d ∷ ds) = go (nat_lt c d) (c == d) (words-insert c ds)
  where
    go : (a b : Bool) → words (insert_rising c ds) ≤ one_if (nat_lt c (2 ^ 30)) + words ds → words (cond a (c ∷ d ∷ ds) (cond b (d ∷ ds) (d ∷ insert_rising c ds))) ≤ one_if (nat_lt c (2 ^ 30)) + words (d ∷ ds)
    go true b rest = omega arith
    go false true rest = omega arith
    go false false rest = omega (arith, rest)

words-rising : (cs : List ℕ) → words (rising cs) ≤ words cs
words-rising [] = omega arith
words-rising (c ∷ cs) = omega (arith, words-insert c (rising cs), words-rising cs)

-- from a register on there are only registers and the reservation
registers-at-most : (lo : ℕ) (cs : List ℕ) → 2 ^ 30 ≤ lo → lo ≤ 2 ^ 30 + 32 → IsRising cs → AllByRecursion (λ c. lo < c) cs → AreKnown cs → lo + length cs ≤ 2 ^ 30 + 32
registers-at-most lo [] low high r above known = omega (arith, high)
registers-at-most lo (c ∷ cs) low high r above known = elim known.0 [
  | inl word ↦ absurd (omega (arith, low, above.0, word))
  | inr other ↦ omega (arith, above.0, registers-at-most c cs (omega (arith, other.0)) (omega (arith, other.1)) r.1 r.0 known.1)
]

rising-at-most : (cs : List ℕ) → IsRising cs → AreKnown cs → length cs ≤ words cs + 32
rising-at-most [] r known = omega arith
rising-at-most (c ∷ cs) r known = elim known.0 [
  | inl word ↦ omega (arith, ap one_if (lt-ltb c (2 ^ 30) word), rising-at-most cs r.1 known.1)
  | inr other ↦ omega (arith, other.0, registers-at-most c cs (omega (arith, other.0)) (omega (arith, other.1)) r.1 r.0 known.1)
]

-- ---- the table

table-length : (es : List TableEntry) → length (table_bytes es) ≡ 4 + 16 * length es
unfolding table_bytes
table-length es = length-append (to_le_bytes w32 (length es)) (flat_map entry_bytes es) ∙ ap (λ n. 4 + n) (length-entries es)

module _ (i : Image) (input : List ℕ) (fits : (k : ℕ) → StepFits i input k) (n : ℕ) where
  entries-at-most : length (table i input n) ≤ entries_bound n
  unfolding table table_of
  entries-at-most =
      let used : List ℕ = cells_left (history i input n) in
      let cs : List ℕ = rising used in
      let known : AreKnown cs = all-of IsKnown cs (λ c m. all-in IsKnown used (run-known i input fits n) c (in-rising c used m)) in
      let size : length (map (last_entry (history i input n) (time_of n 0)) cs) ≡ length cs = simp length-map in
      omega (arith, size, rising-at-most cs (rising-rises used) known, words-rising used, run-words i input n)

  pub table-at-most : length (table_bytes (table i input n)) ≤ table_bound n
  table-at-most = omega (arith, table-length (table i input n), entries-at-most)
