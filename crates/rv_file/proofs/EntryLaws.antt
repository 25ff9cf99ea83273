-- Entries of the table: what is read is spelled so, and what is spelled so is read.
use Rattle.std.proofs.Common.{◌≡◌, ℕ, zero, suc, ◌+◌, ◌*◌, ◌^◌, ◌<◌, ◌≤◌, true, ◌&&◌, ◌||◌, leb, ltb, eqb, inl, inr, List, [], ◌∷◌, ◌++◌, length, map, drop, Option, Some, None, Result, Ok, refl, sym, ap, subst, ◌∙◌, append_assoc, arith}
use Rattle.std.specs.Int.{w32, w64, to_le_bytes}
use Rattle.std.specs.List.{flat_map, AllByRecursion}
use Rattle.std.proofs.lemmas.Bool.{leb-true, le-leb, ltb-true, lt-ltb, eqb-true, or_cases, and_parts}
use Rattle.std.proofs.lemmas.List.{length-append, drop_at}
use Rattle.rv_base.specs.declared.record.Header.{Header}
use Rattle.rv_base.specs.declared.record.Refusal.{Refusal}
use Rattle.rv_base.specs.declared.record.TableEntry.{TableEntry}
use Rattle.rv_spec.specs.Cells.{is_cell}
use Rattle.rv_spec.specs.Record.{entry_bytes}
use Rattle.rv_spec.specs.Grammar.{EntryFits, IsRising}
use Rattle.rv_rules.specs.Reading.{entry_of, above, read_entry, read_entries}
use Rattle.rv_rules.specs.Checks.{Check, ◌>>=◌}
use Rattle.rv_row.proofs.Lemmas.{wide32, wide64, field32, field64, below32, below64, all-hold, hold}
use Rattle.rv_rules.proofs.Lemmas.{drop-bytes}
use Rattle.rv_spec.specs.Words.{AreBytes}
use Rattle.rv_file.proofs.Steps.{bind-ok, unless-ok, unless-holds, ok-is}

spell-entry : (e : TableEntry) (d16 d8 d4 d0 : List ℕ) → to_le_bytes w64 e.time ++ d16 ≡ d8 → to_le_bytes w32 e.value ++ d8 ≡ d4 → to_le_bytes w32 e.cell ++ d4 ≡ d0 → entry_bytes e ++ d16 ≡ d0
unfolding entry_bytes
spell-entry e d16 d8 d4 d0 time value cell =
    ap (λ (xs : List ℕ). to_le_bytes w32 e.cell ++ (to_le_bytes w32 e.value ++ xs)) time
    ∙ ap (λ (xs : List ℕ). to_le_bytes w32 e.cell ++ xs) value
    ∙ cell

pub entry-takes : (bytes : List ℕ) → AreBytes bytes → 16 ≤ length bytes → entry_bytes (entry_of bytes) ++ drop 16 bytes ≡ bytes
entry-takes bytes fits room =
    spell-entry (entry_of bytes) (drop 16 bytes) (drop 8 bytes) (drop 4 bytes) bytes
    (field64 bytes 8 16 fits refl room) (field32 bytes 4 8 fits refl (omega arith)) (field32 bytes 0 4 fits refl (omega arith))

is-cell-below : (version c : ℕ) → is_cell version c ≡ true → c < 2 ^ 32
is-cell-below version c e =
    elim (or_cases (ltb c (2 ^ 30) || (ltb (2 ^ 30) c && ltb c (2 ^ 30 + 32))) (eqb version 2 && eqb c (2 ^ 30 + 32)) e) [
      | inl known ↦
          elim (or_cases (ltb c (2 ^ 30)) (ltb (2 ^ 30) c && ltb c (2 ^ 30 + 32)) known) [
            | inl word ↦ omega (arith, ltb-true c (2 ^ 30) word)
            | inr register ↦ omega (arith, ltb-true c (2 ^ 30 + 32) (and_parts (ltb (2 ^ 30) c) (ltb c (2 ^ 30 + 32)) register).1)
          ]
      | inr reservation ↦ omega (arith, eqb-true c (2 ^ 30 + 32) (and_parts (eqb version 2) (eqb c (2 ^ 30 + 32)) reservation).1)
    ]

pub entry-again : (version : ℕ) (e : TableEntry) (rest : List ℕ) → EntryFits version e → entry_of (entry_bytes e ++ rest) ≡ e
unfolding entry_bytes
entry-again version e rest fits = λ i. record {
  cell = wide32.again e.cell [] (is-cell-below version e.cell fits.cell) i;
  value = wide32.again e.value [] fits.value i;
  time = wide64.again e.time [] (omega (arith, fits.time.1)) i;
}

pub length-entry_bytes : (e : TableEntry) → length (entry_bytes e) ≡ 16
unfolding entry_bytes
length-entry_bytes e = refl

-- ---- rising cells

abbrev cells_of : List TableEntry → List ℕ
cells_of es = map (λ t. t.cell) es

abbrev AllAbove : Option ℕ → List ℕ → Type 0
AllAbove before cs = AllByRecursion (λ c. above before c ≡ true) cs

above-some : (c : ℕ) (cs : List ℕ) → AllAbove (Some c) cs → AllByRecursion (λ y. c < y) cs
above-some c [] h = tt
above-some c (d ∷ cs) h = (ltb-true c d h.0, above-some c cs h.1)

some-above : (c : ℕ) (cs : List ℕ) → AllByRecursion (λ y. c < y) cs → AllAbove (Some c) cs
some-above c [] h = tt
some-above c (d ∷ cs) h = (lt-ltb c d h.0, some-above c cs h.1)

above-more : (before : Option ℕ) (c d : ℕ) → above before c ≡ true → c < d → above before d ≡ true
above-more None c d h lt = refl
above-more (Some b) c d h lt = let first : b < c = ltb-true b c h in lt-ltb b d (omega arith)

above-all : (before : Option ℕ) (c : ℕ) (cs : List ℕ) → above before c ≡ true → AllByRecursion (λ y. c < y) cs → AllAbove before cs
above-all before c [] h lt = tt
above-all before c (d ∷ cs) h lt = (above-more before c d h lt.0, above-all before c cs h lt.1)

none-above : (cs : List ℕ) → AllAbove None cs
none-above [] = tt
none-above (c ∷ cs) = (refl, none-above cs)

-- ---- entries

abbrev entry_checks : Header → Option ℕ → List ℕ → List Check
entry_checks h before bytes =
    (1, leb 16 (length bytes)) ∷ (22, above before (entry_of bytes).cell) ∷ (23, is_cell h.version (entry_of bytes).cell) ∷ (24, ltb 0 (entry_of bytes).time) ∷ []

pub record EntriesTaken (n version : ℕ) (before : Option ℕ) (bytes : List ℕ) (x : List TableEntry × List ℕ) : Type 0 where
  pub spelled : bytes ≡ flat_map entry_bytes x.0 ++ x.1
  pub fits : AllByRecursion (EntryFits version) x.0
  pub count : length x.0 ≡ n
  pub higher : AllAbove before (cells_of x.0)
  pub rising : IsRising (cells_of x.0)
  pub rest : AreBytes x.1

pub entries-taken : (n : ℕ) (h : Header) (j : ℕ) (before : Option ℕ) (bytes : List ℕ) (x : List TableEntry × List ℕ) → AreBytes bytes → read_entries n h j before bytes ≡ Ok x → EntriesTaken n h.version before bytes x
unfolding read_entries
entries-taken zero h j before bytes x fits e =
    subst (λ (y : List TableEntry × List ℕ). EntriesTaken zero h.version before bytes y) (ok-is ([], bytes) x e) (record { spelled = refl; fits = tt; count = refl; higher = tt; rising = tt; rest = fits })
entries-taken (suc n) h j before bytes x fits e =
    let t = entry_of bytes in
    let read : TableEntry × List ℕ = (t, drop 16 bytes) in
    let a = bind-ok (read_entry h j before bytes) (λ first. read_entries n h (j + 1) (Some (first.0).cell) first.1 >>= λ others. Ok (first.0 ∷ others.0, others.1)) x e in
    let u = unless-ok h.shards j (entry_checks h before bytes) read a.0 a.1 in
    let c1 = all-hold (1, leb 16 (length bytes)) ((22, above before t.cell) ∷ (23, is_cell h.version t.cell) ∷ (24, ltb 0 t.time) ∷ []) u.0 in
    let c2 = all-hold (22, above before t.cell) ((23, is_cell h.version t.cell) ∷ (24, ltb 0 t.time) ∷ []) c1.1 in
    let c3 = all-hold (23, is_cell h.version t.cell) ((24, ltb 0 t.time) ∷ []) c2.1 in
    let c4 = all-hold (24, ltb 0 t.time) [] c3.1 in
    let b = bind-ok (read_entries n h (j + 1) (Some (a.0.0).cell) a.0.1) (λ others. Ok (a.0.0 ∷ others.0, others.1)) x a.2 in
    let first_is : a.0 ≡ read = sym u.1 in
    let more = subst (λ (y : TableEntry × List ℕ). read_entries n h (j + 1) (Some (y.0).cell) y.1 ≡ Ok b.0 → EntriesTaken n h.version (Some t.cell) (drop 16 bytes) b.0)
    u.1 (λ k. entries-taken n h (j + 1) (Some t.cell) (drop 16 bytes) b.0 (drop-bytes 16 bytes fits) k) b.1 in
    let behind = above-some t.cell (cells_of b.0.0) more.higher in
    let positive : 0 < t.time = ltb-true 0 t.time c4.0 in
    let below : t.time < 2 ^ 64 = below64 bytes 8 fits in
    let all : EntriesTaken (suc n) h.version before bytes (t ∷ b.0.0, b.0.1) = record {
      spelled =
          sym (entry-takes bytes fits (leb-true 16 (length bytes) c1.0)) ∙ ap (λ (xs : List ℕ). entry_bytes t ++ xs) more.spelled
          ∙ sym (append_assoc (entry_bytes t) (flat_map entry_bytes b.0.0) b.0.1);
      fits = (record { cell = c3.0; value = below32 bytes 4 fits; time = (omega arith, omega arith) }, more.fits);
      count = ap suc more.count;
      higher = (c2.0, above-all before t.cell (cells_of b.0.0) c2.0 behind);
      rising = (behind, more.rising);
      rest = more.rest;
    } in
    let whole : (t ∷ b.0.0, b.0.1) ≡ x = ap (λ (y : TableEntry × List ℕ). (y.0 ∷ b.0.0, b.0.1)) u.1 ∙ ok-is (a.0.0 ∷ b.0.0, b.0.1) x b.2 in
    subst (λ (y : List TableEntry × List ℕ). EntriesTaken (suc n) h.version before bytes y) whole all

entry-read : (e : TableEntry) (h : Header) (j : ℕ) (before : Option ℕ) (rest : List ℕ) → EntryFits h.version e → above before e.cell ≡ true → read_entry h j before (entry_bytes e ++ rest) ≡ Ok (e, rest)
entry-read e h j before rest fits higher =
    let bytes = entry_bytes e ++ rest in
    let t = entry_of bytes in
    let entry-is : t ≡ e = entry-again h.version e rest fits in
    let room : 16 ≤ length bytes = omega (arith, length-append (entry_bytes e) rest, length-entry_bytes e) in
    let rises = ap (λ (k : TableEntry). above before k.cell) entry-is ∙ higher in
    let known = ap (λ (k : TableEntry). is_cell h.version k.cell) entry-is ∙ fits.cell in
    let timed = ap (λ (k : TableEntry). ltb 0 k.time) entry-is ∙ lt-ltb 0 e.time (omega (arith, fits.time.0)) in
    let left_is : drop 16 bytes ≡ rest = drop_at (entry_bytes e) rest 16 (length-entry_bytes e) in
    unless-holds h.shards j (entry_checks h before bytes) (t, drop 16 bytes)
    (hold (1, leb 16 (length bytes)) ((22, above before t.cell) ∷ (23, is_cell h.version t.cell) ∷ (24, ltb 0 t.time) ∷ []) (le-leb 16 (length bytes) room)
    (hold (22, above before t.cell) ((23, is_cell h.version t.cell) ∷ (24, ltb 0 t.time) ∷ []) rises
    (hold (23, is_cell h.version t.cell) ((24, ltb 0 t.time) ∷ []) known
    (hold (24, ltb 0 t.time) [] timed refl))))
    ∙ (λ i. Ok (entry-is i, left_is i))

entries-read-above : (es : List TableEntry) (h : Header) (j : ℕ) (before : Option ℕ) (rest : List ℕ) → AllByRecursion (EntryFits h.version) es → AllAbove before (cells_of es) → IsRising (cells_of es)
    → read_entries (length es) h j before (flat_map entry_bytes es ++ rest) ≡ Ok (es, rest)
unfolding read_entries
entries-read-above [] h j before rest fits higher rising = refl
entries-read-above (e ∷ es) h j before rest fits higher rising =
    let first = entry-read e h j before (flat_map entry_bytes es ++ rest) fits.0 higher.0 in
    let others = entries-read-above es h (j + 1) (Some e.cell) rest fits.1 (some-above e.cell (cells_of es) rising.0) rising.1 in
    let next : TableEntry × List ℕ → Result (List TableEntry × List ℕ) Refusal = λ f. read_entries (length es) h (j + 1) (Some (f.0).cell) f.1 >>= λ o. Ok (f.0 ∷ o.0, o.1) in
    ap (λ bytes. read_entries (suc (length es)) h j before bytes) (append_assoc (entry_bytes e) (flat_map entry_bytes es) rest)
    ∙ ap (λ r. r >>= next) first
    ∙ ap (λ r. r >>= λ o. Ok (e ∷ o.0, o.1)) others

pub entries-read : (es : List TableEntry) (h : Header) (j : ℕ) (rest : List ℕ) → AllByRecursion (EntryFits h.version) es → IsRising (cells_of es)
    → read_entries (length es) h j None (flat_map entry_bytes es ++ rest) ≡ Ok (es, rest)
entries-read es h j rest fits rising = entries-read-above es h j None rest fits (none-above (cells_of es)) rising

pub length-entries : (es : List TableEntry) → length (flat_map entry_bytes es) ≡ 16 * length es
length-entries [] = refl
length-entries (e ∷ es) = length-append (entry_bytes e) (flat_map entry_bytes es) ∙ omega (arith, length-entry_bytes e, length-entries es)
