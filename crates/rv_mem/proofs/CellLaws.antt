-- What a memory holds in each cell, before and after a change.
use Rattle.std.proofs.Common.{◌≡◌, ◌≢◌, ◌⊎◌, ℕ, zero, suc, ◌+◌, ◌-◌, ◌^◌, ◌<◌, ◌≤◌, Bool, true, false, cond, ◌&&◌, ◌||◌, ◌==◌, nat_lt, List, [], ◌∷◌, ◌++◌, length, map, replicate, set, get_or, Option, Some, None, Result, Ok, Err, option_map, unwrap_or, refl, sym, ◌∙◌, ap, ap₂, subst, inl, inr, arith, append-nil, IsTrue, get_or-set_other, get_or-set_same, true≢false}
use Rattle.std.specs.List.{AllByRecursion, Contains}
use Rattle.std.specs.Option.{option_or}
use Rattle.std.specs.Result.{OnErr}
use Rattle.std.proofs.lemmas.Bool.{eq-eqb, ne_eqb, eqb-true, lt-ltb, le-ltb, ltb-true, ltb-false}
use Rattle.std.proofs.lemmas.List.{map-append}
use Rattle.std.proofs.lemmas.List.Elements.{Contains-append_left, Contains-append_right, Contains-append_cases}
use Rattle.std.proofs.lemmas.List.Folds.{find-append}
use Rattle.rv_base.specs.declared.record.TableEntry.{TableEntry}
use Rattle.rv_base.specs.declared.record.Touch.{Touch}
use Rattle.rv_spec.specs.Elf.{Image}
use Rattle.rv_spec.specs.Cells.{initial_value, is_cell, reservation_cell, time_of}
use Rattle.rv_spec.specs.Grammar.{IsRising}
use Rattle.rv_rules.proofs.Lemmas.{initial-register}
use Rattle.rv_mem.specs.declared.word.Word.{Word}
use Rattle.rv_mem.specs.declared.words.Words.{Words}
use Rattle.rv_mem.specs.Contents.{Contents, entry_at, value_at, time_at, IsSet, IsTable}
use Rattle.rv_mem.specs.Left.{last_touch, value_after, time_after, IsLeft}
use Rattle.rv_mem.specs.Accesses.{accesses_of}
use Rattle.rv_mem.specs.Used.{no_word, if_used, used, listed_word}
use Rattle.rv_mem.specs.Words.{first_word}
use Rattle.rv_mem.specs.StoredCells.{stored_word, stored_cell, contents, AreStoredCells, word_after}
use Rattle.rv_mem.proofs.UsedLaws.{used-same, used-none, used-add, one-used}
use Rattle.rv_mem.proofs.WordsLaws.{equal-or-not}

-- ---- the entry of a cell

abbrev entry : ℕ → Word → TableEntry
entry c w = record { cell = c; value = w.value; time = w.time }

abbrev if_found : ℕ → Word → Option TableEntry
if_found c w = cond (nat_lt 0 w.time) (Some (entry c w)) None

entry-other : (a c : ℕ) (w : Word) → a ≢ c → entry_at (if_used a w) c ≡ None
entry-other a c w n = elim (nat_lt 0 w.time) as (λ b. entry_at (cond b (entry a w ∷ []) []) c ≡ None) [
  | true ↦ ap (λ b. cond b (Some (entry a w)) None) (ne_eqb a c n)
  | false ↦ refl
]

entry-same : (a c : ℕ) (w : Word) → a ≡ c → entry_at (if_used a w) c ≡ if_found a w
entry-same a c w e = elim (nat_lt 0 w.time) as (λ b. entry_at (cond b (entry a w ∷ []) []) c ≡ cond b (Some (entry a w)) None) [
  | true ↦ ap (λ b. cond b (Some (entry a w)) None) (eq-eqb a c e)
  | false ↦ refl
]

or-none : (o : Option TableEntry) → option_or o None ≡ o
or-none None = refl
or-none (Some x) = refl

found-beyond : (f : ℕ → Word) (from n c : ℕ) → from + n ≤ c → entry_at (used f from n) c ≡ None
unfolding used
found-beyond f from zero c h = refl
found-beyond f from (suc n) c h =
    find-append (λ e. e.cell == c) (used f from n) (if_used (from + n) (f (from + n)))
    ∙ ap₂ option_or (found-beyond f from n c (omega arith)) (entry-other (from + n) c (f (from + n)) (λ e. absurd (omega arith)))

found : (f : ℕ → Word) (from n c : ℕ) → from ≤ c → c < from + n → entry_at (used f from n) c ≡ if_found c (f c)
unfolding used
found f from zero c l h = absurd (omega arith)
found f from (suc n) c l h =
    find-append (λ e. e.cell == c) (used f from n) (if_used (from + n) (f (from + n))) ∙ by (equal-or-not (from + n) c) (found f from n c l)
  where
    by : (from + n ≡ c) ⊎ (from + n ≢ c) → (c < from + n → entry_at (used f from n) c ≡ if_found c (f c))
        → option_or (entry_at (used f from n) c) (entry_at (if_used (from + n) (f (from + n))) c) ≡ if_found c (f c)
    by (inl e) before =
        ap₂ option_or (found-beyond f from n c (omega arith)) (entry-same (from + n) c (f (from + n)) e)
        ∙ ap (λ k. if_found k (f k)) e
    by (inr e) before =
        ap₂ option_or (before (omega arith)) (entry-other (from + n) c (f (from + n)) e)
        ∙ or-none (if_found c (f c))

-- its time and its value
time-found : (c : ℕ) (w : Word) → unwrap_or (option_map (λ (e : TableEntry). e.time) (if_found c w)) 0 ≡ w.time
time-found c w = elim (nat_lt 0 w.time) as (λ b. nat_lt 0 w.time ≡ b → unwrap_or (option_map (λ (e : TableEntry). e.time) (cond b (Some (entry c w)) None)) 0 ≡ w.time) [
  | true ↦ λ e. refl
  | false ↦ λ e. let none : w.time ≤ 0 = ltb-false 0 w.time e in omega arith
] refl

value-found : (c : ℕ) (w : Word) (v : ℕ) → (w.time ≡ 0 → w.value ≡ v) → unwrap_or (option_map (λ (e : TableEntry). e.value) (if_found c w)) v ≡ w.value
value-found c w v h = elim (nat_lt 0 w.time) as (λ b. nat_lt 0 w.time ≡ b → unwrap_or (option_map (λ (e : TableEntry). e.value) (cond b (Some (entry c w)) None)) v ≡ w.value) [
  | true ↦ λ e. refl
  | false ↦ λ e. let none : w.time ≤ 0 = ltb-false 0 w.time e in sym (h (omega arith))
] refl

-- ---- what a memory holds in a cell

pub time-kept : (m : Words) (r : List Word) (c : ℕ) → c < 1073741857 → time_at (contents m r) c ≡ (stored_cell m r c).time
unfolding time_at
time-kept m r c h =
    ap (λ o. unwrap_or (option_map (λ (e : TableEntry). e.time) o) 0) (found (stored_cell m r) 0 1073741857 c (omega arith) (omega arith)) ∙ time-found c (stored_cell m r c)

pub value-kept : (m : Words) (r : List Word) (c : ℕ) → AreStoredCells m r → c < 1073741857 → value_at (contents m r) c ≡ (stored_cell m r c).value
unfolding value_at
value-kept m r c begun h =
    ap (λ o. unwrap_or (option_map (λ (e : TableEntry). e.value) o) (initial_value m.image c)) (found (stored_cell m r) 0 1073741857 c (omega arith) (omega arith))
    ∙ value-found c (stored_cell m r c) (initial_value m.image c) (begun.unused c h)

pub time-beyond : (m : Words) (r : List Word) (c : ℕ) → 1073741857 ≤ c → time_at (contents m r) c ≡ 0
unfolding time_at
time-beyond m r c h = ap (λ o. unwrap_or (option_map (λ (e : TableEntry). e.time) o) 0) (found-beyond (stored_cell m r) 0 1073741857 c (omega arith))

value-beyond : (m : Words) (r : List Word) (c : ℕ) → 1073741857 ≤ c → value_at (contents m r) c ≡ initial_value m.image c
unfolding value_at
value-beyond m r c h = ap (λ o. unwrap_or (option_map (λ (e : TableEntry). e.value) o) (initial_value m.image c)) (found-beyond (stored_cell m r) 0 1073741857 c (omega arith))

-- ---- a change of one cell, and of none

pub low-or-high : (a b : ℕ) → (a < b) ⊎ (b ≤ a)
low-or-high a b = elim (nat_lt a b) as (λ t. nat_lt a b ≡ t → (a < b) ⊎ (b ≤ a)) [ true ↦ λ e. inl (ltb-true a b e) | false ↦ λ e. inr (ltb-false a b e) ] refl

pub record IsChange (m n : Words) (r s : List Word) (cell : ℕ) (w : Word) : Type 0 where
  pub image : n.image ≡ m.image
  pub full : length s ≡ 33
  pub is_cell : IsTrue (is_cell 2 cell)
  pub here : stored_cell n s cell ≡ w
  pub others : (c : ℕ) → c < 1073741857 → c ≢ cell → stored_cell n s c ≡ stored_cell m r c

pub begun-changed : (m n : Words) (r s : List Word) (cell : ℕ) (w : Word) → AreStoredCells m r → 0 < w.time → IsChange m n r s cell w → AreStoredCells n s
begun-changed m n r s cell w begun t change = record { full = change.full; cells = λ c h z. is c h z (equal-or-not c cell); unused = λ c h z. by c h z (equal-or-not c cell) }
  where
    is : (c : ℕ) → c < 1073741857 → 0 < (stored_cell n s c).time → (c ≡ cell) ⊎ (c ≢ cell) → IsTrue (is_cell 2 c)
    is c h z (inl e) = subst (λ k. IsTrue (is_cell 2 k)) (sym e) change.is_cell
    is c h z (inr d) = begun.cells c h (subst (λ (v : Word). 0 < v.time) (change.others c h d) z)

    by : (c : ℕ) → c < 1073741857 → (stored_cell n s c).time ≡ 0 → (c ≡ cell) ⊎ (c ≢ cell) → (stored_cell n s c).value ≡ initial_value n.image c
    by c h z (inl e) =
        let set_time : (stored_cell n s c).time ≡ w.time = ap (λ k. (stored_cell n s k).time) e ∙ ap (λ (v : Word). v.time) change.here in
        absurd (omega arith)
    by c h z (inr d) =
        let same = change.others c h d in
        ap (λ (v : Word). v.value) same ∙ begun.unused c h (sym (ap (λ (v : Word). v.time) same) ∙ z) ∙ ap (λ i. initial_value i c) (sym change.image)

pub set-changed : (m n : Words) (r s : List Word) (cell : ℕ) (w : Word) → AreStoredCells m r → AreStoredCells n s → cell < 1073741857 → IsChange m n r s cell w → IsSet (contents m r) (contents n s) cell w.value w.time
set-changed m n r s cell w begun now h change = record {
  image = change.image;
  value_set = value-kept n s cell now h ∙ ap (λ (v : Word). v.value) change.here;
  time_set = time-kept n s cell h ∙ ap (λ (v : Word). v.time) change.here;
  other_values = λ c d. values c d (low-or-high c 1073741857);
  other_times = λ c d. times c d (low-or-high c 1073741857);
}
  where
    values : (c : ℕ) → c ≢ cell → (c < 1073741857) ⊎ (1073741857 ≤ c) → value_at (contents n s) c ≡ value_at (contents m r) c
    values c d (inl l) = value-kept n s c now l ∙ ap (λ (v : Word). v.value) (change.others c l d) ∙ sym (value-kept m r c begun l)
    values c d (inr l) = value-beyond n s c l ∙ ap (λ i. initial_value i c) change.image ∙ sym (value-beyond m r c l)

    times : (c : ℕ) → c ≢ cell → (c < 1073741857) ⊎ (1073741857 ≤ c) → time_at (contents n s) c ≡ time_at (contents m r) c
    times c d (inl l) = time-kept n s c l ∙ ap (λ (v : Word). v.time) (change.others c l d) ∙ sym (time-kept m r c l)
    times c d (inr l) = time-beyond n s c l ∙ sym (time-beyond m r c l)

-- ---- a cell is a word of memory or a register

pub cell-word : (m : Words) (r : List Word) (c : ℕ) → c < 2 ^ 30 → stored_cell m r c ≡ stored_word m c
unfolding stored_cell
cell-word m r c h = ap (λ b. cond b (stored_word m c) (get_or r (c - 2 ^ 30) no_word)) (lt-ltb c (2 ^ 30) h)

pub cell-register : (m : Words) (r : List Word) (c : ℕ) → 2 ^ 30 ≤ c → stored_cell m r c ≡ get_or r (c - 2 ^ 30) no_word
unfolding stored_cell
cell-register m r c h = ap (λ b. cond b (stored_word m c) (get_or r (c - 2 ^ 30) no_word)) (le-ltb c (2 ^ 30) h)

-- each cell of a program has a place
neither : (b : Bool) → (b && false || false) ≡ false
neither true = refl
neither false = refl

no-cell : (c : ℕ) → 1073741857 ≤ c → is_cell 2 c ≡ false
no-cell c h =
    ap (λ b. b || nat_lt (2 ^ 30) c && nat_lt c (2 ^ 30 + 32) || c == reservation_cell) (le-ltb c (2 ^ 30) (omega arith))
    ∙ ap (λ b. nat_lt (2 ^ 30) c && b || c == reservation_cell) (le-ltb c (2 ^ 30 + 32) (omega arith))
    ∙ ap (λ b. nat_lt (2 ^ 30) c && false || b) (ne_eqb c reservation_cell (λ q. absurd (omega arith)))
    ∙ neither (nat_lt (2 ^ 30) c)

pub cell-within : (c : ℕ) → is_cell 2 c ≡ true → c < 1073741857
cell-within c e = by (low-or-high c 1073741857)
  where
    by : (c < 1073741857) ⊎ (1073741857 ≤ c) → c < 1073741857
    by (inl h) = h
    by (inr h) = absurd (true≢false (sym e ∙ no-cell c h))

pub register-set : (m : Words) (r : List Word) (cell : ℕ) (w : Word) → length r ≡ 33 → 2 ^ 30 ≤ cell → cell < 1073741857 → stored_cell m (set r (cell - 2 ^ 30) w) cell ≡ w
register-set m r cell w full low high = cell-register m (set r (cell - 2 ^ 30) w) cell low ∙ get_or-set_same r (cell - 2 ^ 30) w no_word (omega arith)

pub register-others : (m : Words) (r : List Word) (cell : ℕ) (w : Word) → 2 ^ 30 ≤ cell → (c : ℕ) → c ≢ cell → stored_cell m (set r (cell - 2 ^ 30) w) c ≡ stored_cell m r c
register-others m r cell w low c d = by (low-or-high c (2 ^ 30))
  where
    by : (c < 2 ^ 30) ⊎ (2 ^ 30 ≤ c) → stored_cell m (set r (cell - 2 ^ 30) w) c ≡ stored_cell m r c
    by (inl l) = cell-word m (set r (cell - 2 ^ 30) w) c l ∙ sym (cell-word m r c l)
    by (inr l) =
        cell-register m (set r (cell - 2 ^ 30) w) c l ∙ get_or-set_other r (cell - 2 ^ 30) (c - 2 ^ 30) w no_word (λ e. d (omega arith))
        ∙ sym (cell-register m r c l)

pub word-others-kept : (m n : Words) (r : List Word) (cell : ℕ) → ((c : ℕ) → c < 2 ^ 30 → c ≢ cell → stored_word n c ≡ stored_word m c) → (c : ℕ) → c ≢ cell → stored_cell n r c ≡ stored_cell m r c
word-others-kept m n r cell others c d = by (low-or-high c (2 ^ 30))
  where
    by : (c < 2 ^ 30) ⊎ (2 ^ 30 ≤ c) → stored_cell n r c ≡ stored_cell m r c
    by (inl l) = cell-word n r c l ∙ others c l d ∙ sym (cell-word m r c l)
    by (inr l) = cell-register n r c l ∙ sym (cell-register m r c l)

-- where no word changes, no cell does
pub same-cells : (m n : Words) (r : List Word) → ((c : ℕ) → c < 2 ^ 30 → stored_word n c ≡ stored_word m c) → (c : ℕ) → stored_cell n r c ≡ stored_cell m r c
same-cells m n r same c = by (low-or-high c (2 ^ 30))
  where
    by : (c < 2 ^ 30) ⊎ (2 ^ 30 ≤ c) → stored_cell n r c ≡ stored_cell m r c
    by (inl l) = cell-word n r c l ∙ same c l ∙ sym (cell-word m r c l)
    by (inr l) = cell-register n r c l ∙ sym (cell-register m r c l)

pub begun-same : (m n : Words) (r : List Word) → AreStoredCells m r → n.image ≡ m.image → ((c : ℕ) → c < 2 ^ 30 → stored_word n c ≡ stored_word m c) → AreStoredCells n r
begun-same m n r begun image words = record {
  full = begun.full;
  cells = λ c h z. begun.cells c h (subst (λ (v : Word). 0 < v.time) (same-cells m n r words c) z);
  unused = λ c h z.
      let same = same-cells m n r words c in
      ap (λ (v : Word). v.value) same ∙ begun.unused c h (sym (ap (λ (v : Word). v.time) same) ∙ z) ∙ ap (λ i. initial_value i c) (sym image);
}

pub same-contents : (m n : Words) (r : List Word) → n.image ≡ m.image → ((c : ℕ) → c < 2 ^ 30 → stored_word n c ≡ stored_word m c) → contents n r ≡ contents m r
same-contents m n r image words =
    ap₂ of image (used-same (stored_cell n r) (stored_cell m r) 0 1073741857 (λ k h. same-cells m n r words (0 + k)))
  where
    of : Image → List TableEntry → Contents
    of i es = record { image = i; touched = es }

-- ---- the uses of a step

-- the last touch of a cell is a touch of it
last-in : (P : Touch → Type 0) (ts : List Touch) (c : ℕ) → AllByRecursion P ts → (o : Option Touch) → last_touch ts c ≡ o → (o ≡ None) ⊎ ((t : Touch) × (o ≡ Some t) × P t × (t.cell ≡ c))
last-in P [] c all o is = inl (sym is)
last-in P (x ∷ xs) c all o is = go (last-in P xs c all.1 (last_touch xs c) refl) (x.cell == c) refl
  where
    go : (last_touch xs c ≡ None) ⊎ ((t : Touch) × (last_touch xs c ≡ Some t) × P t × (t.cell ≡ c)) → (b : Bool) → (x.cell == c) ≡ b → (o ≡ None) ⊎ ((t : Touch) × (o ≡ Some t) × P t × (t.cell ≡ c))
    go (inr l) b e = inr (l.0, sym is ∙ ap (λ p. option_or p (cond (x.cell == c) (Some x) None)) l.1, l.2, l.3)
    go (inl none) true e = inr (x, sym is ∙ ap (λ p. option_or p (cond (x.cell == c) (Some x) None)) none ∙ ap (λ b. cond b (Some x) None) e, all.0, eqb-true x.cell c e)
    go (inl none) false e = inl (sym is ∙ ap (λ p. option_or p (cond (x.cell == c) (Some x) None)) none ∙ ap (λ b. cond b (Some x) None) e)

module _ (m n : Words) (r s : List Word) (step : ℕ) (ts : List Touch) (begun : AreStoredCells m r) (image : n.image ≡ m.image) (full : length s ≡ 33)
    (cells : AllByRecursion (λ t. IsTrue (is_cell 2 t.cell)) ts) (slots : AllByRecursion (λ t. 0 < t.slot) ts)
    (left : (c : ℕ) → c < 1073741857 → stored_cell n s c ≡ word_after step ts c (stored_cell m r c)) where
  -- a cell without a touch does not change
  untouched : (c : ℕ) → c < 1073741857 → last_touch ts c ≡ None → stored_cell n s c ≡ stored_cell m r c
  untouched c h none = left c h ∙ ap (λ o. after o (stored_cell m r c)) none
    where
      after : Option Touch → Word → Word
      after o w = record { value = unwrap_or (option_map (λ (t : Touch). t.new) o) w.value; time = unwrap_or (option_map (λ (t : Touch). time_of step t.slot) o) w.time }

  touched-time : (c : ℕ) → c < 1073741857 → (t : Touch) → last_touch ts c ≡ Some t → (stored_cell n s c).time ≡ time_of step t.slot
  touched-time c h t some = ap (λ (w : Word). w.time) (left c h) ∙ ap (λ o. unwrap_or (option_map (λ (t : Touch). time_of step t.slot) o) (stored_cell m r c).time) some

  pub begun-left : AreStoredCells n s
  begun-left = record {
    full = full;
    cells = λ c h z. elim (last-in (λ t. IsTrue (is_cell 2 t.cell)) ts c cells (last_touch ts c) refl) [
      | inl none ↦ begun.cells c h (subst (λ (v : Word). 0 < v.time) (untouched c h none) z)
      | inr l ↦ subst (λ k. IsTrue (is_cell 2 k)) l.3 l.2
    ];
    unused = λ c h z. elim (last-in (λ t. 0 < t.slot) ts c slots (last_touch ts c) refl) [
      | inl none ↦
          let same = untouched c h none in
          ap (λ (v : Word). v.value) same ∙ begun.unused c h (sym (ap (λ (v : Word). v.time) same) ∙ z) ∙ ap (λ i. initial_value i c) (sym image)
      | inr l ↦ absurd (omega (arith, l.2, touched-time c h l.0 l.1, z))
    ];
  }

  -- no touch is of a number beyond the cells
  beyond : (c : ℕ) → 1073741857 ≤ c → last_touch ts c ≡ None
  beyond c h = elim (last-in (λ t. IsTrue (is_cell 2 t.cell)) ts c cells (last_touch ts c) refl) [
    | inl none ↦ none
    | inr l ↦ absurd (true≢false (sym l.2 ∙ ap (is_cell 2) l.3 ∙ no-cell c h))
  ]

  pub is-left : IsLeft (contents m r) (contents n s) step ts
  is-left = record { image = image; values = λ c. values c (low-or-high c 1073741857); times = λ c. times c (low-or-high c 1073741857) }
    where
      values : (c : ℕ) → (c < 1073741857) ⊎ (1073741857 ≤ c) → value_at (contents n s) c ≡ value_after ts c (value_at (contents m r) c)
      values c (inl l) = value-kept n s c begun-left l ∙ ap (λ (v : Word). v.value) (left c l) ∙ ap (value_after ts c) (sym (value-kept m r c begun l))
      values c (inr l) =
          value-beyond n s c l ∙ ap (λ i. initial_value i c) image ∙ sym (value-beyond m r c l)
          ∙ sym (ap (λ o. unwrap_or (option_map (λ (t : Touch). t.new) o) (value_at (contents m r) c)) (beyond c l))

      times : (c : ℕ) → (c < 1073741857) ⊎ (1073741857 ≤ c) → time_at (contents n s) c ≡ time_after step ts c (time_at (contents m r) c)
      times c (inl l) = time-kept n s c l ∙ ap (λ (v : Word). v.time) (left c l) ∙ ap (time_after step ts c) (sym (time-kept m r c l))
      times c (inr l) = time-beyond n s c l ∙ sym (time-beyond m r c l) ∙ sym (ap (λ o. unwrap_or (option_map (λ (t : Touch). time_of step t.slot) o) (time_at (contents m r) c)) (beyond c l))

pub all-within : (ts : List Touch) → AllByRecursion (λ t. IsTrue (is_cell 2 t.cell)) ts → AllByRecursion (λ t. t.cell < 1073741857) ts
all-within [] h = tt
all-within (t ∷ ts) h = (cell-within t.cell h.0, all-within ts h.1)

-- the uses of a step whose pages are made first, in p
module _ (m p n : Words) (r s : List Word) (step : ℕ) (ts : List Touch) (begun : AreStoredCells m r) (kept : p.image ≡ m.image) (same : (c : ℕ) → c < 2 ^ 30 → stored_word p c ≡ stored_word m c)
    (image : n.image ≡ p.image) (full : length s ≡ 33) (cells : AllByRecursion (λ t. IsTrue (is_cell 2 t.cell)) ts) (slots : AllByRecursion (λ t. 0 < t.slot) ts)
    (left : (c : ℕ) → c < 1073741857 → stored_cell n s c ≡ word_after step ts c (stored_cell p r c)) where
  left-since : (c : ℕ) → c < 1073741857 → stored_cell n s c ≡ word_after step ts c (stored_cell m r c)
  left-since c within = left c within ∙ ap (word_after step ts c) (same-cells m p r same c)

  pub begun-paged : AreStoredCells n s
  begun-paged = begun-left m n r s step ts begun (image ∙ kept) full cells slots left-since

  pub is-left-paged : (before : Contents) → contents m r ≡ before → IsLeft before (contents n s) step ts
  is-left-paged before is = subst (λ (k : Contents). IsLeft k (contents n s) step ts) is (is-left m n r s step ts begun (image ∙ kept) full cells slots left-since)

-- the accesses of touches, from the cells as they are kept once the pages are made
pub held-before : (m n : Words) (r : List Word) (step : ℕ) → AreStoredCells m r → ((c : ℕ) → c < 2 ^ 30 → stored_word n c ≡ stored_word m c)
    → (earlier ts : List Touch) → AllByRecursion (λ t. t.cell < 1073741857) ts
    → accesses_of (λ c. (stored_cell n r c).value) (λ c. (stored_cell n r c).time) step earlier ts ≡ accesses_of (value_at (contents m r)) (time_at (contents m r)) step earlier ts
held-before m n r step begun same earlier [] h = refl
held-before m n r step begun same earlier (t ∷ ts) h =
    let here : stored_cell n r t.cell ≡ stored_cell m r t.cell = same-cells m n r same t.cell in
    let value = ap (λ (w : Word). w.value) here ∙ sym (value-kept m r t.cell begun h.0) in
    let time = ap (λ (w : Word). w.time) here ∙ sym (time-kept m r t.cell h.0) in
    λ i. record { slot = t.slot; cell = t.cell; old = value_after earlier t.cell (value i); prev = time_after step earlier t.cell (time i); new = t.new }
    ∷ held-before m n r step begun same (earlier ++ t ∷ []) ts h.1 i

-- ---- the cells before the first step

abbrev pub first_registers : List Word
first_registers = set (replicate 33 no_word) 2 (record { value = 0x7FFFF000; time = 0 })

abbrev pointer_or_zero : ℕ → Word
pointer_or_zero r = record { value = cond (r == 2) 0x7FFFF000 0; time = 0 }

replicated : (n k : ℕ) → get_or (replicate n no_word) k no_word ≡ no_word
replicated zero k = refl
replicated (suc n) zero = refl
replicated (suc n) (suc k) = replicated n k

register-first : (r : ℕ) → get_or first_registers r no_word ≡ pointer_or_zero r
register-first r = by (equal-or-not r 2)
  where
    by : (r ≡ 2) ⊎ (r ≢ 2) → get_or first_registers r no_word ≡ pointer_or_zero r
    by (inl e) = ap (λ k. get_or first_registers k no_word) e ∙ ap pointer_or_zero (sym e)
    by (inr d) =
        get_or-set_other (replicate 33 no_word) 2 r (record { value = 0x7FFFF000; time = 0 }) no_word d ∙ replicated 33 r
        ∙ ap (λ b. to-word (cond b 0x7FFFF000 0)) (sym (ne_eqb r 2 d))
      where
        to-word : ℕ → Word
        to-word v = record { value = v; time = 0 }

-- beyond the cells there is nothing
pub nothing-beyond : (m : Words) (r : List Word) (c : ℕ) → 1073741857 ≤ c → 0 ≡ value_at (contents m r) c
nothing-beyond m r c h =
    sym (value-beyond m r c h ∙ ap (initial_value m.image) (let k : c ≡ 2 ^ 30 + (c - 2 ^ 30) = omega arith in k) ∙ initial-register m.image (c - 2 ^ 30)
    ∙ ap (λ b. cond b 0x7FFFF000 0) (ne_eqb (c - 2 ^ 30) 2 (λ e. absurd (omega arith))))

first-cell : (m : Words) → ((w : ℕ) → stored_word m w ≡ first_word m.image w) → (c : ℕ) → stored_cell m first_registers c ≡ first_word m.image c
first-cell m begun c = by (low-or-high c (2 ^ 30))
  where
    by : (c < 2 ^ 30) ⊎ (2 ^ 30 ≤ c) → stored_cell m first_registers c ≡ first_word m.image c
    by (inl l) = cell-word m first_registers c l ∙ begun c
    by (inr l) =
        cell-register m first_registers c l ∙ register-first (c - 2 ^ 30)
        ∙ ap to-word (sym (initial-register m.image (c - 2 ^ 30)) ∙ ap (initial_value m.image) (let k : 2 ^ 30 + (c - 2 ^ 30) ≡ c = omega arith in k))
      where
        to-word : ℕ → Word
        to-word v = record { value = v; time = 0 }

pub begun-first : (m : Words) → ((w : ℕ) → stored_word m w ≡ first_word m.image w) → AreStoredCells m first_registers
begun-first m begun = record { full = refl; cells = λ c h z. (let none : (stored_cell m first_registers c).time ≡ 0 = ap (λ (v : Word). v.time) (first-cell m begun c) in absurd (omega arith)); unused = λ c h z. ap (λ (v : Word). v.value) (first-cell m begun c) }

pub touched-first : (m : Words) → ((w : ℕ) → stored_word m w ≡ first_word m.image w) → used (stored_cell m first_registers) 0 1073741857 ≡ []
touched-first m begun = used-none (stored_cell m first_registers) 0 1073741857 (λ k h. ap (λ (v : Word). v.time) (first-cell m begun (0 + k)))

-- ---- the list of the used cells

pub touched-parts : (m : Words) (r : List Word) → AreStoredCells m r → used (stored_word m) 0 (2 ^ 30) ++ used (listed_word r (2 ^ 30)) (2 ^ 30) (length r) ≡ used (stored_cell m r) 0 1073741857
touched-parts m r begun =
    ap₂ (λ a b. a ++ b)
    (used-same (stored_word m) (stored_cell m r) 0 (2 ^ 30) (λ k h. sym (cell-word m r (0 + k) (omega arith))))
    (ap (used (listed_word r (2 ^ 30)) (2 ^ 30)) begun.full
    ∙ used-same (listed_word r (2 ^ 30)) (stored_cell m r) (2 ^ 30) 33 (λ k h. sym (cell-register m r (2 ^ 30 + k) (omega arith))))
    ∙ sym (used-add (stored_cell m r) 0 (2 ^ 30) 33)

all-snoc : (P : ℕ → Type 0) (xs : List ℕ) (z : ℕ) → AllByRecursion P xs → P z → AllByRecursion P (xs ++ z ∷ [])
all-snoc P [] z a p = (p, tt)
all-snoc P (x ∷ xs) z a p = (a.0, all-snoc P xs z a.1 p)

rising-snoc : (xs : List ℕ) (z : ℕ) → IsRising xs → AllByRecursion (λ y. y < z) xs → IsRising (xs ++ z ∷ [])
rising-snoc [] z r b = (tt, tt)
rising-snoc (x ∷ xs) z r b = (all-snoc (λ y. x < y) xs z r.0 b.0, rising-snoc xs z r.1 b.1)

below-more : (xs : List ℕ) (z : ℕ) → AllByRecursion (λ y. y < z) xs → AllByRecursion (λ y. y < suc z) xs
below-more [] z b = tt
below-more (x ∷ xs) z b = ((let h = b.0 in omega arith), below-more xs z b.1)

rises : (f : ℕ → Word) (from n : ℕ) → IsRising (map (λ (e : TableEntry). e.cell) (used f from n)) × ((b : ℕ) → from + n ≤ b → AllByRecursion (λ y. y < b) (map (λ (e : TableEntry). e.cell) (used f from n)))
unfolding used
rises f from zero = (tt, λ b h. tt)
rises f from (suc n) =
    let before = rises f from n in
    let xs : List TableEntry = used f from n in
    let next : TableEntry = entry (from + n) (f (from + n)) in
    let joined : map (λ (e : TableEntry). e.cell) (xs ++ next ∷ []) ≡ map (λ (e : TableEntry). e.cell) xs ++ (from + n) ∷ [] = map-append (λ (e : TableEntry). e.cell) xs (next ∷ []) in
    elim (nat_lt 0 (f (from + n)).time) as (λ t. IsRising (map (λ (e : TableEntry). e.cell) (xs ++ cond t (next ∷ []) []))
    × ((b : ℕ) → from + suc n ≤ b → AllByRecursion (λ y. y < b) (map (λ (e : TableEntry). e.cell) (xs ++ cond t (next ∷ []) [])))) [
      | true ↦ (
        subst IsRising (sym joined) (rising-snoc (map (λ (e : TableEntry). e.cell) xs) (from + n) before.0 (before.1 (from + n) (omega arith))),
        λ b h. subst (AllByRecursion (λ y. y < b)) (sym joined) (all-snoc (λ y. y < b) (map (λ (e : TableEntry). e.cell) xs) (from + n) (before.1 b (omega arith)) (omega arith)),
      )
      | false ↦ (
        subst (λ (l : List TableEntry). IsRising (map (λ (e : TableEntry). e.cell) l)) (sym (append-nil xs)) before.0,
        λ b h. subst (λ (l : List TableEntry). AllByRecursion (λ y. y < b) (map (λ (e : TableEntry). e.cell) l)) (sym (append-nil xs)) (before.1 b (omega arith)),
      )
    ]

-- what is listed is used, and what is used is listed
listed-used : (f : ℕ → Word) (from n : ℕ) (e : TableEntry) → Contains (used f from n) e → (c : ℕ) × (c < from + n) × (0 < (f c).time) × (e ≡ entry c (f c))
unfolding used
listed-used f from zero e (k, h, is) = absurd (omega arith)
listed-used f from (suc n) e there = by (Contains-append_cases (used f from n) (if_used (from + n) (f (from + n))) e there) (listed-used f from n e)
  where
    last : (w : Word) → Contains (if_used (from + n) w) e → (0 < w.time) × (e ≡ entry (from + n) w)
    last w = elim (nat_lt 0 w.time) as (λ b. nat_lt 0 w.time ≡ b → Contains (cond b (entry (from + n) w ∷ []) []) e → (0 < w.time) × (e ≡ entry (from + n) w)) [
      | true ↦ λ t. λ (k, h, is). (ltb-true 0 w.time t, sym is ∙ first k h)
      | false ↦ λ t. λ (k, h, is). absurd (omega arith)
    ] refl
      where
        first : (k : ℕ) → k < 1 → get_or (entry (from + n) w ∷ []) k e ≡ entry (from + n) w
        first zero h = refl
        first (suc k) h = absurd (omega arith)

    by : Contains (used f from n) e ⊎ Contains (if_used (from + n) (f (from + n))) e → (Contains (used f from n) e → (c : ℕ) × (c < from + n) × (0 < (f c).time) × (e ≡ entry c (f c)))
        → (c : ℕ) × (c < from + suc n) × (0 < (f c).time) × (e ≡ entry c (f c))
    by (inl l) before = let r = before l in (r.0, (let h = r.1 in omega arith), r.2, r.3)
    by (inr r) before = let q = last (f (from + n)) r in (from + n, omega arith, q.0, q.1)

used-listed : (f : ℕ → Word) (from n c : ℕ) → from ≤ c → c < from + n → 0 < (f c).time → Contains (used f from n) (entry c (f c))
unfolding used
used-listed f from zero c l h t = absurd (omega arith)
used-listed f from (suc n) c l h t = by (equal-or-not (from + n) c) (λ low. used-listed f from n c l low t)
  where
    by : (from + n ≡ c) ⊎ (from + n ≢ c) → (c < from + n → Contains (used f from n) (entry c (f c))) → Contains (used f from n ++ if_used (from + n) (f (from + n))) (entry c (f c))
    by (inl e) before =
        Contains-append_right (used f from n) (if_used (from + n) (f (from + n))) (entry c (f c))
        (subst (λ k. Contains (if_used k (f k)) (entry c (f c))) (sym e)
        (subst (λ (l : List TableEntry). Contains l (entry c (f c))) (sym (one-used c (f c) t)) (0, (omega arith), refl)))
    by (inr d) before = Contains-append_left (used f from n) (if_used (from + n) (f (from + n))) (entry c (f c)) (before (omega arith))

pub table-touched : (m : Words) (r : List Word) → AreStoredCells m r → IsTable (contents m r) (contents m r).touched
table-touched m r begun = record {
  rising = (rises (stored_cell m r) 0 1073741857).0;
  cells = λ e there.
      let p = listed-used (stored_cell m r) 0 1073741857 e there in
      subst (λ c. IsTrue (is_cell 2 c)) (sym (ap (λ (e : TableEntry). e.cell) p.3)) (begun.cells p.0 (let h = p.1 in omega arith) p.2);
  set_only = λ e there.
      let p = listed-used (stored_cell m r) 0 1073741857 e there in
      let c : ℕ = p.0 in
      let low : c < 1073741857 = (let h = p.1 in omega arith) in
      let is : e ≡ entry c (stored_cell m r c) = p.3 in
      let cell : e.cell ≡ c = ap (λ (e : TableEntry). e.cell) is in
      let time : e.time ≡ (stored_cell m r c).time = ap (λ (e : TableEntry). e.time) is in (
        (let t = p.2 in omega arith),
        ap (λ (e : TableEntry). e.value) is ∙ sym (value-kept m r c begun low) ∙ ap (value_at (contents m r)) (sym cell),
        time ∙ sym (time-kept m r c low) ∙ ap (time_at (contents m r)) (sym cell),
      );
  all_set = λ c t. by c t (low-or-high c 1073741857);
}
  where
    by : (c : ℕ) → 0 < time_at (contents m r) c → (c < 1073741857) ⊎ (1073741857 ≤ c)
        → Contains (contents m r).touched (record { cell = c; value = value_at (contents m r) c; time = time_at (contents m r) c })
    by c t (inr h) = absurd (let none = time-beyond m r c h in omega arith)
    by c t (inl h) =
        let time = time-kept m r c h in
        subst (λ (e : TableEntry). Contains (contents m r).touched e) (ap₂ (to-entry c) (sym (value-kept m r c begun h)) (sym time))
        (used-listed (stored_cell m r) 0 1073741857 c (omega arith) (omega arith) (omega arith))
      where
        to-entry : ℕ → ℕ → ℕ → TableEntry
        to-entry c v t = record { cell = c; value = v; time = t }

-- a fact that holds holds on an error
pub on-err : {T E : Type 0} (r : Result T E) (P : Type 0) → P → OnErr r P
on-err (Ok x) P p = tt
on-err (Err e) P p = p
