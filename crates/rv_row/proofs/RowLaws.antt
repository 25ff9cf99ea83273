-- A row that is read is spelled by the bytes, and a row that is spelled is read, whatever follows.
use Rattle.std.proofs.Common.{◌≡◌, ℕ, zero, suc, ◌+◌, ◌*◌, ◌≤◌, true, false, List, [], ◌∷◌, ◌++◌, length, map, get_or, drop, None, leb, refl, sym, ap, ◌∙◌, append_assoc, arith}
use Rattle.std.specs.Int.{w32, w64, to_le_bytes, is_in_range, IsInRange}
use Rattle.std.specs.List.{flat_map, range_with_len, AllByRecursion}
use Rattle.std.proofs.lemmas.Bool.{leb-true, le-leb, and_parts, and_from}
use Rattle.std.proofs.lemmas.List.{length-append, length-drop, drop_at, drop-drop}
use Rattle.std.proofs.lemmas.List.FromFn.{length-map-range_with_len}
use Rattle.rv_base.specs.declared.record.Access.{Access}
use Rattle.rv_spec.specs.Trace.{Row}
use Rattle.rv_spec.specs.Record.{access_bytes, row_bytes}
use Rattle.rv_spec.specs.Grammar.{AccessFits, RowFits}
use Rattle.rv_rules.specs.Reading.{access_of, row_of, row_form}
use Rattle.rv_rules.specs.Checks.{Check, first_broken}
use Rattle.rv_row.proofs.Numbers.{wide32, wide64, field32, field64, below32, below64, byte-at-front}
use Rattle.rv_rules.proofs.Lemmas.{byte-fits, drop-bytes}
use Rattle.rv_spec.specs.Words.{AreBytes}

-- ---- one access

spell-access : (a : Access) (d21 d17 d9 d5 d1 : List ℕ) → to_le_bytes w32 a.new ++ d21 ≡ d17 → to_le_bytes w64 a.prev ++ d17 ≡ d9 → to_le_bytes w32 a.old ++ d9 ≡ d5 → to_le_bytes w32 a.cell ++ d5 ≡ d1
    → access_bytes a ++ d21 ≡ a.slot ∷ d1
unfolding access_bytes
spell-access a d21 d17 d9 d5 d1 new prev old cell =
    ap (λ (xs : List ℕ). a.slot ∷ (to_le_bytes w32 a.cell ++ (to_le_bytes w32 a.old ++ (to_le_bytes w64 a.prev ++ xs)))) new
    ∙ ap (λ (xs : List ℕ). a.slot ∷ (to_le_bytes w32 a.cell ++ (to_le_bytes w32 a.old ++ xs))) prev
    ∙ ap (λ (xs : List ℕ). a.slot ∷ (to_le_bytes w32 a.cell ++ xs)) old
    ∙ ap (λ (xs : List ℕ). a.slot ∷ xs) cell

pub access-takes : (bytes : List ℕ) → AreBytes bytes → 21 ≤ length bytes → access_bytes (access_of bytes) ++ drop 21 bytes ≡ bytes
access-takes bytes fits room =
    spell-access (access_of bytes) (drop 21 bytes) (drop 17 bytes) (drop 9 bytes) (drop 5 bytes) (drop 1 bytes)
    (field32 bytes 17 21 fits refl room) (field64 bytes 9 17 fits refl (omega arith)) (field32 bytes 5 9 fits refl (omega arith)) (field32 bytes 1 5 fits refl (omega arith))
    ∙ byte-at-front bytes 0 1 refl (omega arith)

pub access-fits : (bytes : List ℕ) → AreBytes bytes → AccessFits (access_of bytes)
access-fits bytes fits = record {
  slot = omega (arith, byte-fits bytes 0 fits);
  cell = below32 bytes 1 fits;
  old = below32 bytes 5 fits;
  prev = below64 bytes 9 fits;
  new = below32 bytes 17 fits;
}

pub access-again : (a : Access) (rest : List ℕ) → AccessFits a → access_of (access_bytes a ++ rest) ≡ a
unfolding access_bytes
access-again a rest fits = λ i. record {
  slot = a.slot;
  cell = wide32.again a.cell [] fits.cell i;
  old = wide32.again a.old [] fits.old i;
  prev = wide64.again a.prev [] fits.prev i;
  new = wide32.again a.new [] fits.new i;
}

pub length-access_bytes : (a : Access) → length (access_bytes a) ≡ 21
unfolding access_bytes
length-access_bytes a = refl

-- ---- the accesses of a row

abbrev pub access_at : List ℕ → ℕ → Access
access_at bytes j = access_of (drop (9 + 21 * j) bytes)

accesses-take : (bytes : List ℕ) (i n : ℕ) → AreBytes bytes → 9 + 21 * (i + n) ≤ length bytes
    → flat_map access_bytes (map (access_at bytes) (range_with_len i n)) ++ drop (9 + 21 * (i + n)) bytes ≡ drop (9 + 21 * i) bytes
accesses-take bytes i zero fits room = ap (λ k. drop (9 + 21 * k) bytes) (omega arith)
accesses-take bytes i (suc n) fits room =
    let here = drop (9 + 21 * i) bytes in
    let behind = flat_map access_bytes (map (access_at bytes) (range_with_len (i + 1) n)) in
    let one-less : i + suc n ≡ (i + 1) + n = omega arith in
    let others : behind ++ drop (9 + 21 * ((i + 1) + n)) bytes ≡ drop (9 + 21 * (i + 1)) bytes = accesses-take bytes (i + 1) n fits (omega arith) in
    let next : drop (9 + 21 * (i + 1)) bytes ≡ drop 21 here = ap (λ k. drop k bytes) (omega arith) ∙ sym (drop-drop 21 (9 + 21 * i) bytes) in
    append_assoc (access_bytes (access_at bytes i)) behind (drop (9 + 21 * (i + suc n)) bytes)
    ∙ ap (λ k. access_bytes (access_at bytes i) ++ (behind ++ drop (9 + 21 * k) bytes)) one-less
    ∙ ap (λ (xs : List ℕ). access_bytes (access_at bytes i) ++ xs) (others ∙ next)
    ∙ access-takes here (drop-bytes (9 + 21 * i) bytes fits) (omega (arith, length-drop (9 + 21 * i) bytes))

accesses-fit : (bytes : List ℕ) (i n : ℕ) → AreBytes bytes → AllByRecursion AccessFits (map (access_at bytes) (range_with_len i n))
accesses-fit bytes i zero fits = tt
accesses-fit bytes i (suc n) fits = (access-fits (drop (9 + 21 * i) bytes) (drop-bytes (9 + 21 * i) bytes fits), accesses-fit bytes (i + 1) n fits)

accesses-again : (list : List Access) (whole before rest : List ℕ) (i : ℕ) → AllByRecursion AccessFits list → length before ≡ 9 + 21 * i
    → whole ≡ before ++ (flat_map access_bytes list ++ rest) → map (access_at whole) (range_with_len i (length list)) ≡ list
accesses-again [] whole before rest i fits at is = refl
accesses-again (a ∷ list) whole before rest i fits at is =
    let behind = flat_map access_bytes list ++ rest in
    let regrouped : whole ≡ before ++ (access_bytes a ++ behind) = is ∙ ap (λ (xs : List ℕ). before ++ xs) (append_assoc (access_bytes a) (flat_map access_bytes list) rest) in
    let here : drop (9 + 21 * i) whole ≡ access_bytes a ++ behind = rw regrouped (drop_at before (access_bytes a ++ behind) (9 + 21 * i) at) in
    let first : access_at whole i ≡ a = ap access_of here ∙ access-again a behind fits.0 in
    let size : length (before ++ access_bytes a) ≡ 9 + 21 * (i + 1) = omega (arith, length-append before (access_bytes a), length-access_bytes a, at) in
    let others = accesses-again list whole (before ++ access_bytes a) rest (i + 1) fits.1 size (regrouped ∙ sym (append_assoc before (access_bytes a) behind)) in
    λ t. first t ∷ others t

length-accesses : (list : List Access) → length (flat_map access_bytes list) ≡ 21 * length list
length-accesses [] = refl
length-accesses (a ∷ list) = length-append (access_bytes a) (flat_map access_bytes list) ∙ omega (arith, length-access_bytes a, length-accesses list)

-- ---- a row

spell-row : (r : Row) (end d9 d8 d4 d0 : List ℕ) → flat_map access_bytes r.accesses ++ end ≡ d9 → length r.accesses ∷ d9 ≡ d8 → to_le_bytes w32 r.next ++ d8 ≡ d4 → to_le_bytes w32 r.pc ++ d4 ≡ d0
    → row_bytes r ++ end ≡ d0
unfolding row_bytes
spell-row r end d9 d8 d4 d0 accesses count next pc =
    ap (λ (xs : List ℕ). to_le_bytes w32 r.pc ++ (to_le_bytes w32 r.next ++ (length r.accesses ∷ xs))) accesses
    ∙ ap (λ (xs : List ℕ). to_le_bytes w32 r.pc ++ (to_le_bytes w32 r.next ++ xs)) count
    ∙ ap (λ (xs : List ℕ). to_le_bytes w32 r.pc ++ xs) next
    ∙ pc

pub row-takes : (bytes : List ℕ) → AreBytes bytes → 9 + 21 * get_or bytes 8 0 ≤ length bytes → row_bytes (row_of bytes) ++ drop (9 + 21 * get_or bytes 8 0) bytes ≡ bytes
row-takes bytes fits room =
    let n = get_or bytes 8 0 in
    let count : length (row_of bytes).accesses ≡ n = length-map-range_with_len (access_at bytes) 0 n in
    let none : 0 + n ≡ n = omega arith in
    spell-row (row_of bytes) (drop (9 + 21 * n) bytes) (drop 9 bytes) (drop 8 bytes) (drop 4 bytes) bytes
    (ap (λ k. flat_map access_bytes (row_of bytes).accesses ++ drop (9 + 21 * k) bytes) (sym none) ∙ accesses-take bytes 0 n fits (omega arith))
    (ap (λ k. k ∷ drop 9 bytes) count ∙ byte-at-front bytes 8 9 refl (omega arith))
    (field32 bytes 4 8 fits refl (omega arith)) (field32 bytes 0 4 fits refl (omega arith))

pub row-fits : (bytes : List ℕ) → AreBytes bytes → IsInRange 1 8 (get_or bytes 8 0) → RowFits (row_of bytes)
row-fits bytes fits count = record {
  pc = below32 bytes 0 fits;
  next = below32 bytes 4 fits;
  count =
      let size : length (row_of bytes).accesses ≡ get_or bytes 8 0 = length-map-range_with_len (access_at bytes) 0 (get_or bytes 8 0) in
      (omega (arith, size, count.0), omega (arith, size, count.1));
  accesses = accesses-fit bytes 0 (get_or bytes 8 0) fits;
}

pub row-again : (r : Row) (rest : List ℕ) → RowFits r → row_of (row_bytes r ++ rest) ≡ r
unfolding row_bytes
row-again r rest fits =
    let front = to_le_bytes w32 r.pc ++ to_le_bytes w32 r.next ++ length r.accesses ∷ [] in
    let accesses = accesses-again r.accesses (row_bytes r ++ rest) front rest 0 fits.accesses refl refl in
    λ i. record {
      pc = wide32.again r.pc [] fits.pc i;
      next = wide32.again r.next [] fits.next i;
      accesses = accesses i;
    }

pub length-row_bytes : (r : Row) → length (row_bytes r) ≡ 9 + 21 * length r.accesses
unfolding row_bytes
length-row_bytes r = omega (arith, length-accesses r.accesses)

-- ---- the checks of form

pub all-hold : (c : Check) (cs : List Check) → first_broken (c ∷ cs) ≡ None → (c.1 ≡ true) × (first_broken cs ≡ None)
all-hold (rule, true) cs e = (refl, e)
all-hold (rule, false) cs e = absurd cc

pub hold : (c : Check) (cs : List Check) → c.1 ≡ true → first_broken cs ≡ None → first_broken (c ∷ cs) ≡ None
hold (rule, true) cs h e = e
hold (rule, false) cs h e = absurd cc

pub record GoodForm (bytes : List ℕ) : Type 0 where
  pub count : IsInRange 1 8 (get_or bytes 8 0)
  pub room : 9 + 21 * get_or bytes 8 0 ≤ length bytes

pub good-form : (bytes : List ℕ) → first_broken (row_form bytes) ≡ None → GoodForm bytes
good-form bytes e =
    let n = get_or bytes 8 0 in
    let a = all-hold (1, leb 9 (length bytes)) ((10, is_in_range 1 8 n) ∷ (1, leb (9 + 21 * n) (length bytes)) ∷ []) e in
    let b = all-hold (10, is_in_range 1 8 n) ((1, leb (9 + 21 * n) (length bytes)) ∷ []) a.1 in
    let c = all-hold (1, leb (9 + 21 * n) (length bytes)) [] b.1 in
    let range = and_parts (leb 1 n) (leb n 8) b.0 in
    record { count = (leb-true 1 n range.0, leb-true n 8 range.1); room = leb-true (9 + 21 * n) (length bytes) c.0 }

pub form-holds : (bytes : List ℕ) → GoodForm bytes → first_broken (row_form bytes) ≡ None
form-holds bytes good =
    let n = get_or bytes 8 0 in
    hold (1, leb 9 (length bytes)) ((10, is_in_range 1 8 n) ∷ (1, leb (9 + 21 * n) (length bytes)) ∷ []) (le-leb 9 (length bytes) (omega (arith, good.room)))
    (hold (10, is_in_range 1 8 n) ((1, leb (9 + 21 * n) (length bytes)) ∷ []) (and_from (leb 1 n) (leb n 8) (le-leb 1 n good.count.0) (le-leb n 8 good.count.1))
    (hold (1, leb (9 + 21 * n) (length bytes)) [] (le-leb (9 + 21 * n) (length bytes) good.room) refl))

pub good-again : (r : Row) (rest : List ℕ) → RowFits r → GoodForm (row_bytes r ++ rest)
unfolding row_bytes
good-again r rest fits = record {
  count = fits.count;
  room = omega (arith, length-append (row_bytes r) rest, length-row_bytes r);
}
