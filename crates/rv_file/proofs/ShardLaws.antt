-- Shards: what is read is spelled so, and what is spelled so is read.
use Rattle.std.proofs.Common.{◌≡◌, ℕ, zero, suc, ◌+◌, ◌*◌, ◌^◌, ◌<◌, ◌≤◌, Bool, true, false, ◌&&◌, leb, eqb, List, [], ◌∷◌, ◌++◌, length, drop, Result, Ok, refl, sym, ap, subst, ◌∙◌, append_assoc, arith}
use Rattle.std.specs.Int.{w32, w64, to_le_bytes}
use Rattle.std.specs.List.{flat_map, AllByRecursion}
use Rattle.std.proofs.lemmas.Bool.{leb-true, le-leb, eqb-true, eq-eqb, and_parts, and_from}
use Rattle.std.proofs.lemmas.List.{length-append, length-drop, drop_at, drop-drop}
use Rattle.rv_base.specs.declared.record.Header.{Header}
use Rattle.rv_base.specs.declared.record.Place.{Place}
use Rattle.rv_base.specs.declared.record.Refusal.{Refusal}
use Rattle.rv_base.specs.declared.record.ShardHead.{ShardHead}
use Rattle.rv_spec.specs.Trace.{Row}
use Rattle.rv_rules.specs.Sums.{tiny_lanes}
use Rattle.rv_spec.specs.Digest.{set_digest_bytes}
use Rattle.rv_spec.specs.Record.{Shard, head_bytes, row_bytes, shard_bytes, rows_length, shard_rows}
use Rattle.rv_spec.specs.Grammar.{RowFits, ShardFits, ShardsFit}
use Rattle.rv_rules.specs.Reading.{Reading, head_of, digest_of, read_shard, read_shards}
use Rattle.rv_rules.specs.Checks.{unless_broken, ◌>>=◌}
use Rattle.rv_row.proofs.Lemmas.{wide32, wide64, field32, field64, below32, below64, all-hold, hold}
use Rattle.rv_rules.proofs.Lemmas.{drop-bytes}
use Rattle.rv_spec.specs.Words.{AreBytes}
use Rattle.rv_file.proofs.Steps.{bind-ok, unless-ok, unless-holds, ok-is}
use Rattle.rv_file.proofs.Cells.{digest-takes, digest-fits, digest-again, length-digest_bytes}
use Rattle.rv_file.proofs.RowLists.{rows_in, rows-taken, rows-read}

-- ---- a head

spell-head : (h : ShardHead) (d32 d28 d20 d12 d8 d4 d0 : List ℕ) → to_le_bytes w32 h.bytes ++ d32 ≡ d28 → to_le_bytes w64 h.output ++ d28 ≡ d20 → to_le_bytes w64 h.input ++ d20 ≡ d12
    → to_le_bytes w32 h.pc ++ d12 ≡ d8 → to_le_bytes w32 h.rows ++ d8 ≡ d4 → to_le_bytes w32 h.index ++ d4 ≡ d0 → head_bytes h ++ d32 ≡ d0
unfolding head_bytes
spell-head h d32 d28 d20 d12 d8 d4 d0 bytes output input pc rows index =
    let to_index = to_le_bytes w32 h.index in
    let to_rows = to_le_bytes w32 h.rows in
    let to_pc = to_le_bytes w32 h.pc in
    let to_input = to_le_bytes w64 h.input in
    let to_output = to_le_bytes w64 h.output in
    ap (λ (xs : List ℕ). to_index ++ (to_rows ++ (to_pc ++ (to_input ++ (to_output ++ xs))))) bytes
    ∙ ap (λ (xs : List ℕ). to_index ++ (to_rows ++ (to_pc ++ (to_input ++ xs)))) output
    ∙ ap (λ (xs : List ℕ). to_index ++ (to_rows ++ (to_pc ++ xs))) input
    ∙ ap (λ (xs : List ℕ). to_index ++ (to_rows ++ xs)) pc
    ∙ ap (λ (xs : List ℕ). to_index ++ xs) rows
    ∙ index

pub head-takes : (bytes : List ℕ) → AreBytes bytes → 32 ≤ length bytes → head_bytes (head_of bytes) ++ drop 32 bytes ≡ bytes
head-takes bytes fits room =
    spell-head (head_of bytes) (drop 32 bytes) (drop 28 bytes) (drop 20 bytes) (drop 12 bytes) (drop 8 bytes) (drop 4 bytes) bytes
    (field32 bytes 28 32 fits refl room) (field64 bytes 20 28 fits refl (omega arith)) (field64 bytes 12 20 fits refl (omega arith))
    (field32 bytes 8 12 fits refl (omega arith)) (field32 bytes 4 8 fits refl (omega arith)) (field32 bytes 0 4 fits refl (omega arith))

-- what has a spelling as a head
pub record HeadFits (h : ShardHead) : Type 0 where
  pub index : h.index < 2 ^ 32
  pub rows : h.rows < 2 ^ 32
  pub pc : h.pc < 2 ^ 32
  pub input : h.input < 2 ^ 64
  pub output : h.output < 2 ^ 64
  pub bytes : h.bytes < 2 ^ 32

pub head-again : (h : ShardHead) (rest : List ℕ) → HeadFits h → head_of (head_bytes h ++ rest) ≡ h
unfolding head_bytes
head-again h rest fits = λ i. record {
  index = wide32.again h.index [] fits.index i;
  rows = wide32.again h.rows [] fits.rows i;
  pc = wide32.again h.pc [] fits.pc i;
  input = wide64.again h.input [] fits.input i;
  output = wide64.again h.output [] fits.output i;
  bytes = wide32.again h.bytes [] fits.bytes i;
}

pub length-head_bytes : (h : ShardHead) → length (head_bytes h) ≡ 32
unfolding head_bytes
length-head_bytes h = refl

-- ---- a shard

abbrev pub shard_in : Header → List ℕ → ℕ → Place → List ℕ → Result (Reading Shard) Refusal
shard_in h output i p bytes = read_shard false tiny_lanes [] [] h output i p bytes

abbrev pub shards_in : ℕ → Header → List ℕ → ℕ → Place → List ℕ → Result (Reading (List Shard)) Refusal
shards_in n h output i p bytes = read_shards false tiny_lanes [] [] n h output i p bytes

-- the checks of a head, and those behind the rows
abbrev pub agrees : ℕ → ℕ → ShardHead → Bool
agrees i n head = eqb head.index i && eqb head.rows n && true

abbrev pub begins : ℕ → ℕ → List ℕ → Result (List ℕ) Refusal
begins i n bytes = unless_broken i 0 ((1, leb 32 (length bytes)) ∷ (9, agrees i n (head_of bytes)) ∷ []) (drop 32 bytes)

abbrev pub made : ShardHead → Reading (List Row) → Reading Shard
made head rows = record {
  part = record { head = head; rows = rows.part; reads = digest_of rows.left; writes = digest_of (drop 128 rows.left) };
  place = rows.place;
  left = drop 256 rows.left;
}

abbrev pub ends : ℕ → ℕ → ShardHead → Reading (List Row) → Result (Reading Shard) Refusal
ends i n head rows = unless_broken i n ((20, eqb (rows_length rows.part) head.bytes) ∷ (1, leb 256 (length rows.left)) ∷ (21, true) ∷ []) (made head rows)

pub record ShardTaken (h : Header) (i : ℕ) (bytes : List ℕ) (x : Reading Shard) : Type 0 where
  pub spelled : bytes ≡ shard_bytes x.part ++ x.left
  pub fits : ShardFits h i x.part
  pub rest : AreBytes x.left

join : (a b c d rest : List ℕ) → a ++ (b ++ (c ++ (d ++ rest))) ≡ (((a ++ b) ++ c) ++ d) ++ rest
join a b c d rest = sym (simp append_assoc)

pub shard-taken : (h : Header) (output : List ℕ) (i : ℕ) (p : Place) (bytes : List ℕ) (x : Reading Shard) → AreBytes bytes → shard_in h output i p bytes ≡ Ok x → ShardTaken h i bytes x
unfolding read_shard shard_bytes
shard-taken h output i p bytes x fits e =
    let n = shard_rows h.size h.steps i in
    let head = head_of bytes in
    let a = bind-ok (begins i n bytes) (λ next. rows_in n h output i 0 p next >>= ends i n head) x e in
    let u = unless-ok i 0 ((1, leb 32 (length bytes)) ∷ (9, agrees i n head) ∷ []) (drop 32 bytes) a.0 a.1 in
    let c1 = all-hold (1, leb 32 (length bytes)) ((9, agrees i n head) ∷ []) u.0 in
    let c2 = all-hold (9, agrees i n head) [] c1.1 in
    let both = and_parts (eqb head.index i) (eqb head.rows n) (and_parts (eqb head.index i && eqb head.rows n) true c2.0).0 in
    let rows_is : head.rows ≡ n = eqb-true head.rows n both.1 in
    let b = bind-ok (rows_in n h output i 0 p a.0) (ends i n head) x a.2 in
    let rs = rows-taken n h output i 0 p a.0 b.0 (subst (λ (xs : List ℕ). AreBytes xs) u.1 (drop-bytes 32 bytes fits)) b.1 in
    let left = b.0.left in
    let v = unless-ok i n ((20, eqb (rows_length b.0.part) head.bytes) ∷ (1, leb 256 (length left)) ∷ (21, true) ∷ []) (made head b.0) x b.2 in
    let d1 = all-hold (20, eqb (rows_length b.0.part) head.bytes) ((1, leb 256 (length left)) ∷ (21, true) ∷ []) v.0 in
    let d2 = all-hold (1, leb 256 (length left)) ((21, true) ∷ []) d1.1 in
    let room : 256 ≤ length left = leb-true 256 (length left) d2.0 in
    let second = drop 128 left in
    let second_fits = drop-bytes 128 left rs.rest in
    let reads = digest-takes left rs.rest (omega arith) in
    let writes = digest-takes second second_fits (omega (arith, length-drop 128 left)) in
    let last : drop 128 second ≡ drop 256 left = drop-drop 128 128 left in
    let rows = flat_map row_bytes b.0.part in
    let tail : left ≡ set_digest_bytes (digest_of left) ++ (set_digest_bytes (digest_of second) ++ drop 256 left) =
    sym reads ∙ ap (λ (xs : List ℕ). set_digest_bytes (digest_of left) ++ xs) (sym writes ∙ ap (λ (xs : List ℕ). set_digest_bytes (digest_of second) ++ xs) last) in
    subst (λ (y : Reading Shard). ShardTaken h i bytes y) v.1 (record {
      spelled =
          sym (head-takes bytes fits (leb-true 32 (length bytes) c1.0))
          ∙ ap (λ (xs : List ℕ). head_bytes head ++ xs) (u.1 ∙ rs.spelled ∙ ap (λ (xs : List ℕ). rows ++ xs) tail)
          ∙ join (head_bytes head) rows (set_digest_bytes (digest_of left)) (set_digest_bytes (digest_of second)) (drop 256 left);
      fits = record {
        index = eqb-true head.index i both.0;
        rows = rows_is;
        count = rs.count ∙ sym rows_is;
        bytes = sym (eqb-true (rows_length b.0.part) head.bytes d1.0);
        pc = below32 bytes 8 fits;
        input = below64 bytes 12 fits;
        output = below64 bytes 20 fits;
        each = rs.fits;
        reads = digest-fits left rs.rest;
        writes = digest-fits second second_fits;
      };
      rest = drop-bytes 256 left rs.rest;
    })

pub shard-read : (s : Shard) (h : Header) (output : List ℕ) (i : ℕ) (p : Place) (rest : List ℕ) → HeadFits s.head → ShardFits h i s
    → shard_in h output i p (shard_bytes s ++ rest) ≡ Ok (record { part = s; place = p; left = rest })
unfolding read_shard shard_bytes
shard-read s h output i p rest head-fits fits =
    let n = shard_rows h.size h.steps i in
    let writes = set_digest_bytes s.writes ++ rest in
    let after = set_digest_bytes s.reads ++ writes in
    let tail = flat_map row_bytes s.rows ++ after in
    let bytes = head_bytes s.head ++ tail in
    let regrouped : shard_bytes s ++ rest ≡ bytes = sym (join (head_bytes s.head) (flat_map row_bytes s.rows) (set_digest_bytes s.reads) (set_digest_bytes s.writes) rest) in
    let head-is : head_of bytes ≡ s.head = head-again s.head tail head-fits in
    let long : 32 ≤ length bytes = omega (arith, length-append (head_bytes s.head) tail, length-head_bytes s.head) in
    let tail_is : drop 32 bytes ≡ tail = drop_at (head_bytes s.head) tail 32 (length-head_bytes s.head) in
    let index_holds = eq-eqb (head_of bytes).index i (ap (λ (k : ShardHead). k.index) head-is ∙ fits.index) in
    let rows_hold = eq-eqb (head_of bytes).rows n (ap (λ (k : ShardHead). k.rows) head-is ∙ fits.rows) in
    let agree : agrees i n (head_of bytes) ≡ true = and_from (eqb (head_of bytes).index i && eqb (head_of bytes).rows n) true (and_from (eqb (head_of bytes).index i) (eqb (head_of bytes).rows n) index_holds rows_hold) refl in
    let begun : begins i n bytes ≡ Ok tail =
    unless-holds i 0 ((1, leb 32 (length bytes)) ∷ (9, agrees i n (head_of bytes)) ∷ []) (drop 32 bytes)
    (hold (1, leb 32 (length bytes)) ((9, agrees i n (head_of bytes)) ∷ []) (le-leb 32 (length bytes) long) (hold (9, agrees i n (head_of bytes)) [] agree refl))
    ∙ (λ t. Ok (tail_is t)) in
    let rows : Reading (List Row) = record { part = s.rows; place = p; left = after } in
    let rows_are : rows_in n h output i 0 p tail ≡ Ok rows = ap (λ k. rows_in k h output i 0 p tail) (sym (fits.count ∙ fits.rows)) ∙ rows-read s.rows h output i 0 p after fits.each in
    let reads_size = length-digest_bytes s.reads fits.reads in
    let writes_size = length-digest_bytes s.writes fits.writes in
    let second_is : drop 128 after ≡ writes = drop_at (set_digest_bytes s.reads) writes 128 reads_size in
    let left_is : drop 256 after ≡ rest = sym (drop-drop 128 128 after) ∙ ap (λ (xs : List ℕ). drop 128 xs) second_is ∙ drop_at (set_digest_bytes s.writes) rest 128 writes_size in
    let room : 256 ≤ length after = omega (arith, length-append (set_digest_bytes s.reads) writes, length-append (set_digest_bytes s.writes) rest, reads_size, writes_size) in
    let size_holds = eq-eqb (rows_length s.rows) (head_of bytes).bytes (sym (ap (λ (k : ShardHead). k.bytes) head-is ∙ fits.bytes)) in
    let reads_are : digest_of after ≡ s.reads = digest-again s.reads writes fits.reads in
    let writes_are : digest_of (drop 128 after) ≡ s.writes = ap digest_of second_is ∙ digest-again s.writes rest fits.writes in
    let ended : ends i n (head_of bytes) rows ≡ Ok (record { part = s; place = p; left = rest }) =
    unless-holds i n ((20, eqb (rows_length s.rows) (head_of bytes).bytes) ∷ (1, leb 256 (length after)) ∷ (21, true) ∷ []) (made (head_of bytes) rows)
    (hold (20, eqb (rows_length s.rows) (head_of bytes).bytes) ((1, leb 256 (length after)) ∷ (21, true) ∷ []) size_holds (hold (1, leb 256 (length after)) ((21, true) ∷ []) (le-leb 256 (length after) room) refl))
    ∙ (λ t. Ok (record { part = record { head = head-is t; rows = s.rows; reads = reads_are t; writes = writes_are t }; place = p; left = left_is t })) in
    let next : List ℕ → Result (Reading Shard) Refusal = λ xs. rows_in n h output i 0 p xs >>= ends i n (head_of bytes) in
    ap (λ xs. shard_in h output i p xs) regrouped
    ∙ ap (λ r. r >>= next) begun
    ∙ ap (λ r. r >>= ends i n (head_of bytes)) rows_are
    ∙ ended

-- ---- shards

pub record ShardsTaken (n : ℕ) (h : Header) (i : ℕ) (bytes : List ℕ) (x : Reading (List Shard)) : Type 0 where
  pub spelled : bytes ≡ flat_map shard_bytes x.part ++ x.left
  pub fits : ShardsFit h i x.part
  pub count : length x.part ≡ n
  pub rest : AreBytes x.left

abbrev pub with_shard : Reading Shard → Reading (List Shard) → Reading (List Shard)
with_shard first others = record { part = first.part ∷ others.part; place = others.place; left = others.left }

pub shards-taken : (n : ℕ) (h : Header) (output : List ℕ) (i : ℕ) (p : Place) (bytes : List ℕ) (x : Reading (List Shard)) → AreBytes bytes → shards_in n h output i p bytes ≡ Ok x → ShardsTaken n h i bytes x
unfolding read_shards
shards-taken zero h output i p bytes x fits e =
    let none : Reading (List Shard) = record { part = []; place = p; left = bytes } in
    subst (λ (y : Reading (List Shard)). ShardsTaken zero h i bytes y) (ok-is none x e) (record { spelled = refl; fits = tt; count = refl; rest = fits })
shards-taken (suc n) h output i p bytes x fits e =
    let a = bind-ok (shard_in h output i p bytes) (λ first. shards_in n h output (i + 1) first.place first.left >>= λ others. Ok (with_shard first others)) x e in
    let one = shard-taken h output i p bytes a.0 fits a.1 in
    let b = bind-ok (shards_in n h output (i + 1) a.0.place a.0.left) (λ others. Ok (with_shard a.0 others)) x a.2 in
    let more = shards-taken n h output (i + 1) a.0.place a.0.left b.0 one.rest b.1 in
    subst (λ (y : Reading (List Shard)). ShardsTaken (suc n) h i bytes y) (ok-is (with_shard a.0 b.0) x b.2) (record {
      spelled =
          one.spelled ∙ ap (λ (xs : List ℕ). shard_bytes a.0.part ++ xs) more.spelled
          ∙ sym (append_assoc (shard_bytes a.0.part) (flat_map shard_bytes b.0.part) b.0.left);
      fits = (one.fits, more.fits);
      count = ap suc more.count;
      rest = more.rest;
    })

-- rows of a shard take few enough bytes that a head can state them
rows-length-most : (rs : List Row) → AllByRecursion RowFits rs → rows_length rs ≤ 177 * length rs
rows-length-most [] fits = omega arith
rows-length-most (r ∷ rs) fits = omega (arith, rows-length-most rs fits.1, fits.0.count.1)

pub head-fits : (h : Header) (i : ℕ) (s : Shard) → h.size ≤ 65536 → i < 2 ^ 32 → ShardFits h i s → HeadFits s.head
head-fits h i s small within fits =
    let most = rows-length-most s.rows fits.each in
    record {
      index = omega (arith, fits.index);
      rows = omega (arith, fits.rows);
      pc = fits.pc;
      input = fits.input;
      output = fits.output;
      bytes = omega (arith, fits.bytes, fits.count, fits.rows);
    }

pub shards-read : (ss : List Shard) (h : Header) (output : List ℕ) (i : ℕ) (p : Place) (rest : List ℕ) → h.size ≤ 65536 → i + length ss ≤ 65536 → ShardsFit h i ss
    → shards_in (length ss) h output i p (flat_map shard_bytes ss ++ rest) ≡ Ok (record { part = ss; place = p; left = rest })
unfolding read_shards
shards-read [] h output i p rest small within fits = refl
shards-read (s ∷ ss) h output i p rest small within fits =
    let first = shard-read s h output i p (flat_map shard_bytes ss ++ rest) (head-fits h i s small (omega arith) fits.0) fits.0 in
    let others = shards-read ss h output (i + 1) p rest small (omega arith) fits.1 in
    ap (λ bytes. shards_in (suc (length ss)) h output i p bytes) (append_assoc (shard_bytes s) (flat_map shard_bytes ss) rest)
    ∙ rw (first, others) refl
