-- Where the parts of a file of good form lie.
use Rattle.std.proofs.Common.{◌≡◌, ℕ, zero, suc, ◌+◌, ◌-◌, ◌*◌, ◌^◌, ◌<◌, ◌≤◌, List, [], ◌∷◌, ◌++◌, length, take, drop, Some, None, refl, sym, ap, subst, ◌∙◌, append_assoc, arith}
use Rattle.std.specs.Prelude.{slice_get, option_map}
use Rattle.std.specs.Int.{w32, to_le_bytes}
use Rattle.std.specs.List.{flat_map, AllByRecursion}
use Rattle.std.proofs.lemmas.List.{length-append, take_at, drop_at, drop-drop}
use Rattle.rv_base.specs.declared.record.Header.{Header}
use Rattle.rv_base.specs.declared.record.ShardHead.{ShardHead}
use Rattle.rv_base.specs.declared.record.TableEntry.{TableEntry}
use Rattle.rv_spec.specs.Digest.{set_digest_bytes}
use Rattle.rv_spec.specs.Record.{Shard, Parts, header_bytes, head_bytes, row_bytes, shard_bytes, entry_bytes, table_bytes, file_bytes}
use Rattle.rv_spec.specs.Grammar.{ShardFits, ShardsFit, EntryFits, Spells}
use Rattle.rv_rules.specs.Reading.{head_of, entry_of}
use Rattle.rv_file.specs.Parsing.{parts_of, RepresentsFile, behind_shards, HoldsShards}
use Rattle.rv_file.proofs.Cells.{length-digest_bytes}
use Rattle.rv_file.proofs.RowLists.{length-rows}
use Rattle.rv_file.proofs.ShardLaws.{HeadFits, head-fits, head-again, length-head_bytes}
use Rattle.rv_file.proofs.EntryLaws.{entry-again, length-entry_bytes, length-entries}
use Rattle.rv_file.proofs.HeaderLaws.{length-header_bytes}

-- ---- the element at a place of a list

pub record IsAt {A : Type 0} (P : A → Type 0) (xs : List A) (i : ℕ) (x : A) (rest : List A) : Type 0 where
  pub behind : drop i xs ≡ x ∷ rest
  pub found : slice_get xs i ≡ Some x
  pub holds : P x

pub at-place : {A : Type 0} (P : A → Type 0) (xs : List A) (i : ℕ) → i < length xs → AllByRecursion P xs → (x : A) × (rest : List A) × IsAt P xs i x rest
at-place P [] i lt all = absurd (omega arith)
at-place P (x ∷ xs) zero lt all = (x, xs, record { behind = refl; found = refl; holds = all.0 })
at-place P (x ∷ xs) (suc i) lt all =
    let more = at-place P xs i (omega arith) all.1 in
    (more.0, more.1, record { behind = more.2.behind; found = more.2.found; holds = more.2.holds })

-- ---- the parts' bytes, one after another

joined : (a b c d : List ℕ) → ((a ++ b) ++ c) ++ d ≡ a ++ (b ++ (c ++ d))
joined a b c d = simp append_assoc

pub body-is : (p : Parts) (file : List ℕ) → Spells p file → drop 173 file ≡ p.output ++ (flat_map shard_bytes p.shards ++ table_bytes p.table)
unfolding file_bytes
body-is p file spells =
    let h = header_bytes p.header in
    let rest = p.output ++ (flat_map shard_bytes p.shards ++ table_bytes p.table) in
    ap (λ (xs : List ℕ). drop 173 xs) (spells.is ∙ joined h p.output (flat_map shard_bytes p.shards) (table_bytes p.table))
    ∙ drop_at h rest 173 (length-header_bytes p.header spells.fit.header)

pub output-is : (p : Parts) (file : List ℕ) → Spells p file → take p.header.length (drop 173 file) ≡ p.output
output-is p file spells =
    ap (λ (xs : List ℕ). take p.header.length xs) (body-is p file spells)
    ∙ take_at p.output (flat_map shard_bytes p.shards ++ table_bytes p.table) p.header.length spells.fit.output.0

pub shards-are : (p : Parts) (file : List ℕ) → Spells p file → drop (173 + p.header.length) file ≡ flat_map shard_bytes p.shards ++ table_bytes p.table
shards-are p file spells =
    sym (drop-drop p.header.length 173 file)
    ∙ ap (λ (xs : List ℕ). drop p.header.length xs) (body-is p file spells)
    ∙ drop_at p.output (flat_map shard_bytes p.shards ++ table_bytes p.table) p.header.length spells.fit.output.0

-- ---- entries

drop-entries : (j : ℕ) (es : List TableEntry) → j ≤ length es → drop (16 * j) (flat_map entry_bytes es) ≡ flat_map entry_bytes (drop j es)
drop-entries zero es le = refl
drop-entries (suc j) [] le = absurd (omega arith)
drop-entries (suc j) (e ∷ es) le =
    let behind = flat_map entry_bytes es in
    ap (λ n. drop n (entry_bytes e ++ behind)) (omega arith)
    ∙ sym (drop-drop (16 * j) 16 (entry_bytes e ++ behind))
    ∙ ap (λ (xs : List ℕ). drop (16 * j) xs) (drop_at (entry_bytes e) behind 16 (length-entry_bytes e))
    ∙ drop-entries j es (omega arith)

drop-behind : (front behind : List ℕ) (n k : ℕ) → length front + k ≡ n → drop n (front ++ behind) ≡ drop k behind
drop-behind front behind n k e =
    ap (λ m. drop m (front ++ behind)) (sym e) ∙ sym (drop-drop k (length front) (front ++ behind)) ∙ ap (λ (xs : List ℕ). drop k xs) (drop_at front behind (length front) refl)

pub entries-at : (p : Parts) (file : List ℕ) (j : ℕ) → Spells p file → j ≤ length p.table → drop (length file - 16 * (length p.table - j)) file ≡ flat_map entry_bytes (drop j p.table)
unfolding file_bytes table_bytes
entries-at p file j spells le =
    let all = flat_map entry_bytes p.table in
    let before = header_bytes p.header ++ p.output ++ flat_map shard_bytes p.shards in
    let front = before ++ to_le_bytes w32 (length p.table) in
    let is : file ≡ front ++ all = spells.is ∙ sym (append_assoc before (to_le_bytes w32 (length p.table)) all) in
    let long : length file ≡ length front + 16 * length p.table = ap length is ∙ length-append front all ∙ ap (λ n. length front + n) (length-entries p.table) in
    ap (λ (xs : List ℕ). drop (length file - 16 * (length p.table - j)) xs) is
    ∙ drop-behind front all (length file - 16 * (length p.table - j)) (16 * j) (omega (arith, long))
    ∙ drop-entries j p.table le

pub entry-shown : (p : Parts) (file : List ℕ) (j : ℕ) → Spells p file → j < length p.table
    → slice_get p.table j ≡ Some (entry_of (drop (length file - 16 * (length p.table - j)) file))
entry-shown p file j spells lt =
    let here = at-place (EntryFits p.header.version) p.table j lt spells.fit.entries in
    let behind : drop (length file - 16 * (length p.table - j)) file ≡ entry_bytes here.0 ++ flat_map entry_bytes here.1 =
    entries-at p file j spells (omega arith) ∙ ap (λ es. flat_map entry_bytes es) here.2.behind in
    here.2.found ∙ (λ t. Some (sym (ap entry_of behind ∙ entry-again p.header.version here.0 (flat_map entry_bytes here.1) here.2.holds) t))

pub entries-room : (p : Parts) (file : List ℕ) → Spells p file → 16 * length p.table ≤ length file
unfolding file_bytes table_bytes
entries-room p file spells =
    let all = flat_map entry_bytes p.table in
    let before = header_bytes p.header ++ p.output ++ flat_map shard_bytes p.shards in
    omega (arith, ap length spells.is, length-append before (to_le_bytes w32 (length p.table) ++ all), length-append (to_le_bytes w32 (length p.table)) all, length-entries p.table)

-- ---- shards

pub record IsShard (s : Shard) : Type 0 where
  pub head : HeadFits s.head
  pub size : length (shard_bytes s) ≡ 288 + s.head.bytes

pub is-shard : (h : Header) (i : ℕ) (s : Shard) → h.size ≤ 65536 → i < 2 ^ 32 → ShardFits h i s → IsShard s
unfolding shard_bytes
is-shard h i s small within fits =
    let head = head_bytes s.head in
    let rows = flat_map row_bytes s.rows in
    record {
      head = head-fits h i s small within fits;
      size =
          length-append (head ++ rows ++ set_digest_bytes s.reads) (set_digest_bytes s.writes)
          ∙ omega (
            arith,
            length-append (head ++ rows) (set_digest_bytes s.reads),
            length-append head rows,
            length-head_bytes s.head,
            length-rows s.rows,
            length-digest_bytes s.reads fits.reads,
            length-digest_bytes s.writes fits.writes,
            fits.bytes,
          );
    }

-- every shard of a file of good form
pub are-shards : (h : Header) (i : ℕ) (ss : List Shard) → h.size ≤ 65536 → i + length ss ≤ 65536 → ShardsFit h i ss → AllByRecursion IsShard ss
are-shards h i [] small within fits = tt
are-shards h i (s ∷ ss) small within fits = (is-shard h i s small (omega arith) fits.0, are-shards h (i + 1) ss small (omega arith) fits.1)

pub first-head : (s : Shard) (rest : List ℕ) → IsShard s → head_of (shard_bytes s ++ rest) ≡ s.head
unfolding shard_bytes
first-head s rest is =
    let rows = flat_map row_bytes s.rows in
    let digests = set_digest_bytes s.reads ++ (set_digest_bytes s.writes ++ rest) in
    ap head_of (append_assoc (head_bytes s.head ++ rows ++ set_digest_bytes s.reads) (set_digest_bytes s.writes) rest ∙ joined (head_bytes s.head) rows (set_digest_bytes s.reads) (set_digest_bytes s.writes ++ rest))
    ∙ head-again s.head (rows ++ digests) is.head

pub walks : (i : ℕ) (ss : List Shard) (tail : List ℕ) → i ≤ length ss → AllByRecursion IsShard ss
    → HoldsShards i (flat_map shard_bytes ss ++ tail) × (behind_shards i (flat_map shard_bytes ss ++ tail) ≡ flat_map shard_bytes (drop i ss) ++ tail)
unfolding HoldsShards behind_shards
walks zero ss tail le all = (tt, refl)
walks (suc i) [] tail le all = absurd (omega arith)
walks (suc i) (s ∷ ss) tail le all =
    let rest = flat_map shard_bytes ss ++ tail in
    let whole = shard_bytes s ++ flat_map shard_bytes ss ++ tail in
    let regrouped : whole ≡ shard_bytes s ++ rest = append_assoc (shard_bytes s) (flat_map shard_bytes ss) tail in
    let head : head_of whole ≡ s.head = ap head_of regrouped ∙ first-head s rest all.0 in
    let size : length (shard_bytes s) ≡ 288 + (head_of whole).bytes = all.0.size ∙ ap (λ (k : ShardHead). 288 + k.bytes) (sym head) in
    let next : drop (288 + (head_of whole).bytes) whole ≡ rest = ap (λ (xs : List ℕ). drop (288 + (head_of whole).bytes) xs) regrouped ∙ drop_at (shard_bytes s) rest (288 + (head_of whole).bytes) size in
    let more = walks i ss tail (omega arith) all.1 in (
      (omega (arith, ap length regrouped, length-append (shard_bytes s) rest, size), subst (λ (xs : List ℕ). HoldsShards i xs) (sym next) more.0),
      ap (λ (xs : List ℕ). behind_shards i xs) next ∙ more.1,
    )

-- shard i at the front of what lies behind the shards before it
pub record ShardAt (p : Parts) (start rest : List ℕ) (i : ℕ) : Type 0 where
  pub holds : HoldsShards i start
  pub room : 288 + (head_of rest).bytes ≤ length rest
  pub shown : option_map shard_bytes (slice_get p.shards i) ≡ Some (take (288 + (head_of rest).bytes) rest)

shard-at : (p : Parts) (file start rest : List ℕ) (i : ℕ) → Spells p file → i < p.header.shards → start ≡ drop (173 + p.header.length) file → rest ≡ behind_shards i start → ShardAt p start rest i
shard-at p file start rest i spells lt from behind =
    let fit = spells.fit in
    let all = are-shards p.header 0 p.shards fit.header.size.1 (omega (arith, fit.count, fit.header.shards_within)) fit.shards in
    let tail = table_bytes p.table in
    let is : start ≡ flat_map shard_bytes p.shards ++ tail = from ∙ shards-are p file spells in
    let walk = walks i p.shards tail (omega (arith, fit.count)) all in
    let here = at-place IsShard p.shards i (omega (arith, fit.count)) all in
    let s = here.0 in
    let others = flat_map shard_bytes here.1 ++ tail in
    let rest_is : rest ≡ shard_bytes s ++ others =
    behind ∙ ap (λ (xs : List ℕ). behind_shards i xs) is ∙ walk.1 ∙ ap (λ (ss : List Shard). flat_map shard_bytes ss ++ tail) here.2.behind ∙ append_assoc (shard_bytes s) (flat_map shard_bytes here.1) tail in
    let head : head_of rest ≡ s.head = ap head_of rest_is ∙ first-head s others here.2.holds in
    let size : length (shard_bytes s) ≡ 288 + (head_of rest).bytes = here.2.holds.size ∙ ap (λ (k : ShardHead). 288 + k.bytes) (sym head) in
    let taken : take (288 + (head_of rest).bytes) rest ≡ shard_bytes s = ap (λ (xs : List ℕ). take (288 + (head_of rest).bytes) xs) rest_is ∙ take_at (shard_bytes s) others (288 + (head_of rest).bytes) size in
    record {
      holds = subst (λ (xs : List ℕ). HoldsShards i xs) (sym is) walk.0;
      room = omega (arith, ap length rest_is, length-append (shard_bytes s) others, size);
      shown = ap (λ o. option_map shard_bytes o) here.2.found ∙ (λ t. Some (sym taken t));
    }

-- ---- what a file of good form shows

pub same-header : (file : List ℕ) (h : Header) (n : ℕ) → RepresentsFile file h n → h.length ≡ (parts_of file).header.length
same-header file h n shows = ap (λ (k : Header). k.length) shows.header

pub output-room : (file : List ℕ) (h : Header) (n : ℕ) → RepresentsFile file h n → 173 + h.length ≤ length file
unfolding file_bytes
output-room file h n shows =
    let p = parts_of file in
    let front = header_bytes p.header in
    omega (
      arith,
      ap length shows.spells.is,
      length-append (front ++ p.output ++ flat_map shard_bytes p.shards) (table_bytes p.table),
      length-append (front ++ p.output) (flat_map shard_bytes p.shards),
      length-append front p.output,
      length-header_bytes p.header shows.spells.fit.header,
      shows.spells.fit.output.0,
      same-header file h n shows,
    )

pub output-shown : (file : List ℕ) (h : Header) (n : ℕ) → RepresentsFile file h n → take h.length (drop 173 file) ≡ (parts_of file).output
output-shown file h n shows = ap (λ k. take k (drop 173 file)) (same-header file h n shows) ∙ output-is (parts_of file) file shows.spells

pub body-shown : (file : List ℕ) (h : Header) (n : ℕ) → RepresentsFile file h n
    → drop (173 + h.length) file ≡ flat_map shard_bytes (parts_of file).shards ++ table_bytes (parts_of file).table
body-shown file h n shows = ap (λ k. drop (173 + k) file) (same-header file h n shows) ∙ shards-are (parts_of file) file shows.spells

-- entry j lies this far before the end
pub entry-is : (file : List ℕ) (h : Header) (n j : ℕ) → RepresentsFile file h n → j < n → slice_get (parts_of file).table j ≡ Some (entry_of (drop (length file - 16 * (n - j)) file))
entry-is file h n j shows lt =
    entry-shown (parts_of file) file j shows.spells (omega (arith, shows.count))
    ∙ ap (λ m. Some (entry_of (drop (length file - 16 * (m - j)) file))) (sym shows.count)

pub entry-room : (file : List ℕ) (h : Header) (n : ℕ) → RepresentsFile file h n → 16 * n ≤ length file
entry-room file h n shows = omega (arith, entries-room (parts_of file) file shows.spells, shows.count)

pub past-end : {A : Type 0} (xs : List A) (i : ℕ) → length xs ≤ i → slice_get xs i ≡ None
past-end [] i le = refl
past-end (x ∷ xs) zero le = absurd (omega arith)
past-end (x ∷ xs) (suc i) le = past-end xs i (omega arith)

pub shard-is : (file : List ℕ) (h : Header) (n i : ℕ) (start rest : List ℕ) → RepresentsFile file h n → i < h.shards → start ≡ drop (173 + h.length) file → rest ≡ behind_shards i start → ShardAt (parts_of file) start rest i
shard-is file h n i start rest shows lt from behind =
    shard-at (parts_of file) file start rest i shows.spells (omega (arith, ap (λ (k : Header). k.shards) shows.header)) (from ∙ ap (λ k. drop (173 + k) file) (same-header file h n shows)) behind

no-shard-at : {A B : Type 0} (f : A → B) (xs : List A) (i : ℕ) → length xs ≤ i → option_map f (slice_get xs i) ≡ None
no-shard-at f xs i le = ap (λ o. option_map f o) (past-end xs i le)

pub no-shard : (file : List ℕ) (h : Header) (n i : ℕ) → RepresentsFile file h n → h.shards ≤ i → option_map shard_bytes (slice_get (parts_of file).shards i) ≡ None
no-shard file h n i shows le = no-shard-at shard_bytes (parts_of file).shards i (omega (arith, shows.spells.fit.count, ap (λ (k : Header). k.shards) shows.header))

pub no-entry : (file : List ℕ) (h : Header) (n j : ℕ) → RepresentsFile file h n → n ≤ j → slice_get (parts_of file).table j ≡ None
no-entry file h n j shows le = past-end (parts_of file).table j (omega (arith, shows.count))

pub few-entries : (file : List ℕ) (h : Header) (n : ℕ) → RepresentsFile file h n → n < 2 ^ 32
few-entries file h n shows = omega (arith, shows.count, shows.spells.fit.table)

-- ---- steps over shards

pub holds-one : (n k : ℕ) (bytes : List ℕ) → k < n → HoldsShards (n - k) bytes → (288 + (head_of bytes).bytes ≤ length bytes) × HoldsShards (n - (k + 1)) (drop (288 + (head_of bytes).bytes) bytes)
unfolding HoldsShards
holds-one n k bytes lt holds =
    let one-less : n - k ≡ suc (n - (k + 1)) = omega arith in
    subst (λ m. HoldsShards m bytes) one-less holds

pub behind-one : (n k : ℕ) (bytes : List ℕ) → k < n → behind_shards (n - (k + 1)) (drop (288 + (head_of bytes).bytes) bytes) ≡ behind_shards (n - k) bytes
unfolding behind_shards
behind-one n k bytes lt =
    let one-less : n - k ≡ suc (n - (k + 1)) = omega arith in
    sym (ap (λ m. behind_shards m bytes) one-less)

pub behind-none : (n k : ℕ) (bytes : List ℕ) → n ≤ k → behind_shards (n - k) bytes ≡ bytes
unfolding behind_shards
behind-none n k bytes le =
    let none : n - k ≡ 0 = omega arith in
    ap (λ m. behind_shards m bytes) none
