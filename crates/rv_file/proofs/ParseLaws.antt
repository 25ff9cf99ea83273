-- Parsing by what is left behind each part: the same answer.
use Rattle.std.proofs.Common.{◌≡◌, ℕ, zero, suc, ◌+◌, ◌-◌, ◌*◌, Bool, true, false, ◌&&◌, List, [], ◌∷◌, length, take, drop, Option, Some, None, Result, Ok, Err, refl, sym, ap, subst, ◌∙◌, arith}
use Rattle.std.specs.Prelude.{nat_le, ◌==◌, slice_index}
use Rattle.std.specs.List.{flat_map}
use Rattle.std.proofs.lemmas.List.{length-append, drop-drop}
use Rattle.rv_base.specs.declared.record.Header.{Header}
use Rattle.rv_base.specs.declared.record.Place.{Place}
use Rattle.rv_base.specs.declared.record.Refusal.{Refusal}
use Rattle.rv_base.specs.declared.record.ShardHead.{ShardHead}
use Rattle.rv_base.specs.declared.record.TableEntry.{TableEntry}
use Rattle.rv_spec.specs.Trace.{Row}
use Rattle.rv_spec.specs.Words.{u32_at, AreBytes}
use Rattle.rv_rules.specs.Sums.{tiny_lanes}
use Rattle.rv_spec.specs.Record.{Shard, Parts, row_bytes, rows_length, shard_rows}
use Rattle.rv_rules.specs.Reading.{Reading, header_of, head_of, row_of, row_form, read_row, read_rows, read_shard, read_shards, read_entry, read_entries, first_place}
use Rattle.rv_rules.specs.Checks.{first_broken, refused_by, unless_broken, ◌>>=◌}
use Rattle.rv_rules.specs.Verdict.{parse}
use Rattle.rv_rules.proofs.Lemmas.{drop-bytes, and-true}
use Rattle.rv_file.specs.Skipping.{row_left, rows_left, digests_left, shard_left, shards_left, entries_left, form_left}
use Rattle.rv_spec.specs.Grammar.{Spells}
use Rattle.rv_file.specs.Parsing.{parts_or_none, parts_of, RepresentsFile}
use Rattle.rv_file.proofs.Steps.{ok-is}
use Rattle.rv_file.proofs.RowLists.{row_in, rows_in, with_row, rows-taken, length-rows}
use Rattle.rv_file.proofs.ShardLaws.{shard_in, shards_in, agrees, made, ends, with_shard, shard-taken, shards-taken}
use Rattle.rv_file.proofs.EntryLaws.{entries-taken}
use Rattle.rv_file.proofs.FileLaws.{all_checks, after_header, after_shards, after_count, ends_parse, parse-is, is-spelled, is-parsed}

-- the bytes left of what was read
abbrev left_of : {A : Type 0} → Result (Reading A) Refusal → Result (List ℕ) Refusal
left_of (Ok x) = Ok x.left
left_of (Err e) = Err e

left-bind : {A B : Type 0} (r : Result (Reading A) Refusal) (f : Reading A → Result (Reading B) Refusal) (g : List ℕ → Result (List ℕ) Refusal) → ((x : Reading A) → left_of (f x) ≡ g x.left) → left_of (r >>= f) ≡ (left_of r >>= g)
left-bind (Ok x) f g same = same x
left-bind (Err e) f g same = refl

-- putting a part in front of others leaves the same bytes
left-with : {A B : Type 0} (r : Result (Reading A) Refusal) (f : Reading A → Reading B) → ((x : Reading A) → (f x).left ≡ x.left) → left_of (r >>= λ x. Ok (f x)) ≡ left_of r
left-with (Ok x) f same = λ i. Ok (same x i)
left-with (Err e) f same = refl

left-refused : {A : Type 0} (i r : ℕ) (o : Option ℕ) (a : Reading A) → left_of (refused_by i r o a) ≡ refused_by i r o a.left
left-refused i r None a = refl
left-refused i r (Some rule) a = refl

-- ---- rows

row-left-is : (h : Header) (output : List ℕ) (i r : ℕ) (p : Place) (bytes : List ℕ) → left_of (row_in h output i r p bytes) ≡ row_left i r bytes
unfolding read_row
row-left-is h output i r p bytes = left-refused i r (first_broken (row_form bytes)) (record { part = row_of bytes; place = p; left = drop (9 + 21 * slice_index bytes 8) bytes })

rows-left-is : (n : ℕ) (h : Header) (output : List ℕ) (i r : ℕ) (p : Place) (bytes : List ℕ) → left_of (rows_in n h output i r p bytes) ≡ rows_left n i r bytes
unfolding read_rows rows_left
rows-left-is zero h output i r p bytes = refl
rows-left-is (suc n) h output i r p bytes =
    left-bind (row_in h output i r p bytes) (λ first. rows_in n h output i (r + 1) first.place first.left >>= λ others. Ok (with_row first others)) (λ left. rows_left n i (r + 1) left)
    (λ first. left-with (rows_in n h output i (r + 1) first.place first.left) (λ others. with_row first others) (λ x. refl) ∙ rows-left-is n h output i (r + 1) first.place first.left)
    ∙ ap (λ (x : Result (List ℕ) Refusal). x >>= λ left. rows_left n i (r + 1) left) (row-left-is h output i r p bytes)

-- ---- a shard

last-holds : (a b : Bool) → first_broken ((20, a) ∷ (1, b) ∷ (21, true) ∷ []) ≡ first_broken ((20, a) ∷ (1, b) ∷ [])
last-holds true true = refl
last-holds true false = refl
last-holds false b = refl

ends-left : (n : ℕ) (h : Header) (output : List ℕ) (i : ℕ) (p : Place) (next : List ℕ) (head : ShardHead) (r : Result (Reading (List Row)) Refusal) → AreBytes next → rows_in n h output i 0 p next ≡ r
    → left_of (r >>= ends i n head) ≡ (left_of r >>= λ left. digests_left i n head (length next - length left) left)
ends-left n h output i p next head (Ok x) fits e =
    let taken = rows-taken n h output i 0 p next x fits e in
    let size : rows_length x.part ≡ length next - length x.left =
    omega (arith, ap length taken.spelled, length-append (flat_map row_bytes x.part) x.left, length-rows x.part) in
    let a = rows_length x.part == head.bytes in
    let b = nat_le 256 (length x.left) in
    left-refused i n (first_broken ((20, a) ∷ (1, b) ∷ (21, true) ∷ [])) (made head x)
    ∙ ap (λ o. refused_by i n o (drop 256 x.left)) (last-holds a b)
    ∙ ap (λ k. digests_left i n head k x.left) size
ends-left n h output i p next head (Err f) fits e = refl

head-then : {A : Type 0} (i : ℕ) (o : Option ℕ) (next : List ℕ) (f : List ℕ → Result (Reading A) Refusal) (g : List ℕ → Result (List ℕ) Refusal) → left_of (f next) ≡ g next
    → left_of (refused_by i 0 o next >>= f) ≡ (refused_by i 0 o next >>= g)
head-then i None next f g same = same
head-then i (Some rule) next f g same = refl

pub shard-left-is : (h : Header) (output : List ℕ) (i : ℕ) (p : Place) (bytes : List ℕ) → AreBytes bytes → left_of (shard_in h output i p bytes) ≡ shard_left h i bytes
unfolding read_shard shard_left
shard-left-is h output i p bytes fits =
    let n = shard_rows h.size h.steps i in
    let head = head_of bytes in
    let next = drop 32 bytes in
    let f : List ℕ → Result (Reading Shard) Refusal = λ xs. rows_in n h output i 0 p xs >>= ends i n head in
    let g : List ℕ → Result (List ℕ) Refusal = λ xs. rows_left n i 0 xs >>= λ left. digests_left i n head (length xs - length left) left in
    let there = nat_le 32 (length bytes) in
    let same : left_of (f next) ≡ g next =
    ends-left n h output i p next head (rows_in n h output i 0 p next) (drop-bytes 32 bytes fits) refl
    ∙ ap (λ (x : Result (List ℕ) Refusal). x >>= λ left. digests_left i n head (length next - length left) left) (rows-left-is n h output i 0 p next) in
    head-then i (first_broken ((1, there) ∷ (9, agrees i n head) ∷ [])) next f g same
    ∙ ap (λ b. unless_broken i 0 ((1, there) ∷ (9, b) ∷ []) next >>= g) (and-true (head.index == i && head.rows == n))

-- ---- shards

shards-step : (n : ℕ) (h : Header) (output : List ℕ) (i : ℕ) (p : Place) (bytes : List ℕ) (r : Result (Reading Shard) Refusal) → AreBytes bytes → shard_in h output i p bytes ≡ r
    → ((q : Place) (xs : List ℕ) → AreBytes xs → left_of (shards_in n h output (i + 1) q xs) ≡ shards_left n h (i + 1) xs)
    → left_of (r >>= λ first. shards_in n h output (i + 1) first.place first.left >>= λ others. Ok (with_shard first others)) ≡ (left_of r >>= λ left. shards_left n h (i + 1) left)
shards-step n h output i p bytes (Ok x) fits e more =
    left-with (shards_in n h output (i + 1) x.place x.left) (λ others. with_shard x others) (λ y. refl)
    ∙ more x.place x.left (shard-taken h output i p bytes x fits e).rest
shards-step n h output i p bytes (Err f) fits e more = refl

shards-left-is : (n : ℕ) (h : Header) (output : List ℕ) (i : ℕ) (p : Place) (bytes : List ℕ) → AreBytes bytes → left_of (shards_in n h output i p bytes) ≡ shards_left n h i bytes
unfolding read_shards shards_left
shards-left-is zero h output i p bytes fits = refl
shards-left-is (suc n) h output i p bytes fits =
    shards-step n h output i p bytes (shard_in h output i p bytes) fits refl (λ q xs k. shards-left-is n h output (i + 1) q xs k)
    ∙ ap (λ (x : Result (List ℕ) Refusal). x >>= λ left. shards_left n h (i + 1) left) (shard-left-is h output i p bytes fits)

-- ---- entries

abbrev rest_of : Result (List TableEntry × List ℕ) Refusal → Result (List ℕ) Refusal
rest_of (Ok x) = Ok x.1
rest_of (Err e) = Err e

rest-with : (e : TableEntry) (r : Result (List TableEntry × List ℕ) Refusal) → rest_of (r >>= λ o. Ok (e ∷ o.0, o.1)) ≡ rest_of r
rest-with e (Ok x) = refl
rest-with e (Err f) = refl

entries-step : (n : ℕ) (h : Header) (j : ℕ) (r : Result (TableEntry × List ℕ) Refusal) → ((b : Option ℕ) (xs : List ℕ) → rest_of (read_entries n h (j + 1) b xs) ≡ entries_left n h (j + 1) b xs)
    → rest_of (r >>= λ f. read_entries n h (j + 1) (Some (f.0).cell) f.1 >>= λ o. Ok (f.0 ∷ o.0, o.1)) ≡ (r >>= λ f. entries_left n h (j + 1) (Some (f.0).cell) f.1)
entries-step n h j (Ok x) more = rest-with x.0 (read_entries n h (j + 1) (Some (x.0).cell) x.1) ∙ more (Some (x.0).cell) x.1
entries-step n h j (Err f) more = refl

entries-left-is : (n : ℕ) (h : Header) (j : ℕ) (before : Option ℕ) (bytes : List ℕ) → rest_of (read_entries n h j before bytes) ≡ entries_left n h j before bytes
unfolding read_entries entries_left
entries-left-is zero h j before bytes = refl
entries-left-is (suc n) h j before bytes = entries-step n h j (read_entry h j before bytes) (λ b xs. entries-left-is n h (j + 1) b xs)

-- ---- the whole file

-- the header and the number of entries, of parts that were read
abbrev pub summary : Result Parts Refusal → Result (Header × ℕ) Refusal
summary (Ok p) = Ok (p.header, length p.table)
summary (Err e) = Err e

opens : {A B : Type 0} (o : Option ℕ) (a : A) (b : B) (f : A → Result Parts Refusal) (g : B → Result (Header × ℕ) Refusal) → summary (f a) ≡ g b
    → summary (refused_by 0 0 o a >>= f) ≡ (refused_by 0 0 o b >>= g)
opens None a b f g same = same
opens (Some rule) a b f g same = refl

continues : (i r : ℕ) (o : Option ℕ) (a : List ℕ) (f : List ℕ → Result Parts Refusal) (g : List ℕ → Result (Header × ℕ) Refusal) → summary (f a) ≡ g a
    → summary (refused_by i r o a >>= f) ≡ (refused_by i r o a >>= g)
continues i r None a f g same = same
continues i r (Some rule) a f g same = refl

through : {A : Type 0} (r : Result (Reading A) Refusal) (f : Reading A → Result Parts Refusal) (g : List ℕ → Result (Header × ℕ) Refusal) → ((x : Reading A) → r ≡ Ok x → summary (f x) ≡ g x.left)
    → summary (r >>= f) ≡ (left_of r >>= g)
through (Ok x) f g same = same x refl
through (Err e) f g same = refl

through-entries : (r : Result (List TableEntry × List ℕ) Refusal) (f : List TableEntry × List ℕ → Result Parts Refusal) (g : List ℕ → Result (Header × ℕ) Refusal)
    → ((x : List TableEntry × List ℕ) → r ≡ Ok x → summary (f x) ≡ g x.1) → summary (r >>= f) ≡ (rest_of r >>= g)
through-entries (Ok x) f g same = same x refl
through-entries (Err e) f g same = refl

closes : (b : Bool) (count : ℕ) (p : Parts) → length p.table ≡ count
    → summary (unless_broken p.header.shards count ((25, true) ∷ (26, true) ∷ (27, b) ∷ []) p) ≡ unless_broken p.header.shards count ((27, b) ∷ []) (p.header, count)
closes true count p e = λ i. Ok (p.header, e i)
closes false count p e = refl

pub form-is : (file : List ℕ) → AreBytes file → summary (parse file) ≡ form_left file
unfolding form_left
form-is file fits =
    let h = header_of file in
    let body = drop 173 file in
    let place = first_place false tiny_lanes [] [] h in
    let output = take h.length body in
    let shards = drop h.length body in
    let shards_fit = drop-bytes h.length body (drop-bytes 173 file fits) in
    let ended : List ℕ → List ℕ → Result (Header × ℕ) Refusal = λ table left. unless_broken h.shards (u32_at table 0) ((27, length left == 0) ∷ []) (h, u32_at table 0) in
    let counted : List ℕ → List ℕ → Result (Header × ℕ) Refusal = λ table entries. entries_left (u32_at table 0) h 0 None entries >>= ended table in
    let tabled : List ℕ → Result (Header × ℕ) Refusal = λ table. unless_broken h.shards 0 ((1, nat_le 4 (length table)) ∷ []) (drop 4 table) >>= counted table in
    let at_count : (x : Reading (List Shard)) → shards_in h.shards h output 0 place shards ≡ Ok x → summary (after_count ends_parse h output x (drop 4 x.left)) ≡ counted x.left (drop 4 x.left) =
    λ x e.
    let taken = shards-taken h.shards h output 0 place shards x shards_fit e in
    let count = u32_at x.left 0 in
    through-entries (read_entries count h 0 None (drop 4 x.left)) (λ es. ends_parse count (record { header = h; output = output; shards = x.part; table = es.0 }) es.1) (ended x.left)
    (λ es k. closes (length es.1 == 0) count (record { header = h; output = output; shards = x.part; table = es.0 }) (entries-taken count h 0 None (drop 4 x.left) es (drop-bytes 4 x.left taken.rest) k).count)
    ∙ ap (λ (r : Result (List ℕ) Refusal). r >>= ended x.left) (entries-left-is count h 0 None (drop 4 x.left)) in
    let at_shards : summary (after_header ends_parse h body) ≡ (shards_left h.shards h 0 shards >>= tabled) =
    through (shards_in h.shards h output 0 place shards) (after_shards ends_parse h output) tabled
    (λ x e. continues h.shards 0 (first_broken ((1, nat_le 4 (length x.left)) ∷ [])) (drop 4 x.left) (after_count ends_parse h output x) (counted x.left) (at_count x e))
    ∙ ap (λ (r : Result (List ℕ) Refusal). r >>= tabled) (shards-left-is h.shards h output 0 place shards shards_fit) in
    let there : shards ≡ drop (173 + h.length) file = drop-drop h.length 173 file in
    ap summary (parse-is file)
    ∙ opens (first_broken (all_checks file)) body h (after_header ends_parse h) (λ k. shards_left k.shards k 0 (drop (173 + k.length) file) >>= λ table. unless_broken k.shards 0 ((1, nat_le 4 (length table)) ∷ []) (drop 4 table) >>= λ entries. entries_left (u32_at table 0) k 0 None entries >>= λ left. unless_broken k.shards (u32_at table 0) ((27, length left == 0) ∷ []) (k, u32_at table 0))
    (at_shards ∙ ap (λ (xs : List ℕ). shards_left h.shards h 0 xs >>= tabled) there)

-- ---- what the answer says

summary-err : (r : Result Parts Refusal) (e : Refusal) → summary r ≡ Err e → r ≡ Err e
summary-err (Ok p) e same = absurd cc
summary-err (Err f) e same = let one : f ≡ e = cc in λ i. Err (one i)

summary-ok : (r : Result Parts Refusal) (h : Header) (n : ℕ) → summary r ≡ Ok (h, n) → (p : Parts) × (r ≡ Ok p) × (h ≡ p.header) × (n ≡ length p.table)
summary-ok (Ok p) h n same =
    let both : (p.header, length p.table) ≡ (h, n) = ok-is (p.header, length p.table) (h, n) same in
    (p, refl, sym (ap (λ (x : Header × ℕ). x.0) both), sym (ap (λ (x : Header × ℕ). x.1) both))
summary-ok (Err f) h n same = absurd cc

pub form-err : (file : List ℕ) (e : Refusal) → AreBytes file → form_left file ≡ Err e → parse file ≡ Err e
form-err file e fits is = summary-err (parse file) e (form-is file fits ∙ is)

parts-are : (file : List ℕ) (p : Parts) → parse file ≡ Ok p → parts_of file ≡ p
unfolding parts_of
parts-are file p e = ap parts_or_none e

pub form-ok : (file : List ℕ) (h : Header) (n : ℕ) → AreBytes file → form_left file ≡ Ok (h, n) → parse file ≡ Ok (parts_of file)
form-ok file h n fits is =
    let s = summary-ok (parse file) h n (form-is file fits ∙ is) in
    s.1 ∙ (λ i. Ok (sym (parts-are file s.0 s.1) i))

pub form-shows : (file : List ℕ) (h : Header) (n : ℕ) → AreBytes file → form_left file ≡ Ok (h, n) → RepresentsFile file h n
form-shows file h n fits is =
    let s = summary-ok (parse file) h n (form-is file fits ∙ is) in
    let p_is = sym (parts-are file s.0 s.1) in
    record {
      spells = subst (λ (p : Parts). Spells p file) p_is (is-spelled file s.0 fits s.1);
      header = s.2 ∙ ap (λ (p : Parts). p.header) p_is;
      count = s.3 ∙ ap (λ (p : Parts). length p.table) p_is;
    }

pub form-only : (file : List ℕ) (h : Header) (n : ℕ) → AreBytes file → form_left file ≡ Ok (h, n) → (p : Parts) → Spells p file → parts_of file ≡ p
form-only file h n fits is p spells = parts-are file p (is-parsed file p spells)

pub err-only : (file : List ℕ) (e : Refusal) → AreBytes file → form_left file ≡ Err e → (p : Parts) → Spells p file → ⊥
err-only file e fits is p spells =
    let refused = form-err file e fits is in
    let read = is-parsed file p spells in
    absurd cc
