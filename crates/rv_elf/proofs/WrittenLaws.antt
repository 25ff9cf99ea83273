-- Reading a file that is written gives what it was written from.
use Rattle.std.proofs.Common.{◌≡◌, ℕ, zero, suc, ◌+◌, ◌-◌, ◌*◌, ◌%◌, ◌^◌, ◌<◌, ◌≤◌, true, false, not, ◌==◌, nat_lt, List, [], ◌∷◌, ◌++◌, length, take, drop, map, slice_index, None, refl, sym, ◌∙◌, ap, subst, arith, length-append, zero-add, get_or-drop}
use Rattle.std.specs.List.{AllByRecursion, list_any, filter, flat_map, range_with_len}
use Rattle.std.specs.Int.{w32, to_le_bytes, from_le_bytes}
use Rattle.std.proofs.lemmas.Bool.{le-ltb, or_from, eq-eqb}
use Rattle.std.proofs.lemmas.Nat.{from_le_bytes-to_le_bytes_2, from_le_bytes-to_le_bytes_4}
use Rattle.std.proofs.Math.Seq.{drop-append_seam, take-append_seam}
use Rattle.std.proofs.lemmas.List.{get_or_append_left}
use Rattle.rv_spec.specs.Words.{Block, u16_at, u32_at}
use Rattle.rv_spec.specs.Elf.{Segment, headers, headers_at, header_at, header_count, load_segments, some_overlap, first_fault, block_of, Image, image}
use Rattle.rv_elf.specs.ElfFile.{PartBytes, part_headers, elf_file}
use Rattle.rv_elf.specs.ByAddress.{image_byte, TakesByteAt}
use Rattle.rv_elf.proofs.ImageLaws.{image-is}
use Rattle.rv_elf.specs.Written.{elf_header, image_of_parts, IsWithin, HoldsParts}
use Rattle.rv_elf.specs.Faults.{IsClear}
use Rattle.rv_elf.proofs.FaultLaws.{faultless, clear-more}
use Rattle.rv_elf.proofs.HeaderLaws.{has_magic, clear-1, clear-2, clear-3, clear-4, clear-5, clear-6, clear-7, clear-8, clear-9}

abbrev pub bodies_of : List PartBytes → List ℕ
bodies_of ps = flat_map (λ p. p.bytes) ps

-- the segment of a part whose bytes begin at an offset, and the segments of all parts
abbrev segment_at : ℕ → PartBytes → Segment
segment_at o p = record { kind = 1; offset = o; address = p.address; file_size = length p.bytes; memory_size = p.size }

abbrev pub segments_from : ℕ → List PartBytes → List Segment
segments_from o [] = []
segments_from o (p ∷ ps) = segment_at o p ∷ segments_from (o + length p.bytes) ps

-- what each part meets
pub record IsWritable (p : PartBytes) : Type 0 where
  pub address : p.address < 2 ^ 32
  pub size : p.size < 2 ^ 32
  pub fits : length p.bytes ≤ p.size
  pub in_memory : p.address + p.size ≤ 2 ^ 32

-- ---- the table

drop-none : {A : Type 0} (n : ℕ) → drop {A = A} n [] ≡ []
drop-none zero = refl
drop-none (suc n) = refl

drop-add : {A : Type 0} (n m : ℕ) (xs : List A) → drop (n + m) xs ≡ drop m (drop n xs)
drop-add zero m xs = ap (λ k. drop k xs) (zero-add m)
drop-add (suc n) m [] = drop-none (suc n + m) ∙ sym (drop-none m)
drop-add (suc n) m (x ∷ xs) = ap (λ k. drop k (x ∷ xs)) (let e : suc n + m ≡ suc (n + m) = omega arith in e) ∙ drop-add n m xs

number-behind : (F : List ℕ) (a j : ℕ) → u32_at F (a + j) ≡ u32_at (drop a F) j
number-behind F a j = ap (from_le_bytes w32) (drop-add a j F)

abbrev header_of : ℕ → ℕ → ℕ → ℕ → ℕ → Segment
header_of k o a f m = record { kind = k; offset = o; address = a; file_size = f; memory_size = m }

header-behind : (F : List ℕ) (a : ℕ) → header_at F a ≡ header_at (drop a F) 0
header-behind F a =
    ap (λ z. header_of (u32_at F a) z (u32_at F (a + 8)) (u32_at F (a + 16)) (u32_at F (a + 20))) (number-behind F a 4)
    ∙ ap (λ z. header_of (u32_at F a) (u32_at (drop a F) 4) z (u32_at F (a + 16)) (u32_at F (a + 20))) (number-behind F a 8)
    ∙ ap (λ z. header_of (u32_at F a) (u32_at (drop a F) 4) (u32_at (drop a F) 8) z (u32_at F (a + 20))) (number-behind F a 16)
    ∙ ap (λ z. header_of (u32_at F a) (u32_at (drop a F) 4) (u32_at (drop a F) 8) (u32_at (drop a F) 16) z) (number-behind F a 20)

abbrev part_header : ℕ → PartBytes → List ℕ
part_header o p =
    to_le_bytes w32 1 ++ to_le_bytes w32 o ++ to_le_bytes w32 p.address ++ to_le_bytes w32 p.address
    ++ to_le_bytes w32 (length p.bytes) ++ to_le_bytes w32 p.size ++ to_le_bytes w32 7 ++ to_le_bytes w32 4

written-header : (o : ℕ) (p : PartBytes) (X : List ℕ) → o < 2 ^ 32 → IsWritable p → header_at (part_header o p ++ X) 0 ≡ segment_at o p
written-header o p X h w =
    let back : ℕ → ℕ = λ v. from_le_bytes w32 (to_le_bytes w32 v) in
    let size = w.size in let fits = w.fits in
    ap (λ z. header_of 1 z (back p.address) (back (length p.bytes)) (back p.size)) (from_le_bytes-to_le_bytes_4 o h)
    ∙ ap (λ z. header_of 1 o z (back (length p.bytes)) (back p.size)) (from_le_bytes-to_le_bytes_4 p.address w.address)
    ∙ ap (λ z. header_of 1 o p.address z (back p.size)) (from_le_bytes-to_le_bytes_4 (length p.bytes) (omega arith))
    ∙ ap (λ z. header_of 1 o p.address (length p.bytes) z) (from_le_bytes-to_le_bytes_4 p.size w.size)

pub table-read : (F : List ℕ) (base k o : ℕ) (ps : List PartBytes) (X : List ℕ) → o + length (bodies_of ps) < 2 ^ 32 → AllByRecursion IsWritable ps
    → drop (base + 32 * k) F ≡ part_headers o ps ++ X → map (λ i. header_at F (base + 32 * i)) (range_with_len k (length ps)) ≡ segments_from o ps
table-read F base k o [] X room w e = refl
table-read F base k o (p ∷ ps) X room w e =
    let rest = part_headers (o + length p.bytes) ps ++ X in
    let sizes : length (p.bytes ++ bodies_of ps) ≡ length p.bytes + length (bodies_of ps) = length-append p.bytes (bodies_of ps) in
    let head : header_at F (base + 32 * k) ≡ segment_at o p =
    header-behind F (base + 32 * k) ∙ ap (λ l. header_at l 0) e ∙ written-header o p rest (omega arith) w.0 in
    let place : base + 32 * (k + 1) ≡ base + 32 * k + 32 = omega arith in
    let behind : drop (base + 32 * (k + 1)) F ≡ rest = ap (λ n. drop n F) place ∙ drop-add (base + 32 * k) 32 F ∙ ap (drop 32) e in
    ap (λ h. h ∷ map (λ i. header_at F (base + 32 * i)) (range_with_len (k + 1) (length ps))) head
    ∙ ap (λ t. segment_at o p ∷ t) (table-read F base (k + 1) (o + length p.bytes) ps X (omega arith) w.1 behind)

-- ---- the segments

all-loads : (o : ℕ) (ps : List PartBytes) → filter (λ s. s.kind == 1) (segments_from o ps) ≡ segments_from o ps
all-loads o [] = refl
all-loads o (p ∷ ps) = ap (λ t. segment_at o p ∷ t) (all-loads (o + length p.bytes) ps)

no-interpreter : (o : ℕ) (ps : List PartBytes) → list_any (λ s. s.kind == 3) (segments_from o ps) ≡ false
no-interpreter o [] = refl
no-interpreter o (p ∷ ps) = no-interpreter (o + length p.bytes) ps

in-file : (o n : ℕ) (ps : List PartBytes) → o + length (bodies_of ps) ≤ n → list_any (λ s. nat_lt n (s.offset + s.file_size)) (segments_from o ps) ≡ false
in-file o n [] h = refl
in-file o n (p ∷ ps) h =
    let sizes : length (p.bytes ++ bodies_of ps) ≡ length p.bytes + length (bodies_of ps) = length-append p.bytes (bodies_of ps) in
    or_from (nat_lt n (o + length p.bytes)) _ (le-ltb n (o + length p.bytes) (omega arith)) (in-file (o + length p.bytes) n ps (omega arith))

sizes-fit : (o : ℕ) (ps : List PartBytes) → AllByRecursion IsWritable ps → list_any (λ s. nat_lt s.memory_size s.file_size) (segments_from o ps) ≡ false
sizes-fit o [] w = refl
sizes-fit o (p ∷ ps) w = or_from (nat_lt p.size (length p.bytes)) _ (le-ltb p.size (length p.bytes) w.0.fits) (sizes-fit (o + length p.bytes) ps w.1)

in-memory : (o : ℕ) (ps : List PartBytes) → AllByRecursion IsWritable ps → list_any (λ s. nat_lt (2 ^ 32) (s.address + s.memory_size)) (segments_from o ps) ≡ false
in-memory o [] w = refl
in-memory o (p ∷ ps) w = or_from (nat_lt (2 ^ 32) (p.address + p.size)) _ (le-ltb (2 ^ 32) (p.address + p.size) w.0.in_memory) (in-memory (o + length p.bytes) ps w.1)

as-many : (o : ℕ) (ps : List PartBytes) → length (segments_from o ps) ≡ length ps
as-many o [] = refl
as-many o (p ∷ ps) = ap suc (as-many (o + length p.bytes) ps)

-- the bytes that the segments take are the parts'
blocks-written : (F : List ℕ) (o : ℕ) (ps : List PartBytes) → drop o F ≡ bodies_of ps → map (block_of F) (segments_from o ps) ≡ map (λ p. record { address = p.address; bytes = p.bytes }) ps
blocks-written F o [] e = refl
blocks-written F o (p ∷ ps) e =
    let block : List ℕ → Block = λ b. record { address = p.address; bytes = b } in
    let taken : take (length p.bytes) (drop o F) ≡ p.bytes = ap (take (length p.bytes)) e ∙ take-append_seam p.bytes (bodies_of ps) in
    let behind : drop (o + length p.bytes) F ≡ bodies_of ps = drop-add o (length p.bytes) F ∙ ap (drop (length p.bytes)) e ∙ drop-append_seam p.bytes (bodies_of ps) in
    ap (λ b. block b ∷ map (block_of F) (segments_from (o + length p.bytes) ps)) taken
    ∙ ap (λ t. block p.bytes ∷ t) (blocks-written F (o + length p.bytes) ps behind)

-- ---- the file

abbrev image_with : ℕ → List Block → Image
image_with e bs = record { version = 1; entry = e; blocks = bs }

table-length : (o : ℕ) (ps : List PartBytes) → length (part_headers o ps) ≡ 32 * length ps
table-length o [] = refl
table-length o (p ∷ ps) =
    let rest : length (part_headers (o + length p.bytes) ps) ≡ 32 * length ps = table-length (o + length p.bytes) ps in
    let split : length (part_header o p ++ part_headers (o + length p.bytes) ps) ≡ 32 + length (part_headers (o + length p.bytes) ps) =
    length-append (part_header o p) (part_headers (o + length p.bytes) ps) in
    split ∙ omega (arith, rest)

module _ (entry : ℕ) (ps : List PartBytes) (small : entry < 2 ^ 32) (aligned : entry % 4 ≡ 0) (few : length ps ≤ 64) (w : AllByRecursion IsWritable ps)
    (room : 52 + 32 * length ps + length (bodies_of ps) < 2 ^ 32) (apart : some_overlap (segments_from (52 + 32 * length ps) ps) ≡ false) where
  abbrev F : List ℕ
  F = elf_file entry ps

  abbrev segments : List Segment
  segments = segments_from (52 + 32 * length ps) ps

  pub size : length F ≡ 52 + 32 * length ps + length (bodies_of ps)
  unfolding elf_file
  size =
      length-append (elf_header entry (length ps) ++ part_headers (52 + 32 * length ps) ps) (bodies_of ps)
      ∙ ap (λ n. n + length (bodies_of ps)) (length-append (elf_header entry (length ps)) (part_headers (52 + 32 * length ps) ps) ∙ ap (λ n. 52 + n) (table-length (52 + 32 * length ps) ps))

  behind-header : drop 52 F ≡ part_headers (52 + 32 * length ps) ps ++ bodies_of ps
  unfolding elf_file
  behind-header = refl

  behind-table : drop (52 + 32 * length ps) F ≡ bodies_of ps
  behind-table =
      drop-add 52 (32 * length ps) F ∙ ap (drop (32 * length ps)) behind-header
      ∙ ap (λ n. drop n (part_headers (52 + 32 * length ps) ps ++ bodies_of ps)) (sym (table-length (52 + 32 * length ps) ps))
      ∙ drop-append_seam (part_headers (52 + 32 * length ps) ps) (bodies_of ps)

  table-at : headers_at F ≡ 52
  unfolding elf_file
  table-at = refl

  count-is : header_count F ≡ length ps
  unfolding elf_file
  count-is = from_le_bytes-to_le_bytes_2 (length ps) (omega arith)

  entry-is : u32_at F 24 ≡ entry
  unfolding elf_file
  entry-is = from_le_bytes-to_le_bytes_4 entry small

  headers-are : headers F ≡ segments
  unfolding headers
  headers-are =
      ap (λ b. map (λ i. header_at F (b + 32 * i)) (range_with_len 0 (header_count F))) table-at
      ∙ ap (λ n. map (λ i. header_at F (52 + 32 * i)) (range_with_len 0 n)) count-is
      ∙ table-read F 52 0 (52 + 32 * length ps) ps (bodies_of ps) room w behind-header

  loads-are : load_segments F ≡ segments
  unfolding load_segments
  loads-are = ap (filter (λ s. s.kind == 1)) headers-are ∙ all-loads (52 + 32 * length ps) ps

  magic : has_magic F ≡ true
  unfolding elf_file
  magic = refl

  class : slice_index F 4 ≡ 1
  unfolding elf_file
  class = refl

  order : slice_index F 5 ≡ 1
  unfolding elf_file
  order = refl

  version : slice_index F 6 ≡ 1
  unfolding elf_file
  version = refl

  second-version : u32_at F 20 ≡ 1
  unfolding elf_file
  second-version = refl

  kind : u16_at F 16 ≡ 2
  unfolding elf_file
  kind = refl

  machine : u16_at F 18 ≡ 243
  unfolding elf_file
  machine = refl

  header-size : u16_at F 42 ≡ 32
  unfolding elf_file
  header-size = refl

  header-clear : IsClear 9 F
  header-clear =
      let s = size in
      clear-9 F (clear-8 F (clear-7 F (clear-6 F (clear-5 F (clear-4 F (clear-3 F (clear-2 F (clear-1 F (omega arith)) magic) class) order) version second-version) kind) machine) header-size)
      52 (length ps) (sym table-at) (sym count-is) (omega arith)

  pub no-fault : first_fault F ≡ None
  no-fault =
      let s = size in
      let n = as-many (52 + 32 * length ps) ps in
      let c10 = clear-more F 9 header-clear (ap (list_any (λ s. s.kind == 3)) headers-are ∙ no-interpreter (52 + 32 * length ps) ps) in
      let c11 = clear-more F 10 c10 (ap (list_any (λ s. nat_lt (length F) (s.offset + s.file_size))) loads-are ∙ in-file (52 + 32 * length ps) (length F) ps (omega arith)) in
      let c12 = clear-more F 11 c11 (ap (list_any (λ s. nat_lt s.memory_size s.file_size)) loads-are ∙ sizes-fit (52 + 32 * length ps) ps w) in
      let c13 = clear-more F 12 c12 (ap (list_any (λ s. nat_lt (2 ^ 32) (s.address + s.memory_size))) loads-are ∙ in-memory (52 + 32 * length ps) ps w) in
      let c14 = clear-more F 13 c13 (ap (λ l. nat_lt 64 (length l)) loads-are ∙ le-ltb 64 (length segments) (omega arith)) in
      let c15 = clear-more F 14 c14 (ap some_overlap loads-are ∙ apart) in
      faultless F (clear-more F 15 c15 (ap (λ e. not (e % 4 == 0)) entry-is ∙ ap not (eq-eqb (entry % 4) 0 aligned)))

  pub whole-image : image 1 F ≡ image_of_parts entry ps
  whole-image =
      ap (λ e. image_with e (map (block_of F) (load_segments F))) entry-is
      ∙ ap (λ l. image_with entry (map (block_of F) l)) loads-are
      ∙ ap (image_with entry) (blocks-written F (52 + 32 * length ps) ps behind-table)

-- ---- address by address

module _ (F : List ℕ) (a b : ℕ) where
  held-by-parts : (o : ℕ) (ps : List PartBytes) → drop o F ≡ bodies_of ps
      → AllByRecursion (λ s. TakesByteAt s a → b ≡ slice_index F (s.offset + (a - s.address))) (segments_from o ps)
      → AllByRecursion (λ p. IsWithin p a → b ≡ slice_index p.bytes (a - p.address)) ps
  held-by-parts o [] e h = tt
  held-by-parts o (p ∷ ps) e h =
      let behind : drop (o + length p.bytes) F ≡ bodies_of ps = drop-add o (length p.bytes) F ∙ ap (drop (length p.bytes)) e ∙ drop-append_seam p.bytes (bodies_of ps) in (
        (λ t.
            let low = t.0 in let high = t.1 in
            h.0 t ∙ sym (get_or-drop o F (a - p.address) 0) ∙ ap (λ l. slice_index l (a - p.address)) e ∙ get_or_append_left p.bytes (bodies_of ps) 0 (a - p.address) (omega arith)),
        held-by-parts (o + length p.bytes) ps behind h.1,
      )

  outside-segments : (o : ℕ) (ps : List PartBytes) → AllByRecursion (λ p. ¬ (IsWithin p a)) ps → AllByRecursion (λ s. ¬ (TakesByteAt s a)) (segments_from o ps)
  outside-segments o [] h = tt
  outside-segments o (p ∷ ps) h = (h.0, outside-segments (o + length p.bytes) ps h.1)

module _ (entry : ℕ) (ps : List PartBytes) (small : entry < 2 ^ 32) (aligned : entry % 4 ≡ 0) (few : length ps ≤ 64) (w : AllByRecursion IsWritable ps)
    (room : 52 + 32 * length ps + length (bodies_of ps) < 2 ^ 32) (apart : some_overlap (segments_from (52 + 32 * length ps) ps) ≡ false) where
  pub holds : HoldsParts ps (image 1 (elf_file entry ps))
  holds =
      let F = elf_file entry ps in
      let o = 52 + 32 * length ps in
      let loads = loads-are entry ps small aligned few w room apart in
      let is = image-is 1 F (no-fault entry ps small aligned few w room apart) in
      let behind = behind-table entry ps small aligned few w room apart in
      record {
        within = λ a. held-by-parts F a (image_byte (image 1 F) a) o ps behind
            (subst (AllByRecursion (λ s. TakesByteAt s a → image_byte (image 1 F) a ≡ slice_index F (s.offset + (a - s.address)))) loads (is.taken a));
        elsewhere = λ a none. is.elsewhere a (subst (AllByRecursion (λ s. ¬ (TakesByteAt s a))) (sym loads) (outside-segments F a (image_byte (image 1 F) a) o ps none));
      }
