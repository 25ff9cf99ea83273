-- The parts that the writer is given, as the definition of a file has them.
use Rattle.std.proofs.Common.{◌≡◌, ℕ, ◌+◌, ◌*◌, ◌%◌, ◌^◌, ◌<◌, ◌≤◌, false, ◌||◌, List, [], ◌∷◌, length, take, drop, map, None, refl, sym, ◌∙◌, ap, arith, length-drop}
use Rattle.std.specs.List.{AllByRecursion, list_any}
use Rattle.std.proofs.lemmas.List.{length-take-le}
use Rattle.std.proofs.lemmas.List.Sums.{sum_by-cons}
use Rattle.rv_spec.specs.Elf.{Segment, overlaps, some_overlap, first_fault, image}
use Rattle.rv_elf.specs.ElfFile.{elf_file}
use Rattle.rv_elf.specs.declared.writer.Part.{Part}
use Rattle.rv_elf.specs.Written.{with_bytes, segment_of, AreWords, image_of_parts, HoldsParts}
use Rattle.rv_elf.proofs.WriterLaws.{lens, length-with_bytes, bodies}
use Rattle.rv_elf.proofs.WrittenLaws.{bodies_of, segments_from, IsWritable, size, no-fault, whole-image, holds}

writable : (ps : List Part) (bs : List ℕ) → AllByRecursion AreWords ps → AllByRecursion (λ p. p.len ≤ p.size) ps
    → AllByRecursion (λ p. p.addr + p.size ≤ 2 ^ 32) ps → lens ps ≡ length bs → AllByRecursion IsWritable (with_bytes ps bs)
writable [] bs words fit in_memory e = tt
writable (p ∷ ps) bs words fit in_memory e =
    let sum : p.len + lens ps ≡ length bs = sym (sum_by-cons (λ p. p.len) p ps) ∙ e in
    let taken : length (take p.len bs) ≡ p.len = length-take-le p.len bs (omega arith) in
    let left : lens ps ≡ length (drop p.len bs) = (let l = length-drop p.len bs in omega arith) in
    let fits = fit.0 in (
      record { address = words.0.0; size = words.0.1; fits = omega arith; in_memory = in_memory.0 },
      writable ps (drop p.len bs) words.1 fit.1 in_memory.1 left,
    )

-- overlaps look at addresses and sizes in memory, which are the parts'
one-apart : (s : Segment) (o : ℕ) (ps : List Part) (bs : List ℕ) → list_any (overlaps s) (segments_from o (with_bytes ps bs)) ≡ list_any (overlaps s) (map segment_of ps)
one-apart s o [] bs = refl
one-apart s o (p ∷ ps) bs = ap (λ b. overlaps s (segment_of p) || b) (one-apart s (o + length (take p.len bs)) ps (drop p.len bs))

all-apart : (o : ℕ) (ps : List Part) (bs : List ℕ) → some_overlap (segments_from o (with_bytes ps bs)) ≡ some_overlap (map segment_of ps)
all-apart o [] bs = refl
all-apart o (p ∷ ps) bs =
    ap (λ b. b || some_overlap (segments_from (o + length (take p.len bs)) (with_bytes ps (drop p.len bs)))) (one-apart (segment_of p) (o + length (take p.len bs)) ps (drop p.len bs))
    ∙ ap (λ b. list_any (overlaps (segment_of p)) (map segment_of ps) || b) (all-apart (o + length (take p.len bs)) ps (drop p.len bs))

module _ (entry : ℕ) (ps : List Part) (bs : List ℕ) (small : entry < 2 ^ 32) (aligned : entry % 4 ≡ 0) (few : length ps ≤ 64)
    (words : AllByRecursion AreWords ps) (fit : AllByRecursion (λ p. p.len ≤ p.size) ps) (in_memory : AllByRecursion (λ p. p.addr + p.size ≤ 2 ^ 32) ps)
    (whole : lens ps ≡ length bs) (apart : some_overlap (map segment_of ps) ≡ false) (limit : 52 + 32 * length ps + length bs ≤ 67108864) where
  as-many : length (with_bytes ps bs) ≡ length ps
  as-many = length-with_bytes ps bs

  few-parts : length (with_bytes ps bs) ≤ 64
  few-parts = let n = as-many in omega arith

  room : 52 + 32 * length (with_bytes ps bs) + length (bodies_of (with_bytes ps bs)) < 2 ^ 32
  room = let n = as-many in let b : length (bodies_of (with_bytes ps bs)) ≡ length bs = ap length (bodies ps bs whole) in omega arith

  parts-apart : some_overlap (segments_from (52 + 32 * length (with_bytes ps bs)) (with_bytes ps bs)) ≡ false
  parts-apart = all-apart (52 + 32 * length (with_bytes ps bs)) ps bs ∙ apart

  sound : AllByRecursion IsWritable (with_bytes ps bs)
  sound = writable ps bs words fit in_memory whole

  pub written-size : length (elf_file entry (with_bytes ps bs)) ≡ 52 + 32 * length ps + length bs
  written-size =
      let whole_file = size entry (with_bytes ps bs) small aligned few-parts sound room parts-apart in
      let n = as-many in
      let b : length (bodies_of (with_bytes ps bs)) ≡ length bs = ap length (bodies ps bs whole) in
      omega arith

  pub written-faultless : first_fault (elf_file entry (with_bytes ps bs)) ≡ None
  written-faultless = no-fault entry (with_bytes ps bs) small aligned few-parts sound room parts-apart

  pub written-image : image 1 (elf_file entry (with_bytes ps bs)) ≡ image_of_parts entry (with_bytes ps bs)
  written-image = whole-image entry (with_bytes ps bs) small aligned few-parts sound room parts-apart

  pub written-bytes : HoldsParts (with_bytes ps bs) (image 1 (elf_file entry (with_bytes ps bs)))
  written-bytes = holds entry (with_bytes ps bs) small aligned few-parts sound room parts-apart
