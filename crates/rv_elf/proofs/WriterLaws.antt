-- What is written is the definition's file.
use Rattle.std.proofs.Common.{◌≡◌, ℕ, zero, suc, ◌+◌, ◌*◌, ◌<◌, ◌≤◌, List, [], ◌∷◌, ◌++◌, length, take, drop, get_or, replicate, sum_by, refl, sym, ◌∙◌, ap, subst, arith, append_assoc, append-nil, drop-cons, add-one, length-drop, take-append-drop}
use Rattle.std.specs.List.{AllByRecursion, flat_map}
use Rattle.std.proofs.lemmas.List.Sums.{sum_by-cons}
use Rattle.std.specs.Int.{w16, to_le_bytes}
use Rattle.std.proofs.lemmas.List.{length-take-le}
use Rattle.rv_elf.specs.ElfFile.{part_headers, elf_file}
use Rattle.rv_elf.specs.declared.writer.Part.{Part}
use Rattle.rv_elf.specs.Written.{with_bytes, AreWords, elf_header, header_table, words_bytes}

abbrev pub lens : List Part → ℕ
lens ps = sum_by (λ p. p.len) ps

pub length-with_bytes : (ps : List Part) (bs : List ℕ) → length (with_bytes ps bs) ≡ length ps
length-with_bytes [] bs = refl
length-with_bytes (p ∷ ps) bs = ap suc (length-with_bytes ps (drop p.len bs))

pub bodies : (ps : List Part) (bs : List ℕ) → lens ps ≡ length bs → flat_map (λ p. p.bytes) (with_bytes ps bs) ≡ bs
bodies [] bs e = none bs e
  where
    none : (bs : List ℕ) → 0 ≡ length bs → [] ≡ bs
    none [] e = refl
    none (b ∷ bs) e = absurd (omega arith)
bodies (p ∷ ps) bs e =
    let sum : p.len + lens ps ≡ length bs = sym (sum_by-cons (λ p. p.len) p ps) ∙ e in
    ap (λ t. take p.len bs ++ t) (bodies ps (drop p.len bs) (let l = length-drop p.len bs in omega arith)) ∙ take-append-drop p.len bs

abbrev block : ℕ → Part → ℕ → List ℕ
block o p n = words_bytes (1 ∷ o ∷ p.addr ∷ p.addr ∷ n ∷ p.size ∷ 7 ∷ 4 ∷ [])

pub table-is : (o : ℕ) (ps : List Part) (bs : List ℕ) → lens ps ≡ length bs → header_table o ps ≡ part_headers o (with_bytes ps bs)
unfolding header_table
table-is o [] bs e = refl
table-is o (p ∷ ps) bs e =
    let sum : p.len + lens ps ≡ length bs = sym (sum_by-cons (λ p. p.len) p ps) ∙ e in
    let taken : length (take p.len bs) ≡ p.len = length-take-le p.len bs (omega arith) in
    let rest = with_bytes ps (drop p.len bs) in
    ap (λ t. block o p p.len ++ t) (table-is (o + p.len) ps (drop p.len bs) (let l = length-drop p.len bs in omega arith))
    ∙ ap (λ n. block o p n ++ part_headers (o + n) rest) (sym taken)

pub file-is : (entry : ℕ) (ps : List Part) (bs : List ℕ) → lens ps ≡ length bs
    → elf_header entry (length ps) ++ header_table (52 + 32 * length ps) ps ++ bs ≡ elf_file entry (with_bytes ps bs)
unfolding elf_file
file-is entry ps bs e =
    let n = length (with_bytes ps bs) in
    let same : length ps ≡ n = sym (length-with_bytes ps bs) in
    ap (λ t. elf_header entry (length ps) ++ t ++ bs) (table-is (52 + 32 * length ps) ps bs e)
    ∙ ap (λ t. elf_header entry (length ps) ++ part_headers (52 + 32 * length ps) (with_bytes ps bs) ++ t) (sym (bodies ps bs e))
    ∙ ap (λ k. elf_header entry k ++ part_headers (52 + 32 * k) (with_bytes ps bs) ++ flat_map (λ p. p.bytes) (with_bytes ps bs)) same

-- a step of the loop over the parts
module _ (ps : List Part) (i : ℕ) (d : Part) (h : i < length ps) where
  next : drop i ps ≡ get_or ps i d ∷ drop (i + 1) ps
  next = drop-cons ps i d h ∙ ap (λ k. get_or ps i d ∷ drop k ps) (sym (add-one i))

  pub lens-next : lens (drop i ps) ≡ (get_or ps i d).len + lens (drop (i + 1) ps)
  lens-next = ap lens next ∙ sum_by-cons (λ p. p.len) (get_or ps i d) (drop (i + 1) ps)

  pub table-next : (o : ℕ) (before now all : List ℕ) → before ++ header_table o (drop i ps) ≡ all
      → now ≡ before ++ block o (get_or ps i d) (get_or ps i d).len → now ++ header_table (o + (get_or ps i d).len) (drop (i + 1) ps) ≡ all
  unfolding header_table
  table-next o before now all e is =
      let p = get_or ps i d in
      ap (λ z. z ++ header_table (o + p.len) (drop (i + 1) ps)) is
      ∙ append_assoc before (block o p p.len) (header_table (o + p.len) (drop (i + 1) ps))
      ∙ ap (λ l. before ++ header_table o l) (sym next)
      ∙ e

-- one more part whose numbers have 32 bits
pub ranges-next : (ps : List Part) (i : ℕ) (d : Part) → AllByRecursion AreWords (take i ps) → AreWords (get_or ps i d) → AllByRecursion AreWords (take (i + 1) ps)
ranges-next ps i d before new = subst (λ k. AllByRecursion AreWords (take k ps)) (sym (add-one i)) (one-more ps i before new)
  where
    one-more : (ps : List Part) (i : ℕ) → AllByRecursion AreWords (take i ps) → AreWords (get_or ps i d) → AllByRecursion AreWords (take (suc i) ps)
    one-more [] i before new = tt
    one-more (p ∷ ps) zero before new = (new, tt)
    one-more (p ∷ ps) (suc i) before new = (before.0, one-more ps i before.1 new)

-- behind the last part nothing is left
pub table-done : (ps : List Part) (i o : ℕ) (before all : List ℕ) → length ps ≤ i → before ++ header_table o (drop i ps) ≡ all → before ≡ all
unfolding header_table
table-done ps i o before all h e =
    let none : drop i ps ≡ [] = drop-all ps i h in
    sym (append-nil before) ∙ ap (λ l. before ++ header_table o l) (sym none) ∙ e
  where
    drop-all : (ps : List Part) (i : ℕ) → length ps ≤ i → drop i ps ≡ []
    drop-all [] zero h = refl
    drop-all [] (suc i) h = refl
    drop-all (p ∷ ps) zero h = absurd (omega arith)
    drop-all (p ∷ ps) (suc i) h = drop-all ps i (omega arith)

-- the ELF header, as it is appended
pub header-is : (old : List ℕ) (entry n : ℕ)
    → ((((old ++ (0x7F ∷ 0x45 ∷ 0x4C ∷ 0x46 ∷ 1 ∷ 1 ∷ 1 ∷ 0 ∷ 0 ∷ 0 ∷ 0 ∷ 0 ∷ 0 ∷ 0 ∷ 0 ∷ 0 ∷ 2 ∷ 0 ∷ 243 ∷ 0 ∷ [])) ++ words_bytes (1 ∷ entry ∷ 52 ∷ 0 ∷ 0 ∷ [])) ++ (52 ∷ 0 ∷ 32 ∷ 0 ∷ [])) ++ to_le_bytes w16 n) ++ replicate 6 0
    ≡ old ++ elf_header entry n
header-is old entry n = simp append_assoc
