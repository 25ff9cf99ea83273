-- No part that a record is cut into has a fault, and their summaries tell the verdict on the record.
use Rattle.std.proofs.Common.{◌≡◌, ℕ, zero, suc, ◌+◌, ◌^◌, ◌<◌, ◌≤◌, Bool, true, false, not, ◌&&◌, ◌==◌, List, [], ◌∷◌, ◌++◌, length, map, take, drop, None, Some, Result, Ok, Err, refl, sym, ap, subst, ◌∙◌, append_assoc, arith}
use Rattle.std.specs.Prelude.{bytes_eq, if◌then◌else◌}
use Rattle.std.specs.List.{flat_map, range_with_len}
use Rattle.std.proofs.lemmas.Bool.{eqb-true, false_from_ne_true, le-leb}
use Rattle.std.proofs.lemmas.List.{drop_at, length-append, length-drop, length-take-le, take_at}
use Rattle.std.proofs.lemmas.List.FromFn.{length-map-range_with_len}
use Rattle.std.proofs.lemmas.Simd.{map-map}
use Rattle.rv_base.specs.declared.record.Header.{Header}
use Rattle.rv_base.specs.declared.record.Place.{Place}
use Rattle.rv_base.specs.declared.record.Refusal.{Refusal}
use Rattle.rv_spec.specs.Digest.{Lanes}
use Rattle.rv_spec.specs.Grammar.{ShardsFit, Spells}
use Rattle.rv_spec.specs.Record.{Shard, Parts, header_bytes, shard_bytes, table_bytes}
use Rattle.rv_rules.specs.Reading.{Reading, header_of}
use Rattle.rv_rules.specs.Verdict.{verdict}
use Rattle.rv_row.proofs.Lemmas.{wide32}
use Rattle.rv_file.proofs.Lemmas.{header-again, shards-read, form-is-grammar, length-header_bytes, shards_in}
use Rattle.rv_judge.specs.Subject.{Subject}
use Rattle.rv_parts.specs.declared.heads.PartHead.{PartHead}
use Rattle.rv_parts.specs.declared.summaries.Summary.{Summary}
use Rattle.rv_parts.specs.Alone.{shards_alone}
use Rattle.rv_parts.specs.Combining.{combined}
use Rattle.rv_parts.specs.Cutting.{body_of, count_of, first_of, front_of, head_of_part, part_bytes, whole}
use Rattle.rv_parts.specs.Heads.{head_bytes, head_in, part_head_of, part_magic}
use Rattle.rv_parts.specs.Joining.{AreFaultless, Part, behind_front}
use Rattle.rv_parts.specs.RecordInParts.{AreSummaries, CutPartsHaveNoFault, CutPartsTellVerdict, HasNoFault, IsFrontOf, IsReadBack, all_parts, behind_front_of, behind_head, front_size, part_of}
use Rattle.rv_parts.specs.Summaries.{ends_elsewhere, is_cut}
use Rattle.rv_parts.proofs.Bounds.{first-end, first-rises, first-within, first-zero}
use Rattle.rv_parts.proofs.CutLaws.{parts-are-file}
use Rattle.rv_parts.proofs.Fronts.{length-front}
use Rattle.rv_parts.proofs.HeadsOfParts.{heads-cover}
use Rattle.rv_parts.proofs.JoinLaws.{summaries-tell}
use Rattle.rv_parts.proofs.ReadingForProgram.{Ends, IsAs, alone-ends}

-- ---- some shards of a record

fits-drop : (h : Header) (i j k : ℕ) (ss : List Shard) → i + k ≡ j → ShardsFit h i ss → ShardsFit h j (drop k ss)
fits-drop h i j zero ss at fit = subst (λ (m : ℕ). ShardsFit h m ss) (omega (arith, at)) fit
fits-drop h i j (suc k) [] at fit = tt
fits-drop h i j (suc k) (s ∷ ss) at fit = fits-drop h (i + 1) j k ss (omega (arith, at)) fit.1

fits-take : (h : Header) (i k : ℕ) (ss : List Shard) → ShardsFit h i ss → ShardsFit h i (take k ss)
fits-take h i zero ss fit = tt
fits-take h i (suc k) [] fit = tt
fits-take h i (suc k) (s ∷ ss) fit = (fit.0, fits-take h (i + 1) k ss fit.1)

-- shards that were read whole end within their bytes, with none behind them, or are refused by another rule than 1
ends-there : (y : Reading (List Shard)) (r : Result (Reading (List Shard)) Refusal) → y.left ≡ [] → Ends (IsAs y) r → ends_elsewhere r ≡ false
ends-there y (Ok x) none e = ap (λ (xs : List ℕ). not (length xs == 0)) (e.left ∙ none)
ends-there y (Err r) none e = false_from_ne_true (r.rule == 1) (λ one. e (eqb-true r.rule 1 one))

-- ---- a head is read again

-- what has a spelling as a head
record HeadSpells (h : PartHead) : Type 0 where
  pub number : h.number < 2 ^ 32
  pub parts : h.parts < 2 ^ 32
  pub first : h.first < 2 ^ 32
  pub count : h.count < 2 ^ 32

head-again : (h : PartHead) (rest : List ℕ) → HeadSpells h → head_in (head_bytes h ++ rest) ≡ Some h
head-again h rest fits =
    let bytes = head_bytes h ++ rest in
    let long : 24 ≤ length bytes = omega (arith, length-append (head_bytes h) rest) in
    let fields : part_head_of bytes ≡ h = λ i. record {
      number = wide32.again h.number [] fits.number i;
      parts = wide32.again h.parts [] fits.parts i;
      first = wide32.again h.first [] fits.first i;
      count = wide32.again h.count [] fits.count i;
    } in
    ap (λ b. if b && bytes_eq (take 8 bytes) part_magic then Some (part_head_of bytes) else None) (le-leb 24 (length bytes) long)
    ∙ ap (λ (k : PartHead). Some k) fields

-- ---- the front

front-again : (q : Parts) (file : List ℕ) → Spells q file → IsFrontOf q (front_of q)
front-again q file spells =
    let header : header_of (front_of q) ≡ q.header = header-again q.header q.output spells.fit.header in
    record {
      size = length-front q file spells ∙ ap (λ (h : Header). 173 + h.length) (sym header);
      header = header;
      output = drop_at (header_bytes q.header) q.output 173 (length-header_bytes q.header spells.fit.header);
    }

-- ---- the bytes of a part

read-back : (q : Parts) (file : List ℕ) (parts p : ℕ) → Spells q file → HeadSpells (head_of_part q.header.shards parts p) → IsReadBack q parts p
read-back q file parts p spells fits =
    let head = head_of_part q.header.shards parts p in
    let front = front_of q in
    let body = body_of q parts p in
    let bytes : part_bytes q parts p ≡ head_bytes head ++ (front ++ body) = append_assoc (head_bytes head) front body in
    let behind : behind_head q parts p ≡ front ++ body = ap (λ (xs : List ℕ). drop 24 xs) bytes ∙ drop_at (head_bytes head) (front ++ body) 24 refl in
    let header : header_of (front ++ body) ≡ q.header = ap header_of (append_assoc (header_bytes q.header) q.output body) ∙ header-again q.header (q.output ++ body) spells.fit.header in
    let size : length front ≡ front_size (behind_head q parts p) = length-front q file spells ∙ ap (λ (h : Header). 173 + h.length) (sym header) ∙ ap front_size (sym behind) in
    record {
      head = ap head_in bytes ∙ head-again head (front ++ body) fits;
      front = ap (λ (xs : List ℕ). take (front_size (behind_head q parts p)) xs) behind ∙ take_at front body (front_size (behind_head q parts p)) size;
      body = ap (λ (xs : List ℕ). drop (front_size (behind_head q parts p)) xs) behind ∙ drop_at front body (front_size (behind_head q parts p)) size;
    }

-- ---- the parts

module _ (lanes : Lanes) (elf input file : List ℕ) (q : Parts) (spells : Spells q file) (parts : ℕ) (some : 1 ≤ parts) (few : parts ≤ q.header.shards) where
  abbrev s : Subject
  s = behind_front_of elf input q

  abbrev n : ℕ
  n = q.header.shards

  abbrev first : ℕ → ℕ
  first p = first_of n parts p

  abbrev count : ℕ → ℕ
  count p = count_of n parts p

  abbrev own : ℕ → List Shard
  own p = take (count p) (drop (first p) q.shards)

  ends-before : (p : ℕ) → p < parts → first p + count p ≤ n
  ends-before p lt = omega (arith, first-rises n parts p some, first-within n parts (p + 1) some (omega (arith, lt)))

  -- the shards of a part are read for their form, and nothing is left behind them
  own-read : (p : ℕ) (place : Place) → p < parts → shards_in (count p) q.header q.output (first p) place (flat_map shard_bytes (own p) ++ []) ≡ Ok (record { part = own p; place = place; left = [] })
  own-read p place lt =
      let fit = spells.fit in
      let within = ends-before p lt in
      let behind = length-drop (first p) q.shards in
      let long : length (own p) ≡ count p = length-take-le (count p) (drop (first p) q.shards) (omega (arith, within, behind, fit.count)) in
      let fits : ShardsFit q.header (first p) (own p) = fits-take q.header (first p) (count p) (drop (first p) q.shards) (fits-drop q.header 0 (first p) (first p) q.shards (omega arith) fit.shards) in
      ap (λ k. shards_in k q.header q.output (first p) place (flat_map shard_bytes (own p) ++ [])) (sym long)
      ∙ shards-read (own p) q.header q.output (first p) place [] fit.header.size.1 (omega (arith, within, long, fit.header.shards_within)) fits

  abbrev elsewhere : ℕ → List ℕ → Bool
  elsewhere p body = ends_elsewhere (shards_alone lanes s (count p) (first p) body)

  -- no part ends elsewhere than its shards do
  pub not-cut : (p : ℕ) → p < parts → is_cut lanes s (head_of_part n parts p) (body_of q parts p) ≡ false
  not-cut p lt = go (p + 1 == parts) refl
    where
      go : (b : Bool) → (p + 1 == parts) ≡ b → is_cut lanes s (head_of_part n parts p) (body_of q parts p) ≡ false
      go true e = ap (λ b. not b && elsewhere p (body_of q parts p)) e
      go false e =
          let place : Place = record { pc = 0; input = 0; output = 0 } in
          let y : Reading (List Shard) = record { part = own p; place = place; left = [] } in
          let bytes = flat_map shard_bytes (own p) ++ [] in
          let has = ((heads-cover n parts some few).1 p lt).0.some in
          ap (λ b. not b && elsewhere p (flat_map shard_bytes (own p) ++ (if b then table_bytes q.table else []))) e
          ∙ ends-there y (shards_alone lanes s (count p) (first p) bytes) refl (alone-ends lanes s (count p) (first p) place bytes y has (own-read p place lt))

  pub no-fault : (p : ℕ) → p < parts → HasNoFault lanes elf input q parts p
  no-fault p lt =
      let most = spells.fit.header.shards_within in
      let within = ends-before p lt in
      let covers = (heads-cover n parts some few).1 p lt in
      record {
        read = read-back q file parts p spells (record { number = omega (arith, lt, few, most); parts = omega (arith, few, most); first = omega (arith, within, most); count = omega (arith, within, most) });
        head = covers.0;
        next = covers.1;
        front = front-again q file spells;
        whole = not-cut p lt;
      }

  abbrev from : ℕ → ℕ → List Part
  from k m = map (part_of q parts) (range_with_len k m)

  -- the parts from part k on
  faultless-from : (m k : ℕ) (xs : List Summary) → k + m ≡ parts → AreSummaries lanes s (from k m) xs → AreFaultless lanes s parts k (first k) (from k m) xs
  faultless-from zero k [] end sums = let is : k ≡ parts = omega (arith, end) in (is, ap first is ∙ first-end n parts some)
  faultless-from zero k (x ∷ xs) end sums = absurd sums
  faultless-from (suc m) k [] end sums = absurd sums
  faultless-from (suc m) k (x ∷ xs) end sums =
      let lt : k < parts = omega (arith, end) in
      let covers = (heads-cover n parts some few).1 k lt in
      let more = faultless-from m (k + 1) xs (omega (arith, end)) sums.1 in
      (covers.0, (not-cut k lt, sums.0), subst (λ (i : ℕ). AreFaultless lanes s parts (k + 1) i (from (k + 1) m) xs) (sym covers.1) more)

  pub faultless : (xs : List Summary) → AreSummaries lanes s (all_parts q parts) xs → AreFaultless lanes s (length (all_parts q parts)) 0 0 (all_parts q parts) xs
  faultless xs sums =
      let all = length-map-range_with_len (part_of q parts) 0 parts in
      subst (λ (k : ℕ). AreFaultless lanes s k 0 0 (all_parts q parts) xs) (sym all)
      (subst (λ (i : ℕ). AreFaultless lanes s parts 0 i (all_parts q parts) xs) (first-zero n parts) (faultless-from parts 0 xs (omega arith) sums))

pub cut-parts-have-no-fault : CutPartsHaveNoFault
cut-parts-have-no-fault lanes elf input file q parts p bytes good some few lt = no-fault lanes elf input file q ((form-is-grammar file q bytes).0 good) parts some few p lt

pub cut-parts-tell : CutPartsTellVerdict
cut-parts-tell lanes elf input file q parts xs elf_bytes first_ok bytes good some few passed sums =
    let spells = (form-is-grammar file q bytes).0 good in
    let front = front_of q in
    let again = front-again q file spells in
    let subject : behind_front_of elf input q ≡ behind_front elf input front = λ t. record { elf = elf; input = input; header = sym again.header t; output = sym again.output t } in
    let all = all_parts q parts in
    let file_is : whole front (map (λ (p : Part). p.body) all) ≡ file =
    ap (λ (bodies : List (List ℕ)). whole front bodies) (map-map (λ (p : Part). p.body) (part_of q parts) (range_with_len 0 parts)) ∙ parts-are-file q file parts spells some in
    ap (λ (h : Header). combined elf input h xs) (sym again.header)
    ∙ summaries-tell lanes elf input front all xs elf_bytes first_ok again.size (passed ∙ ap (λ (h : Header). Ok h) (sym again.header))
    (subst (λ (z : Subject). AreFaultless lanes z (length all) 0 0 all xs) subject (faultless lanes elf input file q spells parts some few xs sums))
    ∙ ap (verdict lanes elf input) file_is
