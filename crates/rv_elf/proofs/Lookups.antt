-- What the index gives at an address is the image's byte there.
use Rattle.std.proofs.Common.{◌≡◌, inl, inr, ℕ, ◌+◌, ◌-◌, ◌<◌, ◌≤◌, Option, Some, None, List, [], ◌∷◌, length, drop, get_or, slice_index, sym, ◌∙◌, ap, subst, arith, nat_lt}
use Rattle.std.specs.Int.{w32, from_le_bytes}
use Rattle.std.proofs.lemmas.Bool.{ltb-false, cases_order}
use Rattle.std.proofs.lemmas.List.{get_or-drop}
use Rattle.rv_rules.proofs.Lemmas.{all-in, all-of}
use Rattle.rv_elf.proofs.ImageLaws.{image-is}
use Rattle.rv_spec.specs.Words.{byte, bytes_from, u32_at}
use Rattle.rv_spec.specs.Elf.{Segment as Described, load_segments, first_fault, image}
use Rattle.rv_elf.specs.ByAddress.{image_byte, TakesByteAt}
use Rattle.rv_elf.specs.declared.segment.Segment.{Segment}
use Rattle.rv_elf.specs.Loaded.{loaded}
use Rattle.rv_elf.specs.Segments.{described}
use Rattle.rv_elf.specs.Index.{IsIndex, AreBegun, IsLastOf}
use Rattle.rv_elf.proofs.FaultLaws.{clear-all}
use Rattle.rv_elf.proofs.IndexLaws.{none-in}

-- the bytes that a file without a fault loads
abbrev pub loads_byte : List ℕ → ℕ → ℕ
loads_byte file a = image_byte (image 1 file) a

blank : Segment
blank = record { kind = 0; offset = 0; address = 0; file_size = 0; memory_size = 0 }

module _ (file : List ℕ) (index : List Segment) (sound : first_fault file ≡ None) (x : IsIndex index (load_segments file)) where
  -- a segment of the index gives its bytes
  given : (i : ℕ) (d : Segment) (a : ℕ) → i < length index → TakesByteAt (described (get_or index i d)) a
      → loads_byte file a ≡ slice_index file ((get_or index i d).offset + (a - (get_or index i d).address))
  given i d a h t =
      all-in (λ s. TakesByteAt s a → loads_byte file a ≡ slice_index file (s.offset + (a - s.address))) (load_segments file)
      ((image-is 1 file sound).taken a) (described (get_or index i d)) (x.from i d h) t

  -- and no segment of it, none
  absent : (a : ℕ) → ((i : ℕ) (d : Segment) → i < length index → TakesByteAt (described (get_or index i d)) a → ⊥) → loads_byte file a ≡ 0
  absent a none = (image-is 1 file sound).elsewhere a (all-of (λ s. ¬ (TakesByteAt s a)) (load_segments file) (λ s m t. no-other s t (x.complete s m (let low = t.0 in let high = t.1 in omega arith))))
    where
      no-other : (s : Described) → TakesByteAt s a → ((i : ℕ) × (i < length index) × ((d : Segment) → described (get_or index i d) ≡ s)) → ⊥
      no-other s t (i, h, e) = none i blank h (subst (λ z. TakesByteAt z a) (sym (e blank)) t)

  -- the bytes of a segment lie in the file
  in-file : (i : ℕ) (d : Segment) → i < length index → (get_or index i d).offset + (get_or index i d).file_size ≤ length file
  in-file i d h =
      let late = (clear-all file sound).1.1.1.1.1.1.1.1.1.1 in
      ltb-false (length file) ((get_or index i d).offset + (get_or index i d).file_size)
      (none-in (λ s. nat_lt (length file) (s.offset + s.file_size)) (described (get_or index i d)) (load_segments file) late.0 (x.from i d h))

  -- ---- by the last segment that begins at or below an address

  -- the segment lies in the file
  pub found-in-file : (q n : ℕ) (s : Segment) → AreBegun index q n → IsLastOf index n (Some s) → s.offset + s.file_size ≤ length file
  found-in-file q n s b l =
      let bound = b.bound in let some = l.0 in
      subst (λ z. z.offset + z.file_size ≤ length file) (l.1 s) (in-file (n - 1) s (omega arith))

  pub found-begins : (q n : ℕ) (s : Segment) → AreBegun index q n → IsLastOf index n (Some s) → s.address ≤ q
  found-begins q n s b l = let some = l.0 in subst (λ z. z.address ≤ q) (l.1 s) (b.begun (n - 1) s (omega arith))

  -- it gives its own bytes
  pub found-within : (q n : ℕ) (s : Segment) (a : ℕ) → AreBegun index q n → IsLastOf index n (Some s) → s.address ≤ a → a < s.address + s.file_size
      → loads_byte file a ≡ slice_index file (s.offset + (a - s.address))
  found-within q n s a b l low high =
      let bound = b.bound in let some = l.0 in
      subst (λ z. TakesByteAt (described z) a → loads_byte file a ≡ slice_index file (z.offset + (a - z.address))) (l.1 s) (given (n - 1) s a (omega arith)) (low, high)

  -- behind it nothing is loaded, up to the address
  pub found-behind : (q n : ℕ) (s : Segment) (a : ℕ) → AreBegun index q n → IsLastOf index n (Some s) → s.address + s.file_size ≤ a → a ≤ q → loads_byte file a ≡ 0
  found-behind q n s a b l behind up = absent a (λ i d h t.
      let low = t.0 in let high = t.1 in let some = l.0 in let bound = b.bound in
      elim (cases_order i (n - 1)) [
        | inl same ↦
            let e : get_or index i d ≡ s = ap (λ k. get_or index k d) same ∙ l.1 d in
            let here : a < s.address + s.file_size = subst (λ z. a < z.address + z.file_size) e high in
            omega arith
        | inr (inl less) ↦
            let e : get_or index (n - 1) d ≡ s = l.1 d in
            let before : (get_or index i d).address + (get_or index i d).file_size ≤ s.address =
            subst (λ z. (get_or index i d).address + (get_or index i d).file_size ≤ z.address) e (x.apart i (n - 1) d less (omega arith)) in
            omega arith
        | inr (inr more) ↦ (let later = b.above i d (omega arith) h in omega arith)
      ])

  -- where no segment begins, nothing is loaded
  pub found-none : (q n a : ℕ) → AreBegun index q n → n ≡ 0 → a ≤ q → loads_byte file a ≡ 0
  found-none q n a b e up = absent a (λ i d h t. let low = t.0 in let later = b.above i d (omega arith) h in omega arith)

  -- the answer of a search that finds none
  pub found-nothing : (q a : ℕ) (o : Option Segment) → ((n : ℕ) × AreBegun index q n × IsLastOf index n o) → o ≡ None → a ≤ q → loads_byte file a ≡ 0
  found-nothing q a o l e up =
      let none : (n : ℕ) × AreBegun index q n × IsLastOf index n None = subst (λ z. (n : ℕ) × AreBegun index q n × IsLastOf index n z) e l in
      found-none q none.0 a none.1 none.2 up

-- a word from its four bytes
pub word-is : (file : List ℕ) (a b0 b1 b2 b3 : ℕ) → b0 ≡ loads_byte file a → b1 ≡ loads_byte file (a + 1) → b2 ≡ loads_byte file (a + 2) → b3 ≡ loads_byte file (a + 3)
    → from_le_bytes w32 (b0 ∷ b1 ∷ b2 ∷ b3 ∷ []) ≡ from_le_bytes w32 (bytes_from (loaded (image 1 file)) a 4)
unfolding byte
word-is file a b0 b1 b2 b3 e0 e1 e2 e3 =
    let two : a + 2 ≡ a + 1 + 1 = omega arith in
    let three : a + 3 ≡ a + 1 + 1 + 1 = omega arith in
    ap (λ z. from_le_bytes w32 (z ∷ b1 ∷ b2 ∷ b3 ∷ [])) e0
    ∙ ap (λ z. from_le_bytes w32 (loads_byte file a ∷ z ∷ b2 ∷ b3 ∷ [])) e1
    ∙ ap (λ z. from_le_bytes w32 (loads_byte file a ∷ loads_byte file (a + 1) ∷ z ∷ b3 ∷ [])) (e2 ∙ ap (loads_byte file) two)
    ∙ ap (λ z. from_le_bytes w32 (loads_byte file a ∷ loads_byte file (a + 1) ∷ loads_byte file (a + 1 + 1) ∷ z ∷ [])) (e3 ∙ ap (loads_byte file) three)

-- a word of the file, where its bytes are loaded one after another
pub word-in-file : (file : List ℕ) (p a : ℕ) → ((k : ℕ) → k < 4 → loads_byte file (a + k) ≡ slice_index file (p + k))
    → u32_at file p ≡ from_le_bytes w32 (bytes_from (loaded (image 1 file)) a 4)
word-in-file file p a h =
    let here : a ≡ a + 0 = omega arith in
    word-is file a (slice_index (drop p file) 0) (slice_index (drop p file) 1) (slice_index (drop p file) 2) (slice_index (drop p file) 3)
    (get_or-drop p file 0 0 ∙ sym (h 0 (omega arith)) ∙ ap (loads_byte file) (sym here))
    (get_or-drop p file 1 0 ∙ sym (h 1 (omega arith)))
    (get_or-drop p file 2 0 ∙ sym (h 2 (omega arith)))
    (get_or-drop p file 3 0 ∙ sym (h 3 (omega arith)))

-- the bytes of one segment, one after another
pub one-after-another : (file : List ℕ) (index : List Segment) (sound : first_fault file ≡ None) (x : IsIndex index (load_segments file)) (q n : ℕ) (s : Segment) (a k : ℕ)
    → AreBegun index q n → IsLastOf index n (Some s) → s.address ≤ a → a + k < s.address + s.file_size → loads_byte file (a + k) ≡ slice_index file (s.offset + (a - s.address) + k)
one-after-another file index sound x q n s a k b l low high =
    let place : s.offset + (a + k - s.address) ≡ s.offset + (a - s.address) + k = omega arith in
    found-within file index sound x q n s (a + k) b l (omega arith) high ∙ ap (slice_index file) place
