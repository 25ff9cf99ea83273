-- The image of a file without a fault is, address by address, what its segments take from the file.
use Rattle.std.proofs.Common.{◌≡◌, ℕ, ◌+◌, ◌-◌, ◌<◌, ◌≤◌, min, max, Bool, true, false, cond, ◌&&◌, nat_lt, nat_le, List, [], ◌∷◌, length, take, drop, map, slice_index, None, refl, sym, ◌∙◌, ap, subst, arith, length-take, length-drop, get_or-take, get_or-drop, inl, inr}
use Rattle.std.specs.List.{AllByRecursion, list_any}
use Rattle.std.proofs.lemmas.Bool.{ltb-true, ltb-false, lt-ltb, leb-true, le-leb}
use Rattle.rv_spec.specs.Words.{block_byte}
use Rattle.rv_rules.specs.Membership.{In}
use Rattle.rv_rules.proofs.Lemmas.{both-true, left-true, right-true, left-false, right-false, all-in, all-of}
use Rattle.rv_elf.proofs.FaultLaws.{all-clear}
use Rattle.rv_elf.proofs.IndexLaws.{none-in}
use Rattle.rv_spec.specs.Elf.{Segment, load_segments, overlaps, some_overlap, fault_tests, first_fault, image, block_of}
use Rattle.rv_elf.specs.ByAddress.{image_byte, TakesByteAt, IsImage}

-- the bytes that a segment takes are as many as it says
size-is : (file : List ℕ) (s : Segment) → s.offset + s.file_size ≤ length file → length (take s.file_size (drop s.offset file)) ≡ s.file_size
size-is file s h = omega (arith, length-take s.file_size (drop s.offset file), length-drop s.offset file)

abbrev holds : List ℕ → Segment → ℕ → Bool
holds file s a = nat_le s.address a && nat_lt a (s.address + length (take s.file_size (drop s.offset file)))

holds-true : (file : List ℕ) (s : Segment) (a : ℕ) → s.offset + s.file_size ≤ length file → TakesByteAt s a → holds file s a ≡ true
holds-true file s a h t = both-true _ _ (le-leb s.address a t.0) (lt-ltb a (s.address + length (take s.file_size (drop s.offset file))) (omega (arith, size-is file s h, t.1)))

true-holds : (file : List ℕ) (s : Segment) (a : ℕ) → s.offset + s.file_size ≤ length file → holds file s a ≡ true → TakesByteAt s a
true-holds file s a h e =
    let upper : a < s.address + length (take s.file_size (drop s.offset file)) = ltb-true a (s.address + length (take s.file_size (drop s.offset file))) (right-true _ _ e) in
    (leb-true s.address a (left-true _ _ e), omega (arith, size-is file s h, upper))

-- what the segments of a file without a fault meet
record Sound (file : List ℕ) (ss : List Segment) : Type 0 where
  in_file : (s : Segment) → In s ss → s.offset + s.file_size ≤ length file
  in_memory : (s : Segment) → In s ss → s.file_size ≤ s.memory_size
  apart : some_overlap ss ≡ false

rest : (file : List ℕ) (s : Segment) (ss : List Segment) → Sound file (s ∷ ss) → Sound file ss
rest file s ss o = record { in_file = λ t m. o.in_file t (inr m); in_memory = λ t m. o.in_memory t (inr m); apart = right-false (list_any (overlaps s) ss) (some_overlap ss) o.apart }

elsewhere : (file : List ℕ) (ss : List Segment) → Sound file ss → (a : ℕ) → ((s : Segment) → In s ss → ¬ (TakesByteAt s a)) → block_byte (map (block_of file) ss) a ≡ 0
unfolding block_byte
elsewhere file [] o a none = refl
elsewhere file (s ∷ ss) o a none =
    elim (holds file s a) as (λ b. holds file s a ≡ b → cond b (slice_index (take s.file_size (drop s.offset file)) (a - s.address)) (block_byte (map (block_of file) ss) a) ≡ 0) [
      | true ↦ λ e. absurd (none s (inl refl) (true-holds file s a (o.in_file s (inl refl)) e))
      | false ↦ λ e. elsewhere file ss (rest file s ss o) a (λ t m. none t (inr m))
    ] refl

taken : (file : List ℕ) (ss : List Segment) → Sound file ss → (a : ℕ) (s : Segment) → In s ss → TakesByteAt s a → block_byte (map (block_of file) ss) a ≡ slice_index file (s.offset + (a - s.address))
unfolding block_byte
taken file [] o a s m t = absurd m
taken file (u ∷ ss) o a s (inl same) t =
    let here : TakesByteAt u a = subst (λ z. TakesByteAt z a) same t in
    let inside : a - u.address < u.file_size = (let low = here.0 in let high = here.1 in omega arith) in
    ap (λ b. cond b (slice_index (take u.file_size (drop u.offset file)) (a - u.address)) (block_byte (map (block_of file) ss) a)) (holds-true file u a (o.in_file u (inl refl)) here)
    ∙ get_or-take u.file_size (drop u.offset file) (a - u.address) 0 inside
    ∙ get_or-drop u.offset file (a - u.address) 0
    ∙ ap (λ z. slice_index file (z.offset + (a - z.address))) (sym same)
taken file (u ∷ ss) o a s (inr m) t =
    elim (holds file u a) as (λ b. holds file u a ≡ b → cond b (slice_index (take u.file_size (drop u.offset file)) (a - u.address)) (block_byte (map (block_of file) ss) a) ≡ slice_index file (s.offset + (a - s.address))) [
      | true ↦ λ e.
          let h = true-holds file u a (o.in_file u (inl refl)) e in
          let clear : overlaps u s ≡ false = none-in (overlaps u) s ss (left-false (list_any (overlaps u) ss) (some_overlap ss) o.apart) m in
          let no : min (u.address + u.memory_size) (s.address + s.memory_size) ≤ max u.address s.address = ltb-false (max u.address s.address) (min (u.address + u.memory_size) (s.address + s.memory_size)) clear in
          absurd (omega (arith, no, h.0, h.1, t.0, t.1, o.in_memory u (inl refl), o.in_memory s (inr m)))
      | false ↦ λ e. taken file ss (rest file u ss o) a s m t
    ] refl

-- the law
pub image-is : (version : ℕ) (file : List ℕ) → first_fault file ≡ None → IsImage file (image version file)
unfolding first_fault
image-is version file e =
    let tests : AllByRecursion (λ b. b ≡ false) (fault_tests file) = all-clear (fault_tests file) 1 e in
    let late = tests.1.1.1.1.1.1.1.1.1.1 in
    let o : Sound file (load_segments file) = record {
      in_file = λ s m. ltb-false (length file) (s.offset + s.file_size) (none-in (λ s. nat_lt (length file) (s.offset + s.file_size)) s (load_segments file) late.0 m);
      in_memory = λ s m. ltb-false s.memory_size s.file_size (none-in (λ s. nat_lt s.memory_size s.file_size) s (load_segments file) late.1.0 m);
      apart = late.1.1.1.1.0;
    } in
    record {
      entry = refl;
      taken = λ a. all-of (λ s. TakesByteAt s a → image_byte (image version file) a ≡ slice_index file (s.offset + (a - s.address))) (load_segments file) (λ s m t. taken file (load_segments file) o a s m t);
      elsewhere = λ a none. elsewhere file (load_segments file) o a (λ s m. all-in (λ s. ¬ (TakesByteAt s a)) (load_segments file) none s m);
    }
