-- The executable of a program has no fault, and its image has the words of the code from the first address of the code on.
use Rattle.std.proofs.Common.{◌≡◌, ℕ, suc, ◌+◌, ◌-◌, ◌*◌, ◌^◌, ◌<◌, ◌≤◌, true, cond, ◌&&◌, nat_le, nat_lt, List, [], ◌∷◌, length, drop, map, slice_index, slice_index_or, Some, None, refl, ◌∙◌, ap, subst, arith, length-append}
use Rattle.std.specs.List.{AllByRecursion}
use Rattle.std.specs.Int.{w32, from_le_bytes, to_le_bytes}
use Rattle.std.proofs.lemmas.Bool.{lt-ltb, le-leb}
use Rattle.std.proofs.lemmas.Nat.{from_le_bytes-to_le_bytes_4}
use Rattle.rv_base.specs.declared.instr.Instr.{Instr}
use Rattle.rv_spec.specs.Words.{Memory, Block, block_byte, byte, bytes_from}
use Rattle.rv_spec.specs.Elf.{first_fault, image}
use Rattle.rv_spec.specs.Decode.{decode}
use Rattle.rv_rules.proofs.Lemmas.{both-true}
use Rattle.rv_elf.specs.ElfFile.{PartBytes}
use Rattle.rv_elf.specs.Written.{words_bytes}
use Rattle.rv_elf.proofs.Lemmas.{IsWritable, bodies_of, written-size as size, written-faultless as no-fault, written-image as image_is}
use Rattle.rv_gen.specs.Programs.{code_start, executable_of}
use Rattle.rv_gen.proofs.Lengths.{length-words}
use Rattle.rv_gen.proofs.Between.{CodeAt, four-same}

-- the bytes from an address on
abbrev Holds : Memory → ℕ → List ℕ → Type 0
Holds m a [] = Unit {0}
Holds m a (b ∷ bs) = (byte m a ≡ b) × Holds m (a + 1) bs

holds-each : (m : Memory) (bs : List ℕ) (a : ℕ) → ((j : ℕ) → j < length bs → byte m (a + j) ≡ slice_index bs j) → Holds m a bs
holds-each m [] a each = tt
holds-each m (b ∷ bs) a each =
    let first : byte m a ≡ b = ap (byte m) (let here : a ≡ a + 0 = omega arith in here) ∙ each 0 (omega arith) in
    (first, holds-each m bs (a + 1) (λ j below. ap (byte m) (let place : a + 1 + j ≡ a + suc j = omega arith in place) ∙ each (suc j) (omega arith)))

-- words in memory that spell instructions
code-spelt : (m : Memory) (ws : List ℕ) (is : List Instr) (k : ℕ) → k + length ws ≤ 1000 → AllByRecursion (λ w. w < 2 ^ 32) ws → map decode ws ≡ map Some is → Holds m (code_start + 4 * k) (words_bytes ws) → CodeAt m k is
code-spelt m ws [] k below fit spell holds = tt
code-spelt m [] (i ∷ is) k below fit spell holds = absurd (let e : 0 ≡ suc (length (map Some is)) = ap length spell in omega arith)
code-spelt m (w ∷ ws) (i ∷ is) k below fit spell holds =
    let at : ℕ = code_start + 4 * k in
    let here : decode w ≡ Some i = ap (λ l. slice_index_or l 0 None) spell in
    let later : map decode ws ≡ map Some is = ap (drop 1) spell in
    let bytes : bytes_from m at 4 ≡ to_le_bytes w32 w = four-same (byte m at) (byte m (at + 1)) (byte m (at + 1 + 1)) (byte m (at + 1 + 1 + 1)) _ _ _ _ holds.0 holds.1.0 holds.1.1.0 holds.1.1.1.0 in
    let place : at + 1 + 1 + 1 + 1 ≡ code_start + 4 * suc k = omega arith in (
      record { below = omega arith; spells = ap (λ bs. decode (from_le_bytes w32 bs)) bytes ∙ ap decode (from_le_bytes-to_le_bytes_4 w fit.0) ∙ here },
      code-spelt m ws is (suc k) (omega arith) fit.1 later (subst (λ a. Holds m a (words_bytes ws)) place holds.1.1.1.1),
    )

module _ (words : List ℕ) (few : length words ≤ 1000) where
  abbrev part : PartBytes
  part = record { address = code_start; bytes = words_bytes words; size = length (words_bytes words) }

  many : length (words_bytes words) ≡ 4 * length words
  many = length-words words

  bodies : length (bodies_of (part ∷ [])) ≡ 4 * length words
  bodies = length-append (words_bytes words) [] ∙ (let n = many in omega arith)

  writable : AllByRecursion IsWritable (part ∷ [])
  writable = let n = many in (record { address = omega arith; size = omega arith; fits = omega arith; in_memory = omega arith }, tt)

  room : 52 + 32 * 1 + length (bodies_of (part ∷ [])) < 2 ^ 32
  room = let n = bodies in omega arith

  pub executable-size : length (executable_of words) ≡ 84 + 4 * length words
  executable-size = size code_start (part ∷ []) (omega arith) refl (omega arith) writable room refl ∙ (let n = bodies in omega arith)

  pub executable-faultless : first_fault (executable_of words) ≡ None
  executable-faultless = no-fault code_start (part ∷ []) (omega arith) refl (omega arith) writable room refl

  abbrev pub code_blocks : List Block
  code_blocks = record { address = code_start; bytes = words_bytes words } ∷ []

  -- the image begins with the first word of the code
  pub executable-image : image 1 (executable_of words) ≡ record { version = 1; entry = code_start; blocks = code_blocks }
  executable-image = image_is code_start (part ∷ []) (omega arith) refl (omega arith) writable room refl

  abbrev pub code_memory : Memory
  code_memory = record { blocks = code_blocks; written = [] }

  code-byte : (j : ℕ) → j < length (words_bytes words) → byte code_memory (code_start + j) ≡ slice_index (words_bytes words) j
  unfolding byte block_byte
  code-byte j below =
      let a : ℕ = code_start + j in
      let inside : (nat_le code_start a && nat_lt a (code_start + length (words_bytes words))) ≡ true = both-true _ _ (le-leb code_start a (omega arith)) (lt-ltb a (code_start + length (words_bytes words)) (omega arith)) in
      ap (λ b. cond b (slice_index (words_bytes words) (a - code_start)) 0) inside ∙ ap (slice_index (words_bytes words)) (let back : a - code_start ≡ j = omega arith in back)

  pub image-spells : (is : List Instr) → AllByRecursion (λ w. w < 2 ^ 32) words → map decode words ≡ map Some is → CodeAt code_memory 0 is
  image-spells is fit spell = code-spelt code_memory words is 0 (omega arith) fit spell (holds-each code_memory (words_bytes words) code_start code-byte)
