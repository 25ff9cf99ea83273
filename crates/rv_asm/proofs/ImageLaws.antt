-- Words in the image of their executable.
use Rattle.std.proofs.Common.{◌≡◌, ℕ, zero, suc, ◌+◌, ◌-◌, ◌*◌, ◌^◌, ◌<◌, List, [], ◌∷◌, length, take, get_or, refl, ap, ◌∙◌, arith, length-append, Result, Ok, Err, IfOk}
use Rattle.std.specs.Int.{w32, to_le_bytes, from_le_bytes}
use Rattle.std.proofs.lemmas.List.{take_all, get_or_append_left, get_or-append-add}
use Rattle.std.proofs.lemmas.Nat.{from_le_bytes-to_le_bytes_4}
use Rattle.rv_spec.specs.Words.{byte}
use Rattle.rv_spec.specs.Elf.{Image}
use Rattle.rv_elf.specs.ElfFile.{PartBytes}
use Rattle.rv_elf.specs.ByAddress.{image_byte}
use Rattle.rv_elf.specs.Loaded.{loaded}
use Rattle.rv_elf.specs.Written.{words_bytes, HoldsParts}
use Rattle.rv_asm.specs.Executable.{part_of, HoldsWords}
use Rattle.rv_asm.specs.Symbols.{address_of}

pub length-words : (ws : List ℕ) → length (words_bytes ws) ≡ 4 * length ws
length-words [] = refl
length-words (w ∷ ws) = omega (arith, length-append (to_le_bytes w32 w) (words_bytes ws), length-words ws)

-- byte j of word k
word-byte : (ws : List ℕ) (k j : ℕ) → k < length ws → j < 4 → get_or (words_bytes ws) (4 * k + j) 0 ≡ get_or (to_le_bytes w32 (get_or ws k 0)) j 0
word-byte [] k j within small = absurd (omega arith)
word-byte (w ∷ ws) zero j within small =
    let first : 4 * 0 + j ≡ j = omega arith in
    ap (λ (i : ℕ). get_or (words_bytes (w ∷ ws)) i 0) first ∙ get_or_append_left (to_le_bytes w32 w) (words_bytes ws) 0 j small
word-byte (w ∷ ws) (suc k) j within small =
    let later : 4 * suc k + j ≡ 4 + (4 * k + j) = omega arith in
    ap (λ (i : ℕ). get_or (words_bytes (w ∷ ws)) i 0) later ∙ get_or-append-add (to_le_bytes w32 w) (words_bytes ws) (4 * k + j) 0 ∙ word-byte ws k j (omega arith) small

loaded-byte : (i : Image) (a : ℕ) → byte (loaded i) a ≡ image_byte i a
unfolding byte
loaded-byte i a = refl

held-byte : (ws : List ℕ) (i : Image) → HoldsParts (part_of ws ∷ []) i → (k j a : ℕ) → k < length ws → j < 4 → a ≡ address_of k + j → byte (loaded i) a ≡ get_or (to_le_bytes w32 (get_or ws k 0)) j 0
held-byte ws i holds k j a within small at =
    let many = length-words ws in
    let place : a - 65536 ≡ 4 * k + j = omega arith in
    loaded-byte i a ∙ (holds.within a).0 (omega arith, omega arith) ∙ ap (λ (n : ℕ). get_or (words_bytes ws) n 0) place ∙ word-byte ws k j within small

four : (a b c d x y z w : ℕ) → a ≡ x → b ≡ y → c ≡ z → d ≡ w → from_le_bytes w32 (a ∷ b ∷ c ∷ d ∷ []) ≡ from_le_bytes w32 (x ∷ y ∷ z ∷ w ∷ [])
four a b c d x y z w e f g h = rw (e, f, g, h) refl

pub words-held : (ws : List ℕ) (i : Image) → HoldsParts (part_of ws ∷ []) i → ((k : ℕ) → k < length ws → get_or ws k 0 < 2 ^ 32) → HoldsWords ws i
words-held ws i holds small k within =
    let a : ℕ = address_of k in
    four (byte (loaded i) a) (byte (loaded i) (a + 1)) (byte (loaded i) (a + 1 + 1)) (byte (loaded i) (a + 1 + 1 + 1)) _ _ _ _
    (held-byte ws i holds k 0 a within (omega arith) (omega arith))
    (held-byte ws i holds k 1 (a + 1) within (omega arith) (omega arith))
    (held-byte ws i holds k 2 (a + 1 + 1) within (omega arith) (omega arith))
    (held-byte ws i holds k 3 (a + 1 + 1 + 1) within (omega arith) (omega arith))
    ∙ from_le_bytes-to_le_bytes_4 (get_or ws k 0) (small k within)

abbrev with_size : List ℕ → ℕ → PartBytes
with_size bytes len = record { address = 65536; bytes = bytes; size = len }

abbrev pub part_with : List ℕ → ℕ → PartBytes
part_with bytes len = record { address = 65536; bytes = take len bytes; size = len }

-- the part that is written
pub part-is : (ws bytes : List ℕ) (len : ℕ) → bytes ≡ words_bytes ws → len ≡ length bytes → part_with bytes len ≡ part_of ws
part-is ws bytes len same long =
    let whole : take len bytes ≡ bytes = take_all len bytes (omega arith) in
    ap (λ (b : List ℕ). with_size b len) (whole ∙ same) ∙ ap (λ (n : ℕ). with_size (words_bytes ws) n) (long ∙ ap length same)

pub if-ok : {T E : Type 0} {P Q : T → Type 0} (r : Result T E) → ((v : T) → P v → Q v) → IfOk r P → IfOk r Q
if-ok (Ok v) f h = f v h
if-ok (Err e) f h = h
