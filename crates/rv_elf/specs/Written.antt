-- What is written as an executable.
use Rattle.std.specs.Prelude.{◌≡◌, ℕ, ◌+◌, ◌-◌, ◌^◌, ◌<◌, ◌≤◌, List, [], ◌∷◌, ◌++◌, length, replicate, take, drop, map, slice_index}
use Rattle.std.specs.List.{AllByRecursion, flat_map}
use Rattle.std.specs.Int.{w16, w32, to_le_bytes}
use Rattle.rv_spec.specs.Elf.{Segment, Image}
use Rattle.rv_elf.specs.ElfFile.{PartBytes}
use Rattle.rv_elf.specs.ByAddress.{image_byte}
use Rattle.rv_elf.specs.declared.writer.Part.{Part}

-- the parts with their bytes, which lie one part after the other
abbrev pub with_bytes : List Part → List ℕ → List PartBytes
with_bytes [] bytes = []
with_bytes (p ∷ ps) bytes = record { address = p.addr; bytes = take p.len bytes; size = p.size } ∷ with_bytes ps (drop p.len bytes)

-- a part's numbers have 32 bits
abbrev pub AreWords : Part → Type 0
AreWords p = (p.addr < 2 ^ 32) × (p.size < 2 ^ 32)

-- a part as a segment of memory
abbrev pub segment_of : Part → Segment
segment_of p = record { kind = 1; offset = 0; address = p.addr; file_size = p.len; memory_size = p.size }

-- the image of an entry and these parts
abbrev pub image_of_parts : ℕ → List PartBytes → Image
image_of_parts entry ps = record { version = 1; entry = entry; blocks = map (λ p. record { address = p.address; bytes = p.bytes }) ps }

-- a is the address of one of the part's bytes
abbrev pub IsWithin : PartBytes → ℕ → Type 0
IsWithin p a = (p.address ≤ a) × (a < p.address + length p.bytes)

-- An image has, address by address, the bytes of these parts, and 0 elsewhere.
pub record HoldsParts (ps : List PartBytes) (i : Image) : Type 0 where
  pub within : (a : ℕ) → AllByRecursion (λ p. IsWithin p a → image_byte i a ≡ slice_index p.bytes (a - p.address)) ps
  pub elsewhere : (a : ℕ) → AllByRecursion (λ p. ¬ (IsWithin p a)) ps → image_byte i a ≡ 0

-- ---- how it is written

-- numbers of four bytes
abbrev pub words_bytes : List ℕ → List ℕ
words_bytes ns = flat_map (to_le_bytes w32) ns

-- the ELF header before a table of n program headers
abbrev pub elf_header : ℕ → ℕ → List ℕ
elf_header entry n =
    (0x7F ∷ 0x45 ∷ 0x4C ∷ 0x46 ∷ 1 ∷ 1 ∷ 1 ∷ []) ++ replicate 9 0
    ++ to_le_bytes w16 2 ++ to_le_bytes w16 243 ++ to_le_bytes w32 1 ++ to_le_bytes w32 entry
    ++ to_le_bytes w32 52 ++ to_le_bytes w32 0 ++ to_le_bytes w32 0
    ++ to_le_bytes w16 52 ++ to_le_bytes w16 32 ++ to_le_bytes w16 n ++ replicate 6 0

-- the program headers, where the first part's bytes begin at this offset of the file
unfoldable pub header_table : ℕ → List Part → List ℕ
header_table offset [] = []
header_table offset (p ∷ ps) = words_bytes (1 ∷ offset ∷ p.addr ∷ p.addr ∷ p.len ∷ p.size ∷ 7 ∷ 4 ∷ []) ++ header_table (offset + p.len) ps
