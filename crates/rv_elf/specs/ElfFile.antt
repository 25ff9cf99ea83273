-- The one ELF file that is written of an entry and parts: System V gABI, chapters 4 and 5, for 32 bits and RISC-V.
use Rattle.std.specs.Prelude.{ℕ, ◌+◌, ◌*◌, List, [], ◌∷◌, ◌++◌, length, replicate}
use Rattle.std.specs.List.{flat_map}
use Rattle.std.specs.Int.{w16, w32, to_le_bytes}

-- what becomes a segment: its bytes from an address on, and its size in memory
pub record PartBytes : Type 0 where
  pub address : ℕ
  pub bytes : List ℕ
  pub size : ℕ

-- program headers, where the first segment's bytes begin at this offset of the file
abbrev pub part_headers : ℕ → List PartBytes → List ℕ
part_headers offset [] = []
part_headers offset (p ∷ ps) =
    to_le_bytes w32 1 ++ to_le_bytes w32 offset ++ to_le_bytes w32 p.address ++ to_le_bytes w32 p.address
    ++ to_le_bytes w32 (length p.bytes) ++ to_le_bytes w32 p.size ++ to_le_bytes w32 7 ++ to_le_bytes w32 4
    ++ part_headers (offset + length p.bytes) ps

-- an executable: the ELF header, a program header for each part, and the parts' bytes one after another
unfoldable pub elf_file : ℕ → List PartBytes → List ℕ
elf_file entry ps =
    (0x7F ∷ 0x45 ∷ 0x4C ∷ 0x46 ∷ 1 ∷ 1 ∷ 1 ∷ []) ++ replicate 9 0
    ++ to_le_bytes w16 2 ++ to_le_bytes w16 243 ++ to_le_bytes w32 1 ++ to_le_bytes w32 entry
    ++ to_le_bytes w32 52 ++ to_le_bytes w32 0 ++ to_le_bytes w32 0
    ++ to_le_bytes w16 52 ++ to_le_bytes w16 32 ++ to_le_bytes w16 (length ps) ++ replicate 6 0
    ++ part_headers (52 + 32 * length ps) ps ++ flat_map (λ p. p.bytes) ps
