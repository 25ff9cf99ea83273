-- The head of a part (this project's own).
use Rattle.std.specs.Prelude.{ℕ, ◌&&◌, List, [], ◌∷◌, ◌++◌, length, take, Option, Some, None, bytes_eq, nat_le, if◌then◌else◌}
use Rattle.std.specs.Int.{w32, to_le_bytes}
use Rattle.rv_spec.specs.Words.{u32_at}
use Rattle.rv_parts.specs.declared.heads.TheConstants.{PART_HEAD_BYTES}
use Rattle.rv_parts.specs.declared.heads.PartHead.{PartHead}

-- RV32PRT1
abbrev pub part_magic : List ℕ
part_magic = 0x52 ∷ 0x56 ∷ 0x33 ∷ 0x32 ∷ 0x50 ∷ 0x52 ∷ 0x54 ∷ 0x31 ∷ []

-- the 24 bytes of a head
abbrev pub head_bytes : PartHead → List ℕ
head_bytes h = part_magic ++ to_le_bytes w32 h.number ++ to_le_bytes w32 h.parts ++ to_le_bytes w32 h.first ++ to_le_bytes w32 h.count

abbrev pub part_head_of : List ℕ → PartHead
part_head_of bytes = record { number = u32_at bytes 8; parts = u32_at bytes 12; first = u32_at bytes 16; count = u32_at bytes 20 }

-- the head at the front of the bytes, if it is all there and its magic is right
abbrev pub head_in : List ℕ → Option PartHead
head_in bytes = if nat_le PART_HEAD_BYTES (length bytes) && bytes_eq (take 8 bytes) part_magic then Some (part_head_of bytes) else None
