-- What an image is, address by address.
use Rattle.std.specs.Prelude.{◌≡◌, ℕ, ◌+◌, ◌-◌, ◌<◌, ◌≤◌, List, slice_index}
use Rattle.std.specs.List.{AllByRecursion}
use Rattle.rv_spec.specs.Words.{u32_at, block_byte}
use Rattle.rv_spec.specs.Elf.{Segment, Image, load_segments}

-- the byte of an image at an address
abbrev pub image_byte : Image → ℕ → ℕ
image_byte i a = block_byte i.blocks a

-- a is one of the addresses at which the segment takes a byte of the file
abbrev pub TakesByteAt : Segment → ℕ → Type 0
TakesByteAt s a = (s.address ≤ a) × (a < s.address + s.file_size)

-- What an image is, address by address: the byte that some segment takes from the file there, and 0 where none does.
pub record IsImage (file : List ℕ) (i : Image) : Type 0 where
  pub entry : i.entry ≡ u32_at file 24
  pub taken : (a : ℕ) → AllByRecursion (λ s. TakesByteAt s a → image_byte i a ≡ slice_index file (s.offset + (a - s.address))) (load_segments file)
  pub elsewhere : (a : ℕ) → AllByRecursion (λ s. ¬ (TakesByteAt s a)) (load_segments file) → image_byte i a ≡ 0
