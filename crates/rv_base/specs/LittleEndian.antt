-- Numbers in a file, the least significant byte first, and the times of accesses.
use Rattle.std.specs.Prelude.{◌≡◌, ℕ, ◌+◌, ◌*◌, ◌<◌, ◌≤◌, ◌⊎◌, List, ◌++◌, length, take, drop, slice_index}
use Rattle.rv_base.specs.declared.cells.TheConstants.{TIMES_PER_STEP}
use Rattle.std.specs.Int.{Width, w16, w32, w64, byte_len, from_le_bytes, to_le_bytes}

-- the number of a width that lies at a place
abbrev pub number_at : Width → List ℕ → ℕ → ℕ
number_at w bytes at = from_le_bytes w (drop at bytes)

abbrev pub u16_at : List ℕ → ℕ → ℕ
u16_at bytes at = number_at w16 bytes at

abbrev pub u32_at : List ℕ → ℕ → ℕ
u32_at bytes at = number_at w32 bytes at

abbrev pub u64_at : List ℕ → ℕ → ℕ
u64_at bytes at = number_at w64 bytes at

-- the bytes with a number at a place
abbrev pub with_number : Width → List ℕ → ℕ → ℕ → List ℕ
with_number w bytes at v = take at bytes ++ to_le_bytes w v ++ drop (at + byte_len w) bytes

-- A number of a width is written at a place: it is read back from there, and no other byte changes.
pub record SetsNumber (w : Width) (at v : ℕ) (old new : List ℕ) : Type 0 where
  pub is : new ≡ with_number w old at v
  pub number : number_at w new at ≡ v
  pub others : (k : ℕ) → (k < at) ⊎ (at + byte_len w ≤ k) → slice_index new k ≡ slice_index old k
  pub size : length new ≡ length old

-- the time of a slot of a step
abbrev pub time_of : ℕ → ℕ → ℕ
time_of step slot = TIMES_PER_STEP * step + slot
