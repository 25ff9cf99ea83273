-- Bytes, words and memory. RISC-V Unprivileged ISA, "Memory" and RV32I "Load and Store Instructions": addresses are of bytes, 2 ^ 32 of them, and words lie the least significant byte first.
use Rattle.std.specs.Prelude.{ℕ, zero, suc, ◌+◌, ◌-◌, ◌*◌, ◌/◌, ◌%◌, ◌^◌, ℤ, pos, negsuc, List, [], ◌∷◌, length, unwrap_or, slice_index, nat_lt, nat_le, ◌&&◌, if◌then◌else◌, ◌<◌}
use Rattle.std.specs.List.{AllByRecursion}
use Rattle.std.specs.Int.{w32, from_le_bytes, cast_unsigned}
use Rattle.std.specs.Ordering.{nat_cmp}
use Rattle.std.specs.BTreeMap.{insert_entry, is_at}
use Rattle.std.specs.Map.{lookup}
pub use Rattle.rv_base.specs.LittleEndian.{u16_at, u32_at, u64_at}

-- the k bits of n from bit low on, as the ISA cuts fields out of words
abbrev pub bits_of : ℕ → ℕ → ℕ → ℕ
bits_of low k n = n / 2 ^ low % 2 ^ k

-- n as a signed number of k bits, in two's complement
abbrev pub sign_extend : ℕ → ℕ → ℤ
sign_extend k n = if nat_lt n (2 ^ (k - 1)) then pos n else negsuc (2 ^ k - 1 - n)

-- an address or a register with a signed offset, modulo 2 ^ 32 (RV32I "Load and Store Instructions": effective addresses wrap)
abbrev pub plus : ℕ → ℤ → ℕ
plus a z = (a + cast_unsigned w32 z) % 2 ^ 32

-- bytes in a row, from an address on
pub record Block : Type 0 where
  pub address : ℕ
  pub bytes : List ℕ

-- Memory: the bytes of a program, and over them those written since, by rising address. This form is the project's own.
pub record Memory : Type 0 where
  pub blocks : List Block
  pub written : List (ℕ × ℕ)

-- the byte of the block that holds the address, or 0
unfoldable pub block_byte : List Block → ℕ → ℕ
block_byte [] a = 0
block_byte (b ∷ bs) a = if nat_le b.address a && nat_lt a (b.address + length b.bytes) then slice_index b.bytes (a - b.address) else block_byte bs a

-- the byte at an address: the last one written there, or the program's, or else 0 (this project's own)
unfoldable pub byte : Memory → ℕ → ℕ
byte m a = unwrap_or (lookup (is_at (nat_cmp a)) m.written) (block_byte m.blocks a)

-- the k bytes from an address on
abbrev pub bytes_from : Memory → ℕ → ℕ → List ℕ
bytes_from m a zero = []
bytes_from m a (suc k) = byte m a ∷ bytes_from m (a + 1) k

-- word w of memory: the four bytes from address 4w on
abbrev pub word : Memory → ℕ → ℕ
word m w = from_le_bytes w32 (bytes_from m (4 * w) 4)

-- memory with the bytes stored from an address on
unfoldable pub store_bytes : Memory → ℕ → List ℕ → Memory
store_bytes m a [] = m
store_bytes m a (b ∷ bs) = store_bytes (record m { written = insert_entry nat_cmp m.written a b }) (a + 1) bs

-- the numbers of a list of bytes
abbrev pub AreBytes : List ℕ → Type 0
AreBytes xs = AllByRecursion (λ x. x < 2 ^ 8) xs
