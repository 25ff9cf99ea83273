-- The record of the first worked program, addi x10, x0, 42; addi x17, x0, 93; ecall at 0x10000, which ends with code 42.
use Rattle.std.proofs.Common.{◌≡◌, ℕ, List, [], ◌∷◌, length, Some, None, refl}
use Rattle.rv_spec.specs.Elf.{image, first_fault}
use Rattle.rv_spec.specs.Digest.{sha_lanes}
use Rattle.rv_spec.specs.Record.{record_file}
use Rattle.rv_spec.proofs.Computes.{computes}

-- its ELF file of 96 bytes
abbrev pub elf : List ℕ
elf =
    0x7F ∷ 0x45 ∷ 0x4C ∷ 0x46 ∷ 1 ∷ 1 ∷ 1 ∷ 0 ∷ 0 ∷ 0 ∷ 0 ∷ 0 ∷ 0 ∷ 0 ∷ 0 ∷ 0
    ∷ 2 ∷ 0 ∷ 0xF3 ∷ 0 ∷ 1 ∷ 0 ∷ 0 ∷ 0 ∷ 0 ∷ 0 ∷ 1 ∷ 0 ∷ 0x34 ∷ 0 ∷ 0 ∷ 0
    ∷ 0 ∷ 0 ∷ 0 ∷ 0 ∷ 0 ∷ 0 ∷ 0 ∷ 0 ∷ 0x34 ∷ 0 ∷ 0x20 ∷ 0 ∷ 1 ∷ 0 ∷ 0 ∷ 0
    ∷ 0 ∷ 0 ∷ 0 ∷ 0 ∷ 1 ∷ 0 ∷ 0 ∷ 0 ∷ 0x54 ∷ 0 ∷ 0 ∷ 0 ∷ 0 ∷ 0 ∷ 1 ∷ 0
    ∷ 0 ∷ 0 ∷ 1 ∷ 0 ∷ 0x0C ∷ 0 ∷ 0 ∷ 0 ∷ 0x0C ∷ 0 ∷ 0 ∷ 0 ∷ 7 ∷ 0 ∷ 0 ∷ 0
    ∷ 4 ∷ 0 ∷ 0 ∷ 0 ∷ 0x13 ∷ 5 ∷ 0xA0 ∷ 2 ∷ 0x93 ∷ 8 ∷ 0xD0 ∷ 5 ∷ 0x73 ∷ 0 ∷ 0 ∷ 0 ∷ []

no-fault : first_fault elf ≡ None
unfolding computes
no-fault = refl

the-image : image 1 elf ≡ record { version = 1; entry = 0x10000; blocks = record { address = 0x10000; bytes = 0x13 ∷ 0x05 ∷ 0xA0 ∷ 0x02 ∷ 0x93 ∷ 0x08 ∷ 0xD0 ∷ 0x05 ∷ 0x73 ∷ 0 ∷ 0 ∷ 0 ∷ [] } ∷ [] }
unfolding computes
the-image = refl

short-fault : first_fault [] ≡ Some 1
unfolding computes
short-fault = refl

-- its record in one shard of three rows
abbrev pub file : List ℕ
file = record_file sha_lanes 1 elf [] 3 3 (record { kind = 0; code = 42 })

file-length : length file ≡ 719
unfolding computes
file-length = refl
