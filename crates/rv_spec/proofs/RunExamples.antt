-- Runs of small programs: states, rows and tables, which compute.
use Rattle.std.proofs.Common.{◌≡◌, ℕ, List, [], ◌∷◌, map, Some, refl}
use Rattle.std.specs.List.{flat_map}
use Rattle.std.specs.Int.{w32, to_le_bytes}
use Rattle.rv_base.specs.declared.record.Access.{Access}
use Rattle.rv_spec.specs.Elf.{Image}
use Rattle.rv_spec.specs.Run.{run, end_at}
use Rattle.rv_spec.specs.Cells.{value}
use Rattle.rv_spec.specs.Trace.{row, table}
use Rattle.rv_spec.proofs.Computes.{computes}

-- a program of these words at 0x10000
abbrev words : ℕ → List ℕ → Image
words version ws = record { version = version; entry = 0x10000; blocks = record { address = 0x10000; bytes = flat_map (to_le_bytes w32) ws } ∷ [] }

abbrev access : ℕ → ℕ → ℕ → ℕ → ℕ → Access
access slot cell old prev new = record { slot = slot; cell = cell; old = old; prev = prev; new = new }

-- addi x10, x0, 42; addi x17, x0, 93; ecall
abbrev program : Image
program = words 1 (0x02A00513 ∷ 0x05D00893 ∷ 0x00000073 ∷ [])

after-two : (run program [] 2).pc ≡ 0x10008
unfolding computes
after-two = refl

ends : end_at program [] 2 ≡ Some (record { kind = 0; code = 42 })
unfolding computes
ends = refl

row-zero : (row program [] 0).accesses ≡ record { slot = 1; cell = 0x4000; old = 0x02A00513; prev = 0; new = 0x02A00513 } ∷ record { slot = 7; cell = 0x4000000A; old = 0; prev = 0; new = 42 } ∷ []
unfolding computes
row-zero = refl

row-two : row program [] 2 ≡ record {
  pc = 0x10008;
  next = 0x10008;
  accesses =
      record { slot = 1; cell = 0x4002; old = 0x73; prev = 0; new = 0x73 }
      ∷ record { slot = 2; cell = 0x40000011; old = 93; prev = 23; new = 93 }
      ∷ record { slot = 3; cell = 0x4000000A; old = 42; prev = 7; new = 42 } ∷ [];
}
unfolding computes
row-two = refl

the-table : table program [] 3 ≡
    record { cell = 0x4000; value = 0x02A00513; time = 1 }
    ∷ record { cell = 0x4001; value = 0x05D00893; time = 17 }
    ∷ record { cell = 0x4002; value = 0x73; time = 33 }
    ∷ record { cell = 0x4000000A; value = 42; time = 35 }
    ∷ record { cell = 0x40000011; value = 93; time = 34 } ∷ []
unfolding computes
the-table = refl

-- add x2, x2, x2
abbrev doubling : Image
doubling = words 1 (0x00210133 ∷ [])

doubled : (row doubling [] 0).accesses ≡ access 1 0x4000 0x00210133 0 0x00210133 ∷ access 2 0x40000002 0x7FFFF000 0 0x7FFFF000 ∷ access 3 0x40000002 0x7FFFF000 2 0x7FFFF000 ∷ access 7 0x40000002 0x7FFFF000 3 0xFFFFE000 ∷ []
unfolding computes
doubled = refl

then-illegal : end_at doubling [] 1 ≡ Some (record { kind = 1; code = 0 })
unfolding computes
then-illegal = refl

-- lui x5, 0x10; sw x6, 4(x5); jal x0, -4: the store replaces its own word
abbrev own_word : Image
own_word = words 1 (0x000102B7 ∷ 0x0062A223 ∷ 0xFFDFF06F ∷ [])

stores-itself : (row own_word [] 1).accesses ≡ access 1 0x4001 0x0062A223 0 0x0062A223 ∷ access 2 0x40000005 0x10000 7 0x10000 ∷ access 3 0x40000006 0 0 0 ∷ access 6 0x4001 0x0062A223 17 0 ∷ []
unfolding computes
stores-itself = refl

fetches-stored : (row own_word [] 3).accesses ≡ access 1 0x4001 0 22 0 ∷ []
unfolding computes
fetches-stored = refl

ends-illegal : end_at own_word [] 3 ≡ Some (record { kind = 1; code = 0 })
unfolding computes
ends-illegal = refl

-- jalr x1, 2(x0): misaligned, so that it writes nothing
abbrev odd_jump : Image
odd_jump = words 1 (0x002000E7 ∷ [])

jalr-row : row odd_jump [] 0 ≡ record { pc = 0x10000; next = 0x10000; accesses = access 1 0x4000 0x002000E7 0 0x002000E7 ∷ [] }
unfolding computes
jalr-row = refl

jalr-end : end_at odd_jump [] 0 ≡ Some (record { kind = 3; code = 0 })
unfolding computes
jalr-end = refl

-- lui x5, 0x10; lw x6, 2(x5): misaligned after its read of x5
abbrev odd_load : Image
odd_load = words 1 (0x000102B7 ∷ 0x0022A303 ∷ [])

load-row : row odd_load [] 1 ≡ record { pc = 0x10004; next = 0x10004; accesses = access 1 0x4001 0x0022A303 0 0x0022A303 ∷ access 2 0x40000005 0x10000 7 0x10000 ∷ [] }
unfolding computes
load-row = refl

load-end : end_at odd_load [] 1 ≡ Some (record { kind = 4; code = 0 })
unfolding computes
load-end = refl

-- read(0, 0x20003, 10) twice on two bytes: addi x17, x0, 63; lui x11, 0x20; addi x11, x11, 3; addi x12, x0, 10; ecall; addi x10, x0, 0; ecall
abbrev reading : Image
reading = words 1 (0x03F00893 ∷ 0x000205B7 ∷ 0x00358593 ∷ 0x00A00613 ∷ 0x00000073 ∷ 0x00000513 ∷ 0x00000073 ∷ 0x00000513 ∷ 0x00000073 ∷ [])

first-byte : value (run reading (0x41 ∷ 0x42 ∷ []) 5) 0x8000 ≡ 0x41000000
unfolding computes
first-byte = refl

second-byte : value (run reading (0x41 ∷ 0x42 ∷ []) 7) 0x8000 ≡ 0x42000000
unfolding computes
second-byte = refl

no-byte-left : map (λ a. a.slot) (row reading (0x41 ∷ 0x42 ∷ []) 8).accesses ≡ 1 ∷ 2 ∷ 3 ∷ 4 ∷ 5 ∷ 7 ∷ []
unfolding computes
no-byte-left = refl

-- lui x5, 0x20; lr.w x6, (x5); sc.w x7, x6, (x5)
abbrev pub reserving : Image
reserving = words 2 (0x000202B7 ∷ 0x1002A32F ∷ 0x1862A3AF ∷ [])

sc-row : (row reserving [] 2).accesses ≡ access 1 0x4002 0x1862A3AF 0 0x1862A3AF ∷ access 2 0x40000005 0x20000 18 0x20000 ∷ access 3 0x40000006 0 23 0 ∷ access 6 0x8000 0 22 0 ∷ access 7 0x40000007 0 0 0 ∷ access 8 0x40000020 0x20001 24 0 ∷ []
unfolding computes
sc-row = refl
