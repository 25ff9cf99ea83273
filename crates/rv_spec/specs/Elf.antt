-- The image of an ELF executable: System V gABI, chapters 4 (ELF header) and 5 (program header, PT_LOAD), for 32 bits; e_machine 243 is RISC-V's in the RISC-V ELF psABI. The faults, their numbers and the limit of 64 segments are this project's own.
use Rattle.std.specs.Prelude.{ℕ, ◌+◌, ◌*◌, ◌%◌, ◌^◌, min, max, Bool, false, not, ◌&&◌, ◌||◌, List, [], ◌∷◌, length, take, drop, map, filter, Option, slice_index, nat_lt, nat_eq, ◌==◌}
use Rattle.std.specs.List.{list_any, position_from, range_with_len, starts_with}
use Rattle.rv_base.specs.declared.limits.TheConstants.{SEGMENTS_LIMIT}
use Rattle.rv_spec.specs.Words.{u16_at, u32_at, Block}

-- what a program header says of a segment (gABI, chapter 5, Elf32_Phdr): p_type, p_offset, p_vaddr, p_filesz, p_memsz
pub record Segment : Type 0 where
  pub kind : ℕ
  pub offset : ℕ
  pub address : ℕ
  pub file_size : ℕ
  pub memory_size : ℕ

abbrev pub header_at : List ℕ → ℕ → Segment
header_at file at = record {
  kind = u32_at file at;
  offset = u32_at file (at + 4);
  address = u32_at file (at + 8);
  file_size = u32_at file (at + 16);
  memory_size = u32_at file (at + 20);
}

-- e_phoff and e_phnum (gABI, chapter 4, Elf32_Ehdr)
abbrev pub headers_at : List ℕ → ℕ
headers_at file = u32_at file 28

abbrev pub header_count : List ℕ → ℕ
header_count file = u16_at file 44

-- the program headers in order, and those of type PT_LOAD (1)
unfoldable pub headers : List ℕ → List Segment
headers file = map (λ i. header_at file (headers_at file + 32 * i)) (range_with_len 0 (header_count file))

unfoldable pub load_segments : List ℕ → List Segment
load_segments file = filter (λ s. s.kind == 1) (headers file)

-- some address lies in both memory ranges; that such segments are a fault is this project's own
abbrev pub overlaps : Segment → Segment → Bool
overlaps s t = nat_lt (max s.address t.address) (min (s.address + s.memory_size) (t.address + t.memory_size))

abbrev pub some_overlap : List Segment → Bool
some_overlap [] = false
some_overlap (s ∷ ss) = list_any (overlaps s) ss || some_overlap ss

-- The faults in order of their numbers, from 1 on, as tests of a file. The fields are those of the gABI; the list and its order are this project's own.
abbrev pub fault_tests : List ℕ → List Bool
fault_tests file =
    nat_lt (length file) 52
    ∷ not (starts_with nat_eq file (0x7F ∷ 0x45 ∷ 0x4C ∷ 0x46 ∷ []))
    ∷ not (slice_index file 4 == 1)
    ∷ not (slice_index file 5 == 1)
    ∷ not (slice_index file 6 == 1 && u32_at file 20 == 1)
    ∷ not (u16_at file 16 == 2)
    ∷ not (u16_at file 18 == 243)
    ∷ not (u16_at file 42 == 32)
    ∷ nat_lt (length file) (headers_at file + 32 * header_count file)
    ∷ list_any (λ s. s.kind == 3) (headers file)
    ∷ list_any (λ s. nat_lt (length file) (s.offset + s.file_size)) (load_segments file)
    ∷ list_any (λ s. nat_lt s.memory_size s.file_size) (load_segments file)
    ∷ list_any (λ s. nat_lt (2 ^ 32) (s.address + s.memory_size)) (load_segments file)
    ∷ nat_lt SEGMENTS_LIMIT (length (load_segments file))
    ∷ some_overlap (load_segments file)
    ∷ not (u32_at file 24 % 4 == 0)
    ∷ []

-- the number of the first fault, from 1 on
unfoldable pub first_fault : List ℕ → Option ℕ
first_fault file = position_from (λ b. b) 1 (fault_tests file)

-- A program as it is loaded. The version says which instructions it may use: 1 for RV32IM, 2 for RV32IMA.
pub record Image : Type 0 where
  pub version : ℕ
  pub entry : ℕ
  pub blocks : List Block

-- the bytes that a segment takes from the file: the first p_filesz of p_memsz, the others are 0
abbrev pub block_of : List ℕ → Segment → Block
block_of file s = record { address = s.address; bytes = take s.file_size (drop s.offset file) }

-- what a file without a fault loads
abbrev pub image : ℕ → List ℕ → Image
image version file = record { version = version; entry = u32_at file 24; blocks = map (block_of file) (load_segments file) }
