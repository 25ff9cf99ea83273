-- What the code keeps of the program headers.
use Rattle.std.specs.Prelude.{◌≡◌, ℕ, ◌+◌, ◌^◌, ◌==◌, nat_lt, List, map, length, take, filter}
use Rattle.std.specs.List.{list_any}
use Rattle.rv_base.specs.declared.limits.TheConstants.{SEGMENTS_LIMIT}
use Rattle.rv_spec.specs.Elf.{Segment as Described}
use Rattle.rv_elf.specs.declared.segment.Segment.{Segment}
use Rattle.rv_elf.specs.declared.scan.Scan.{Scan}

-- a segment as the definition has it
abbrev pub described : Segment → Described
described s = record { kind = s.kind; offset = s.offset; address = s.address; file_size = s.file_size; memory_size = s.memory_size }

abbrev pub loads_of : List Described → List Described
loads_of hs = filter (λ s. s.kind == 1) hs

-- what a pass over these headers finds, in a file of that many bytes
pub record IsScan (size : ℕ) (hs : List Described) (s : Scan) : Type 0 where
  pub interpreter : s.interpreter ≡ list_any (λ h. h.kind == 3) hs
  pub past_file : s.past_file ≡ list_any (λ h. nat_lt size (h.offset + h.file_size)) (loads_of hs)
  pub above_memory : s.above_memory ≡ list_any (λ h. nat_lt h.memory_size h.file_size) (loads_of hs)
  pub past_memory : s.past_memory ≡ list_any (λ h. nat_lt (2 ^ 32) (h.address + h.memory_size)) (loads_of hs)
  pub too_many : s.too_many ≡ nat_lt SEGMENTS_LIMIT (length (loads_of hs))
  pub loads : map described s.loads.items ≡ take SEGMENTS_LIMIT (loads_of hs)
