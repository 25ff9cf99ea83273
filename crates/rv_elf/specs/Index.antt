-- The segments by rising address, as an image keeps them.
use Rattle.std.specs.Prelude.{◌≡◌, ℕ, ◌+◌, ◌-◌, ◌<◌, ◌≤◌, List, length, slice_index_or, Option, Some, None}
use Rattle.std.specs.Int.{IsInRange}
use Rattle.rv_rules.specs.Membership.{In}
use Rattle.rv_spec.specs.Words.{u32_at}
use Rattle.rv_spec.specs.Elf.{Segment as Described, first_fault, load_segments}
use Rattle.rv_elf.specs.declared.segment.Segment.{Segment}
use Rattle.rv_elf.specs.Segments.{described}

-- the segments that take bytes from the file, one behind the other
pub record IsIndex (index : List Segment) (loads : List Described) : Type 0 where
  pub apart : (i j : ℕ) (d : Segment) → i < j → j < length index
      → (slice_index_or index i d).address + (slice_index_or index i d).file_size ≤ (slice_index_or index j d).address
  pub sized : (i : ℕ) (d : Segment) → i < length index → (0 < (slice_index_or index i d).file_size) × ((slice_index_or index i d).file_size ≤ (slice_index_or index i d).memory_size)
  pub from : (i : ℕ) (d : Segment) → i < length index → In (described (slice_index_or index i d)) loads
  pub complete : (s : Described) → In s loads → 0 < s.file_size
      → (i : ℕ) × (i < length index) × ((d : Segment) → described (slice_index_or index i d) ≡ s)

-- no segment of the list begins below an earlier one
abbrev pub AreRising : List Segment → Type 0
AreRising index = (i j : ℕ) (d : Segment) → i ≤ j → j < length index → (slice_index_or index i d).address ≤ (slice_index_or index j d).address

-- the first n segments begin at or below the address, and all others above it
pub record AreBegun (index : List Segment) (address n : ℕ) : Type 0 where
  pub bound : n ≤ length index
  pub begun : (i : ℕ) (d : Segment) → i < n → (slice_index_or index i d).address ≤ address
  pub above : (i : ℕ) (d : Segment) → n ≤ i → i < length index → address < (slice_index_or index i d).address

-- the last of the first n segments, or none
abbrev pub IsLastOf : List Segment → ℕ → Option Segment → Type 0
IsLastOf index n None = n ≡ 0
IsLastOf index n (Some s) = (0 < n) × ((d : Segment) → slice_index_or index (n - 1) d ≡ s)

-- what an image is made of: a file without a fault, its entry, and its segments by rising address
pub record IsImageIndex (version entry : ℕ) (file : List ℕ) (index : List Segment) : Type 0 where
  pub version_known : IsInRange 1 2 version
  pub entry_is : entry ≡ u32_at file 24
  pub faultless : first_fault file ≡ None
  pub indexed : IsIndex index (load_segments file)
