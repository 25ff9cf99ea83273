-- What a pass over the headers of a file without the first fifteen faults keeps.
use Rattle.std.proofs.Common.{◌≡◌, ℕ, ◌%◌, ◌<◌, ◌≤◌, false, not, nat_lt, List, length, map, get_or, None, Some, sym, ◌∙◌, ap, subst, arith}
use Rattle.std.specs.List.{All}
use Rattle.std.proofs.lemmas.Bool.{ltb-false, eq-eqb, ne_eqb}
use Rattle.std.proofs.lemmas.List.{take_all, get_or-map, length-map}
use Rattle.rv_spec.specs.Words.{u32_at}
use Rattle.rv_spec.specs.Elf.{Segment as Described, headers, load_segments, some_overlap, first_fault}
use Rattle.rv_elf.specs.declared.scan.Scan.{Scan}
use Rattle.rv_elf.specs.Faults.{IsClear}
use Rattle.rv_elf.specs.Segments.{described, IsScan}
use Rattle.rv_elf.proofs.FaultLaws.{clear-more, fault-is, faultless}
use Rattle.rv_elf.proofs.IndexLaws.{none-at}

module _ (file : List ℕ) (c : IsClear 15 file) where
  few : length (load_segments file) ≤ 64
  unfolding IsClear
  few = ltb-false 64 (length (load_segments file)) c.1.1.1.1.1.1.1.1.1.1.1.1.1.0

  pub no-overlap : some_overlap (load_segments file) ≡ false
  unfolding IsClear
  no-overlap = c.1.1.1.1.1.1.1.1.1.1.1.1.1.1.0

  in-memory : (k : ℕ) (d : Described) → k < length (load_segments file) → (get_or (load_segments file) k d).file_size ≤ (get_or (load_segments file) k d).memory_size
  unfolding IsClear
  in-memory k d h =
      ltb-false (get_or (load_segments file) k d).memory_size (get_or (load_segments file) k d).file_size
      (none-at (λ s. nat_lt s.memory_size s.file_size) (load_segments file) k d c.1.1.1.1.1.1.1.1.1.1.1.0 h)

  pub without-fault : u32_at file 24 % 4 ≡ 0 → first_fault file ≡ None
  without-fault e = faultless file (clear-more file 15 c (ap not (eq-eqb (u32_at file 24 % 4) 0 e)))

  pub misplaced : (u32_at file 24 % 4 ≡ 0 → ⊥) → first_fault file ≡ Some 16
  misplaced e = fault-is file 15 c (ap not (ne_eqb (u32_at file 24 % 4) 0 e))

  module _ (s : Scan) (x : IsScan (length file) (headers file) s) where
    pub kept-loads : map described s.loads.items ≡ load_segments file
    unfolding load_segments
    kept-loads = x.loads ∙ take_all 64 (load_segments file) few

    pub kept-apart : some_overlap (map described s.loads.items) ≡ false
    kept-apart = ap some_overlap kept-loads ∙ no-overlap

    pub kept-fit : All (λ t. t.file_size ≤ t.memory_size) s.loads.items
    kept-fit k d h =
        let len : length s.loads.items ≡ length (load_segments file) = sym (length-map s.loads.items described) ∙ ap length kept-loads in
        let at : get_or (load_segments file) k (described d) ≡ described (get_or s.loads.items k d) =
        ap (λ l. get_or l k (described d)) (sym kept-loads) ∙ get_or-map described s.loads.items k d (described d) h in
        subst (λ t. t.file_size ≤ t.memory_size) at (in-memory k (described d) (omega arith))
