-- What the first uses of a shard's cells find, sorted, is the start's cells.
use Rattle.std.proofs.Common.{◌≡◌, ℕ, List, map, sym, subst, inl, inr}
use Rattle.std.specs.List.{flat_map}
use Rattle.std.specs.List.Sorted.{IsPermutation, IsNonDecreasingBy}
use Rattle.rv_base.specs.declared.record.TableEntry.{TableEntry}
use Rattle.rv_spec.specs.Elf.{Image}
use Rattle.rv_spec.specs.Cells.{time_of}
use Rattle.rv_spec.specs.Trace.{Row, rising, rows}
use Rattle.rv_rules.specs.Membership.{In}
use Rattle.rv_rules.proofs.Lemmas.{rising-in, in-rising, rising-rises}
use Rattle.rv_point.specs.Start.{cell_at, cells_of}
use Rattle.rv_point.specs.Course.{all_first_finds}
use Rattle.rv_point.proofs.RunFirsts.{events-cells, rows-firsts}
use Rattle.rv_point.proofs.SortedEntries.{cells, sorted-are}

pub collected-are : (i : Image) (input : List ℕ) (k n : ℕ) (found : List TableEntry) → IsPermutation (all_first_finds (time_of k 0) (rows i input k n)) found → IsNonDecreasingBy (λ (x : TableEntry). x.cell) found
    → found ≡ map (cell_at i input k) (cells_of (rows i input k n))
collected-are i input k n found p up =
    let rs : List Row = rows i input k n in
    let f = rows-firsts i input k n in
    let xs : List TableEntry = all_first_finds (time_of k 0) rs in
    let used : List ℕ = flat_map (λ r. map (λ a. a.cell) r.accesses) rs in
    let there : (c : ℕ) → In c (cells xs) → In c used = λ c m. subst (In c) (events-cells k rs) (f.only c m) in
    let back : (c : ℕ) → In c used → In c (cells xs) = λ c m. elim (f.cover c (subst (In c) (sym (events-cells k rs)) m)) [ inl u ↦ absurd u.1 | inr h ↦ h ] in
    sorted-are (cell_at i input k) xs found (rising used) p up f.each f.differ (rising-rises used) (λ c m. rising-in c used (there c m)) (λ c m. back c (in-rising c used m))
