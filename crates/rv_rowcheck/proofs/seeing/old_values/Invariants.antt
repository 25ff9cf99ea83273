use Rattle.std.proofs.Common.{◌≡◌, ℕ, ◌+◌, ◌≤◌, length, slice_index}
use Rattle.std.specs.Slice.Iter.{iter_rest}
use Rattle.std.specs.Iterator.Adapters.{rev_source}
use Rattle.rv_base.specs.declared.cells.TheConstants.{SLOTS}
use Rattle.rv_rules.specs.RowRules.{old_in}
use Rattle.rv_rowcheck.proofs.FirstIn.{old_in_or}
use Rattle.rv_rowcheck.proofs.seeing.old_values.Given as goal

-- the accesses that are left decide; where none of them is in a slot, what was found there
abbrev pub invariant-loop-access : goal.invariant-loop-access
invariant-loop-access l = record {
  all-slots : length l.old ≡ SLOTS + 1;
  first : (slot : ℕ) → slot ≤ SLOTS → old_in_or (slice_index l.old slot) (iter_rest (rev_source l.access-iterator)) slot ≡ old_in l.accesses slot;
}
