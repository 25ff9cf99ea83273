-- The old values that a step finds in its slots.
use Rattle.std.specs.Prelude.{◌≡◌, ℕ, List, ◌==◌, if◌then◌else◌}
use Rattle.std.specs.List.{AllByRecursion}
use Rattle.rv_base.specs.declared.cells.TheConstants.{FETCH_SLOT, RS1_SLOT, RS2_SLOT, A1_SLOT, A2_SLOT, MEMORY_SLOT, RD_SLOT}
use Rattle.rv_base.specs.declared.record.Seen.{Seen}
use Rattle.rv_spec.specs.Step.{State}
use Rattle.rv_spec.specs.Cells.{value}
use Rattle.rv_spec.specs.Visits.{Use}

-- the old value in a slot
abbrev pub seen_in : Seen → ℕ → ℕ
seen_in v j = if j == FETCH_SLOT then v.s1 else (if j == RS1_SLOT then v.s2 else (if j == RS2_SLOT then v.s3 else (if j == A1_SLOT then v.s4 else (if j == A2_SLOT then v.s5 else (if j == MEMORY_SLOT then v.s6 else (if j == RD_SLOT then v.s7 else v.s8))))))

-- the old values are those that the state holds
abbrev pub Sees : Seen → State → List Use → Type 0
Sees v s us = AllByRecursion (λ u. seen_in v u.slot ≡ value s u.cell) us
