-- The shape of an expected step, whatever the old values are.
use Rattle.std.specs.Prelude.{◌≡◌, ℕ, ◌+◌, ◌<◌, ◌≤◌, ◌^◌, List, [], ◌∷◌}
use Rattle.rv_base.specs.declared.cells.TheConstants.{REGISTER_CELLS, RESERVATION_CELL, FETCH_SLOT, A2_SLOT, MEMORY_SLOT, RD_SLOT, RESERVATION_SLOT}
use Rattle.rv_base.specs.declared.record.Seen.{Seen}
use Rattle.rv_base.specs.declared.record.Touch.{Touch}
use Rattle.rv_rules.specs.Expected.{expected}
use Rattle.rv_isa.specs.Sees.{seen_in}

-- an access up to the slot of x12 only reads, so it leaves what it finds; memory's slot has a word of memory, that of rd a register, and that of the reservation the reservation
pub record IsSlotted (v : Seen) (t : Touch) : Type 0 where
  pub keeps : t.slot ≤ A2_SLOT → t.new ≡ seen_in v t.slot
  pub word : t.slot ≡ MEMORY_SLOT → t.cell < REGISTER_CELLS
  pub register : t.slot ≡ RD_SLOT → (REGISTER_CELLS < t.cell) × (t.cell < RESERVATION_CELL)
  pub reservation : t.slot ≡ RESERVATION_SLOT → t.cell ≡ RESERVATION_CELL

-- the slots rise from lo on, and all are below hi
abbrev pub AreShaped : Seen → ℕ → ℕ → List Touch → Type 0
AreShaped v lo hi [] = lo ≤ hi
AreShaped v lo hi (t ∷ ts) = (lo ≤ t.slot) × IsSlotted v t × AreShaped v (t.slot + 1) hi ts

-- The slots of an expected step rise from the fetch to the reservation, for any old values; those that become addresses are words.
abbrev pub ExpectedIsShaped : Type 0
ExpectedIsShaped = (v : Seen) (version pc : ℕ) (input : List ℕ) (at : ℕ) → v.s2 < 2 ^ 32 → v.s4 < 2 ^ 32 → AreShaped v FETCH_SLOT (RESERVATION_SLOT + 1) (expected version pc v input at).touches
