-- What the calls of this crate give, beside the definitions.
use Rattle.std.specs.Prelude.{◌≡◌, ℕ, Bool, [], if◌then◌else◌, ◌≤◌, ◌-◌, ◌/◌, List, ◌++◌, length, replicate}
use Rattle.std.specs.Int.{w32, to_le_bytes}
use Rattle.rv_base.specs.declared.cells.TheConstants.{MEMORY_SLOT, RD_SLOT, RESERVATION_SLOT}
use Rattle.rv_base.specs.declared.record.Touch.{Touch}
use Rattle.rv_spec.specs.Cells.{reservation_cell}
use Rattle.rv_rules.specs.Expected as isa
use Rattle.rv_isa.specs.declared.expected.Expected.{Expected}
use Rattle.rv_isa.specs.declared.step.Outcome.{Outcome}

-- The accesses follow those that were there, and the step goes on as the expected one. The bytes put are the first of a word, and zeros are behind them.
pub record AppendsExpected (e : isa.Expected) (before after : List Touch) (o : Outcome) : Type 0 where
  pub touches : after ≡ before ++ e.touches
  pub next : o.next ≡ e.next
  pub end : o.end ≡ e.end
  pub took : o.took ≡ e.took
  pub put : o.put ≡ length e.put
  pub word : to_le_bytes w32 o.word ≡ e.put ++ replicate (4 - o.put) 0
  pub most : o.put ≤ 4

-- the accesses of a store-conditional, by whether its word is reserved
abbrev pub conditional_writes : ℕ → ℕ → ℕ → Bool → List Touch
conditional_writes rd a b reserved = (if reserved then isa.touch MEMORY_SLOT (a / 4) b else []) ++ isa.on_register RD_SLOT rd (if reserved then 0 else 1) ++ isa.touch RESERVATION_SLOT reservation_cell 0

-- A call gives the expected step. The bytes put are the first of a word, and zeros are behind them.
pub record RepresentsExpected (e : isa.Expected) (g : Expected) : Type 0 where
  pub touches : g.touches.items ≡ e.touches
  pub next : g.next ≡ e.next
  pub end : g.end ≡ e.end
  pub took : g.took ≡ e.took
  pub put : g.put ≡ length e.put
  pub word : to_le_bytes w32 g.word ≡ e.put ++ replicate (4 - g.put) 0
  pub most : g.put ≤ 4
