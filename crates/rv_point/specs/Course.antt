-- A run step by step.
use Rattle.std.specs.Prelude.{◌≡◌, ℕ, ◌+◌, ◌*◌, ◌/◌, ◌<◌, ◌≤◌, min, nat_le, List, ◌++◌, map, filter, Option, Some, None}
use Rattle.std.specs.List.{flat_map}
use Rattle.std.specs.Int.{div_ceil, IsInRange}
use Rattle.rv_base.specs.declared.limits.TheConstants.{SHARD_SIZE_LIMIT, SHARDS_LIMIT, BUDGET_LIMIT}
use Rattle.rv_base.specs.declared.record.Access.{Access}
use Rattle.rv_base.specs.declared.record.End.{End}
use Rattle.rv_base.specs.declared.record.TableEntry.{TableEntry}
use Rattle.rv_spec.specs.Elf.{Image}
use Rattle.rv_spec.specs.Run.{run, GoesOn, EndsIn}
use Rattle.rv_spec.specs.Cells.{time_of}
use Rattle.rv_spec.specs.Trace.{Row as Traced, history, row, rows}
use Rattle.rv_row.specs.declared.rows.Row.{Row}
use Rattle.rv_row.specs.RowReading.{row_view}
use Rattle.rv_isa.specs.HartState.{HartState, StandsFor, IsTimed}
use Rattle.rv_point.specs.declared.course.Course.{Course}
use Rattle.rv_point.specs.declared.fault.RunFault.{RunFault}
use Rattle.rv_point.specs.declared.fault.RunFault.TheVariants as fault
use Rattle.rv_point.specs.declared.start.ShardStart.{ShardStart}
use Rattle.rv_point.specs.Start.{steps_from, cell_at, cells_of, HasShard, shard_start}

-- The hart stands after so many steps of the run of its program on its input, with the output that they put. They end the run with the end, or it goes on.
pub record IsAfter (h : HartState) (steps : ℕ) (output : List ℕ) : Type 0 where
  pub stands : StandsFor h (run h.cells.image h.input steps)
  pub timed : IsTimed h (history h.cells.image h.input steps) steps
  pub put : output ≡ (run h.cells.image h.input steps).output

pub record IsAt (c : Course) : Type 0 where
  pub after : IsAfter c.hart c.steps c.output.items
  pub going : c.ended ≡ None → GoesOn c.hart.cells.image c.hart.input c.steps
  pub done : (e : End) → c.ended ≡ Some e → EndsIn c.hart.cells.image c.hart.input c.steps e

-- the run is of the same program on the same input
pub record IsSameRun (old new : Course) : Type 0 where
  pub image : new.hart.cells.image ≡ old.hart.cells.image
  pub input : new.hart.input ≡ old.hart.input

-- one step more, which has this row
pub record TakesRow (old new : Course) (r : Row) : Type 0 where
  pub same : IsSameRun old new
  pub at : IsAt new
  pub steps : new.steps ≡ old.steps + 1
  pub is : row_view r ≡ row old.hart.cells.image old.hart.input old.steps

-- what an access finds, as an entry
abbrev pub entry_of : Access → TableEntry
entry_of a = record { cell = a.cell; value = a.old; time = a.prev }

-- what those accesses find whose time before is no later than a time
abbrev pub first_finds : ℕ → List Access → List TableEntry
first_finds t accesses = map entry_of (filter (λ a. nat_le a.prev t) accesses)

abbrev pub all_first_finds : ℕ → List Traced → List TableEntry
all_first_finds t rs = flat_map (λ r. first_finds t r.accesses) rs

-- so many steps more, or those up to the end of the run, and what the first uses of cells in them find
pub record TakesRows (old new : Course) (most : ℕ) (before after : List TableEntry) : Type 0 where
  pub same : IsSameRun old new
  pub at : IsAt new
  pub steps : new.steps ≡ old.steps + steps_from old.hart.cells.image old.hart.input old.steps most
  pub found : after ≡ before ++ all_first_finds (time_of old.steps 0) (rows old.hart.cells.image old.hart.input old.steps (steps_from old.hart.cells.image old.hart.input old.steps most))
  pub whole : new.ended ≡ None → new.steps ≡ old.steps + most

-- so many steps more, or those up to the end of the run, and what the cells that they use held before them
pub record TakesShard (old new : Course) (most : ℕ) (cells : List TableEntry) : Type 0 where
  pub same : IsSameRun old new
  pub at : IsAt new
  pub steps : new.steps ≡ old.steps + steps_from old.hart.cells.image old.hart.input old.steps most
  pub whole : new.ended ≡ None → new.steps ≡ old.steps + most
  pub found : let i = old.hart.cells.image in let input = old.hart.input in cells ≡ map (cell_at i input old.steps) (cells_of (rows i input old.steps (steps_from i input old.steps most)))

-- at most so many steps more
pub record SkipsSteps (old new : Course) (most : ℕ) : Type 0 where
  pub same : IsSameRun old new
  pub at : IsAt new
  pub within : new.steps ≤ old.steps + most
  pub whole : new.ended ≡ None → new.steps ≡ old.steps + most

-- So many shards of a size were given, of a run that ended with them or goes on, within its budget of steps.
pub record IsBegun (c : Course) (size budget given : ℕ) : Type 0 where
  pub at : IsAt c
  pub size_within : IsInRange 1 SHARD_SIZE_LIMIT size
  pub budget_within : IsInRange 1 BUDGET_LIMIT budget
  pub within : c.steps ≤ budget
  pub whole : c.ended ≡ None → c.steps ≡ given * size
  pub all : (e : End) → c.ended ≡ Some e → given ≡ div_ceil c.steps size

-- ---- what is answered

-- The run goes on past its budget, and all due starts were given: those of whole shards within the budget, up to the most shards.
pub record IsOverBudget (i : Image) (input : List ℕ) (size budget given : ℕ) : Type 0 where
  pub goes_on : GoesOn i input budget
  pub due : given ≡ min (budget / size) SHARDS_LIMIT

-- The most shards were given, and the run ends within its budget but needs more.
pub record NeedsMore (i : Image) (input : List ℕ) (size budget given needed : ℕ) : Type 0 where
  pub full : given ≡ SHARDS_LIMIT
  pub steps : ℕ
  pub end : End
  pub ends : EndsIn i input steps end
  pub within : steps ≤ budget
  pub count : needed ≡ div_ceil steps size
  pub more : SHARDS_LIMIT < needed

abbrev pub HasFault : Image → List ℕ → ℕ → ℕ → ℕ → RunFault → Type 0
HasFault i input size budget given fault.Budget = IsOverBudget i input size budget given
HasFault i input size budget given (fault.Shards needed) = NeedsMore i input size budget given needed
HasFault i input size budget given fault.NoMemory = Unit {0}

-- the start of the shard after those that were given, which the run has, within the budget
pub record IsNextStart (i : Image) (input : List ℕ) (size budget given : ℕ) (s : ShardStart) : Type 0 where
  pub few : given < SHARDS_LIMIT
  pub has : HasShard i input size given
  pub is : s ≡ shard_start i input size given
  pub within : s.step + s.rows ≤ budget

-- The next start is given, or the run has ended with those that were given.
abbrev pub GivesShard : Course → Course → ℕ → ℕ → ℕ → Option ShardStart → Type 0
GivesShard old new size budget given (Some s) = IsNextStart old.hart.cells.image old.hart.input size budget given s × IsBegun new size budget (given + 1)
GivesShard old new size budget given None = (new ≡ old) × (e : End) × (old.ended ≡ Some e)
