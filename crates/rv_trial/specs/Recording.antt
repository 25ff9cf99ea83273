-- The making of the record of a run, by what its parts answer.
use Rattle.std.specs.Prelude.{◌≡◌, ◌≤◌, ℕ, List, length}
use Rattle.std.specs.List.{flat_map}
use Rattle.std.specs.Int.{div_ceil}
use Rattle.rv_spec.specs.Elf.{image}
use Rattle.rv_spec.specs.Trace.{rows}
use Rattle.rv_spec.specs.Digest.{sha_lanes}
use Rattle.rv_spec.specs.Record.{record_file}
use Rattle.rv_spec.specs.Run.{EndsIn}
use Rattle.rv_base.specs.declared.record.End.{End}
use Rattle.rv_program.specs.Files.{Files}
use Rattle.rv_book.specs.declared.task.Piece.{Piece}
use Rattle.rv_point.specs.PointsState.{PointsState, IsSurvey}
use Rattle.rv_replay.specs.Piece.{shard_piece}
use Rattle.rv_trial.specs.Trials.{shard_rows, budget}

-- the run of a program on its input, within the budget and in shards
abbrev pub IsSurveyed : Files → PointsState → Type 0
IsSurveyed f p = IsSurvey (image 1 f.elf) f.input shard_rows budget p

-- the run ends within the budget
pub record EndsInBudget (f : Files) : Type 0 where
  pub steps : ℕ
  pub end : End
  pub ends : EndsIn (image 1 f.elf) f.input steps end
  pub within : steps ≤ budget

-- the pieces of all shards of the run are a task's
pub record IsTaskDue (f : Files) (p : PointsState) (most : ℕ) (piece : ℕ → Piece) : Type 0 where
  pub bound : div_ceil p.steps shard_rows ≤ most
  pub pieces : (i : ℕ) → piece i ≡ shard_piece sha_lanes (image 1 f.elf) f.input shard_rows i

-- the record of a run
abbrev pub recorded : Files → PointsState → List ℕ
recorded f p = record_file sha_lanes 1 f.elf f.input shard_rows p.steps p.end

-- the accesses of all rows of a run
abbrev pub accesses_of : Files → PointsState → ℕ
accesses_of f p = length (flat_map (λ r. r.accesses) (rows (image 1 f.elf) f.input 0 p.steps))
