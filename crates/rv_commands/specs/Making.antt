-- The making of a record, by what its parts answer.
use Rattle.std.specs.Prelude.{◌≡◌, ◌<◌, ◌≤◌, ℕ, List, [], ◌∷◌, length, Some, None, Result, IfOk, ⊤}
use Rattle.std.specs.Int.{div_ceil}
use Rattle.std.specs.List.{flat_map, range_with_len}
use Rattle.rv_spec.specs.Elf.{Image, image, first_fault}
use Rattle.rv_spec.specs.Run.{run, EndsIn, GoesOn}
use Rattle.rv_spec.specs.Trace.{table}
use Rattle.rv_spec.specs.Digest.{sha_lanes}
use Rattle.rv_spec.specs.Record.{record_file}
use Rattle.rv_book.specs.Journal.{BookState, piece_at}
use Rattle.rv_book.specs.declared.task.Piece.{Piece}
use Rattle.rv_point.specs.PointsState.{PointsState, IsSurvey, NeedsShards}
use Rattle.rv_replay.specs.Piece.{shard_piece}
use Rattle.rv_plan.specs.declared.faults.Limited.TheVariants as limited
use Rattle.rv_plan.specs.declared.faults.Fault.{Fault}
use Rattle.rv_plan.specs.declared.faults.Fault.TheVariants.{Budget, Memory, Limit}
use Rattle.rv_base.specs.declared.limits.TheConstants.{RECORD_LIMIT, SHARDS_LIMIT}
use Rattle.rv_base.specs.declared.record.End.{End}
use Rattle.rv_base.specs.declared.record.Verdict.TheVariants.{Accept}
use Rattle.rv_spec.specs.Conclusion.{HasRecord}
use Rattle.rv_rules.specs.Verdict.{verdict}
use Rattle.rv_host.specs.Views.{ShelfView}
use Rattle.rv_plan.specs.Endings.{IsWritten}
use Rattle.rv_plan.specs.FileCalls.{PerformsBehind}
use Rattle.rv_plan.specs.declared.told.Told.{Told}
use Rattle.rv_commands.specs.CommandLine.{MakeWords}
use Rattle.rv_commands.specs.Outcome.{make_plan}
use Rattle.rv_commands.specs.declared.recording.Ended.{Ended}

-- why there is no record of a run within a budget, as a fault
abbrev pub IsNoSurvey : Image → List ℕ → ℕ → ℕ → Fault → Type 0
IsNoSurvey i input size budget (Budget n) = (n ≡ budget) × GoesOn i input budget
IsNoSurvey i input size budget (Limit what) = (what ≡ limited.Shards) × ((needed : ℕ) × NeedsShards i input size budget needed)
IsNoSurvey i input size budget Memory = ⊤
IsNoSurvey i input size budget _ = ⊥

-- the piece of a shard, as make asks for it
abbrev pub piece_due : MakeWords → List ℕ → List ℕ → ℕ → Piece
piece_due w elf input i = shard_piece sha_lanes (image w.version elf) input w.shard i

-- A program without a fault, its run within the budget and the shards of a record, and a book of all its pieces.
pub record HasPieces (w : MakeWords) (elf input : List ℕ) (p : PointsState) (b : BookState) : Type 0 where
  pub faultless : first_fault elf ≡ None
  pub survey : IsSurvey (image w.version elf) input w.shard w.budget p
  pub pieces : (i : ℕ) → i < div_ceil p.steps w.shard → piece_at b i ≡ Some (piece_due w elf input i)

-- the bytes of all shards of a run of so many steps
abbrev pub shards_due : MakeWords → List ℕ → List ℕ → ℕ → List ℕ
shards_due w elf input steps = flat_map (λ i. (piece_due w elf input i).bytes) (range_with_len 0 (div_ceil steps w.shard))

-- the run that the words ask for ended within the budget, in as many shards as a record may have
pub record IsEnded (w : MakeWords) (elf input : List ℕ) (e : Ended) : Type 0 where
  pub ends : EndsIn (image w.version elf) input e.steps e.end
  pub within : e.steps ≤ w.budget
  pub shards : e.shards ≡ div_ceil e.steps w.shard
  pub few : div_ceil e.steps w.shard ≤ SHARDS_LIMIT
  pub consumed : e.consumed ≡ (run (image w.version elf) input e.steps).position
  pub output : e.output.now ≡ (run (image w.version elf) input e.steps).output
  pub table : e.table.now ≡ table (image w.version elf) input e.steps

-- the record of a run that ended
abbrev pub recorded : MakeWords → List ℕ → List ℕ → Ended → List ℕ
recorded w elf input e = record_file sha_lanes w.version elf input w.shard e.steps e.end

-- A program without a fault, its run, and a task that makes the pieces of all its shards.
pub record IsTaskDue (w : MakeWords) (elf input : List ℕ) (p : PointsState) (most : ℕ) (piece : ℕ → Piece) : Type 0 where
  pub faultless : first_fault elf ≡ None
  pub survey : IsSurvey (image w.version elf) input w.shard w.budget p
  pub bound : div_ceil p.steps w.shard ≤ most
  pub pieces : (i : ℕ) → piece i ≡ piece_due w elf input i

-- what success leaves: the record of a run, which is accepted and within its limit
pub record IsRecorded (w : MakeWords) (elf input : List ℕ) (before after : ShelfView) : Type 0 where
  pub steps : ℕ
  pub end : End
  pub has : HasRecord w.version elf input w.shard steps end
  pub accepted : verdict sha_lanes elf input (record_file sha_lanes w.version elf input w.shard steps end) ≡ Accept steps (div_ceil steps w.shard) end
  pub short : length (record_file sha_lanes w.version elf input w.shard steps end) ≤ RECORD_LIMIT
  pub written : IsWritten ((w.target, record_file sha_lanes w.version elf input w.shard steps end) ∷ []) before after

-- the record is made as the plan says, and where it is written it is so
pub record Records (w : MakeWords) (elf input : List ℕ) (before after : ShelfView) (result : Result Told Fault) : Type 0 where
  pub performs : PerformsBehind (make_plan w elf input) before after result
  pub recorded : IfOk result (λ told. IsRecorded w elf input before after)
