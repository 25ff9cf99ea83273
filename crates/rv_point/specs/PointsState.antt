-- What is kept of a run that was gone through.
use Rattle.std.specs.Prelude.{◌≡◌, ◌<◌, ◌≤◌, ℕ, List}
use Rattle.std.specs.Int.{div_ceil}
use Rattle.rv_base.specs.declared.limits.TheConstants.{SHARDS_LIMIT}
use Rattle.rv_base.specs.declared.record.End.{End}
use Rattle.rv_spec.specs.Elf.{Image}
use Rattle.rv_spec.specs.Run.{EndsIn, GoesOn}
use Rattle.rv_point.specs.declared.fault.RunFault.{RunFault}
use Rattle.rv_point.specs.declared.fault.RunFault.TheVariants as fault

-- The run of a program on an input, which ends, and the size of its shards. All else about it is determined.
pub record PointsState : Type 0 where
  pub image : Image
  pub input : List ℕ
  pub size : ℕ
  pub steps : ℕ
  pub end : End

-- The run ends within the budget, in as many shards as a record may have.
pub record IsSurvey (i : Image) (input : List ℕ) (size budget : ℕ) (p : PointsState) : Type 0 where
  pub image_is : p.image ≡ i
  pub input_is : p.input ≡ input
  pub size_is : p.size ≡ size
  pub ends : EndsIn i input p.steps p.end
  pub within : p.steps ≤ budget
  pub few : div_ceil p.steps size ≤ SHARDS_LIMIT

-- the run ends within the budget, but it needs more shards
pub record NeedsShards (i : Image) (input : List ℕ) (size budget needed : ℕ) : Type 0 where
  pub steps : ℕ
  pub end : End
  pub ends : EndsIn i input steps end
  pub within : steps ≤ budget
  pub count : needed ≡ div_ceil steps size
  pub more : SHARDS_LIMIT < needed

-- why a run has no survey
abbrev pub HasNoSurvey : Image → List ℕ → ℕ → ℕ → RunFault → Type 0
HasNoSurvey i input size budget fault.Budget = GoesOn i input budget
HasNoSurvey i input size budget (fault.Shards needed) = NeedsShards i input size budget needed
HasNoSurvey i input size budget fault.NoMemory = Unit {0}
