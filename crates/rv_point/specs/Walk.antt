-- What the calls of a walk give.
use Rattle.std.specs.Prelude.{◌≡◌, ℕ, ◌+◌, ◌≤◌, Option, Some, None}
use Rattle.std.specs.Int.{div_ceil}
use Rattle.rv_base.specs.declared.limits.TheConstants.{SHARDS_LIMIT}
use Rattle.rv_base.specs.declared.record.End.{End}
use Rattle.rv_spec.specs.Run.{run, EndsIn}
use Rattle.rv_spec.specs.Trace.{table}
use Rattle.rv_point.specs.declared.start.ShardStart.{ShardStart}
use Rattle.rv_point.specs.declared.walk.Whole.{Whole}
use Rattle.rv_point.specs.Course.{IsNextStart}
use Rattle.rv_point.specs.WalkState.{WalkState}

-- the walk is over the same run, in the same shards
pub record IsSameWalk (old new : WalkState) : Type 0 where
  pub image : new.image ≡ old.image
  pub input : new.input ≡ old.input
  pub size : new.size ≡ old.size
  pub budget : new.budget ≡ old.budget

-- The run ended within the budget, and the starts of all its shards were given.
pub record HasGivenAll (w : WalkState) : Type 0 where
  pub steps : ℕ
  pub end : End
  pub ended : w.ended ≡ Some end
  pub faultless : w.fault ≡ None
  pub ends : EndsIn w.image w.input steps end
  pub within : steps ≤ w.budget
  pub all : w.given ≡ div_ceil steps w.size

-- The start of the next shard is given, or all were.
abbrev pub GivesNext : WalkState → WalkState → Option ShardStart → Type 0
GivesNext old new (Some s) = IsNextStart old.image old.input old.size old.budget old.given s × (new.given ≡ old.given + 1) × (new.fault ≡ None)
GivesNext old new None = HasGivenAll old × (new ≡ old)

-- The whole of the run of a walk.
pub record IsWhole (w : WalkState) (o : Whole) : Type 0 where
  pub ends : EndsIn w.image w.input o.steps o.end
  pub within : o.steps ≤ w.budget
  pub shards : o.shards ≡ div_ceil o.steps w.size
  pub few : o.shards ≤ SHARDS_LIMIT
  pub consumed : o.consumed ≡ (run w.image w.input o.steps).position
  pub output : o.output ≡ (run w.image w.input o.steps).output
  pub table : o.table ≡ table w.image w.input o.steps
