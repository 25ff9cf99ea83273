-- The walk's fields as what it shows.
use Rattle.std.specs.Prelude.{◌≡◌, ◌≤◌, None, Some}
use Rattle.rv_base.specs.declared.limits.TheConstants.{SHARDS_LIMIT}
use Rattle.rv_spec.specs.Words.{AreBytes}
use Rattle.rv_rules.specs.Agreement.{IsProgram}
use Rattle.rv_point.specs.declared.fault.RunFault.{RunFault}
use Rattle.rv_point.specs.declared.walk.Walk.TheInside.{Inside}
use Rattle.rv_point.specs.Course.{IsBegun, HasFault}
use Rattle.rv_point.specs.WalkState.{WalkState}

abbrev pub walk_view : Inside → WalkState
walk_view w = record {
  image = w.course.hart.cells.image;
  input = w.course.hart.input;
  size = w.size;
  budget = w.budget;
  given = w.given;
  ended = w.course.ended;
  fault = w.fault;
}

-- The course stands behind the shards that were given, or there is an error, and what it says is so.
pub record IsWalk (w : Inside) : Type 0 where
  pub program : IsProgram w.course.hart.cells.image
  pub bytes : AreBytes w.course.hart.input
  pub few : w.given ≤ SHARDS_LIMIT
  pub begun : w.fault ≡ None → IsBegun w.course w.size w.budget w.given
  pub failed : (f : RunFault) → w.fault ≡ Some f → HasFault w.course.hart.cells.image w.course.hart.input w.size w.budget w.given f
