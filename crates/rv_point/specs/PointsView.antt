-- The points' fields as what is kept of a run.
use Rattle.std.specs.Prelude.{◌≡◌, ◌≤◌, map}
use Rattle.std.specs.List.{range_with_len}
use Rattle.std.specs.Int.{IsInRange, div_ceil}
use Rattle.rv_base.specs.declared.limits.TheConstants.{SHARD_SIZE_LIMIT, SHARDS_LIMIT}
use Rattle.rv_spec.specs.Run.{run, EndsIn}
use Rattle.rv_spec.specs.Trace.{table}
use Rattle.rv_point.specs.declared.points.Points.TheInside.{Inside}
use Rattle.rv_point.specs.Start.{shard_start}
use Rattle.rv_point.specs.PointsState.{PointsState}

abbrev pub points_view : Inside → PointsState
points_view p = record { image = p.image; input = p.input.now; size = p.size; steps = p.whole.steps; end = p.whole.end }

-- The whole is that of the run, and each start is that of its shard.
pub record ArePoints (p : Inside) : Type 0 where
  pub size_within : IsInRange 1 SHARD_SIZE_LIMIT p.size
  pub ends : EndsIn p.image p.input.now p.whole.steps p.whole.end
  pub shards : p.whole.shards ≡ div_ceil p.whole.steps p.size
  pub few : p.whole.shards ≤ SHARDS_LIMIT
  pub consumed : p.whole.consumed ≡ (run p.image p.input.now p.whole.steps).position
  pub output : p.whole.output ≡ (run p.image p.input.now p.whole.steps).output
  pub listed : p.whole.table ≡ table p.image p.input.now p.whole.steps
  pub starts : p.starts.items ≡ map (shard_start p.image p.input.now p.size) (range_with_len 0 p.whole.shards)
