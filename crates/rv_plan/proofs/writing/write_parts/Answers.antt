use Rattle.std.proofs.Common.{refl, ◌∙◌}
use Rattle.rv_plan.proofs.Parts.{part-added, part-torn}
use Rattle.rv_plan.proofs.writing.write_parts.Goals as goal

pub returns-in_default-append : goal.returns-in_default-append
returns-in_default-append g c = (
  refl,
  rw (← c.loop-part.invariant.writes c.args.name.now) c.in_default-append.ensures.failed,
  part-torn (λ part. part.now) c.args.parts.now c.loop-part.part-index _ c.args.name.now _ _ _ c.loop-part-test.true c.loop-part.invariant.files c.in_default-append.ensures.prefix,
)

pub loop-part-preserved : goal.loop-part-preserved
loop-part-preserved g c = record {
  writes = λ any. (c.in-Ok-append.ensures.writes any).ok_leaves ∙ c.loop-part.invariant.writes any;
  files = part-added (λ part. part.now) c.args.parts.now c.loop-part.part-index _ c.args.name.now _ _ _ c.loop-part-test.true c.loop-part.invariant.files c.in-Ok-append.ensures.added;
}
