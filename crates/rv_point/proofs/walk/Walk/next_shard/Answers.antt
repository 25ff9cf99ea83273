use Rattle.std.proofs.Common.{None, refl, sym, ◌∙◌, ap, subst}
use Rattle.rv_point.specs.declared.course.Course.{Course}
use Rattle.rv_point.specs.WalkState.{WalkState}
use Rattle.rv_point.specs.WalkView.{walk_view}
use Rattle.rv_point.specs.Course.{GivesShard, HasFault}
use Rattle.rv_point.specs.Walk.{HasGivenAll}
use Rattle.rv_point.proofs.WalkLaws.{walk-given}
use Rattle.rv_point.proofs.walk.Walk.next_shard.Goals as goal

pub returns-in-Some-clause-err : goal.returns-in-Some-clause-err
returns-in-Some-clause-err c = (
  ap (λ (w : WalkState). w.fault) (sym c.self.view_is) ∙ c.in-Some.is,
  subst (λ (w : WalkState). HasFault w.image w.input w.size w.budget w.given c.in-Some.fault) c.self.view_is (c.self.invariant.failed c.in-Some.fault c.in-Some.is),
  refl,
)

pub next_shard-requires-clause-begun : goal.next_shard-requires-clause-begun
next_shard-requires-clause-begun c = c.self.invariant.begun c.in_default.is

pub returns-in-Ok-None-clause-ok : goal.returns-in-Ok-None-clause-ok
returns-in-Ok-None-clause-ok c =
    let w = c.self.inside in
    let gives : GivesShard w.course c.next_shard.new.self w.size w.budget w.given None = subst (λ o. GivesShard w.course c.next_shard.new.self w.size w.budget w.given o) c.in-Ok-None.field-0-is c.in-Ok-None.ensures.ok in (
      subst (λ (v : WalkState). HasGivenAll v) c.self.view_is (walk-given w gives.1 c.self.invariant c.in_default.is gives.2),
      ap (λ (course : Course). walk_view (record w { course = course })) gives.0 ∙ c.self.view_is,
    )
