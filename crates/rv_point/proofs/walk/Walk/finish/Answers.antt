use Rattle.std.proofs.Common.{refl, sym, ◌∙◌, ap, subst}
use Rattle.rv_mem.specs.Contents.{IsTable}
use Rattle.rv_point.specs.WalkState.{WalkState}
use Rattle.rv_point.specs.declared.walk.Whole.{Whole}
use Rattle.rv_point.specs.Walk.{IsWhole}
use Rattle.rv_point.proofs.WalkLaws.{whole-is}
use Rattle.rv_point.proofs.walk.Walk.finish.Goals as goal

pub returns : goal.returns
returns c =
    let w = c.self.inside in
    let none = ap (λ (v : WalkState). v.fault) c.self.view_is ∙ c.requires.faultless in
    let o : Whole = record { steps = w.course.steps; shards = w.given; end = c.in-Some.end; consumed = c.position.result; output = c.of.result; table = c.of-table.result } in
    subst (λ (v : WalkState). IsWhole v o) c.self.view_is
    (whole-is w c.in-Some.end o c.self.invariant none c.in-Some.is refl refl refl c.position.ensures.value c.of.ensures (subst (IsTable w.course.hart.cells) (sym c.of-table.ensures) c.in_ok-touched.ensures))
