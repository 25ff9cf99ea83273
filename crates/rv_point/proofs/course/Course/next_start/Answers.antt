use Rattle.std.proofs.Common.{◌≡◌, ◌-◌, ◌≤◌, min, None, refl, sym, ◌∙◌, ap, subst, arith}
use Rattle.rv_point.specs.Course.{TakesShard}
use Rattle.rv_point.proofs.CourseLaws.{some-of, none-of}
use Rattle.rv_point.proofs.StartLaws.{place-is, rows-within, over-budget, start-is, begun-next}
use Rattle.rv_point.proofs.course.Course.next_start.Goals as goal
use Rattle.rv_point.proofs.course.Course.next_start.Goals.{else-is_none-via-then-is_none+else-rows-size, else-is_none-via-else-is_none}

pub overflow_cast-rows : goal.overflow_cast-rows
overflow_cast-rows c =
    let old = c.args.self.now in
    let new = c.take_shard.new.self in
    let most : c.min-most.result ≡ min c.args.size (c.args.budget - old.steps) = c.min-most.ensures ∙ ap (λ x. min x (c.args.budget - old.steps)) c.from.ensures in
    let taken : TakesShard old new (min c.args.size (c.args.budget - old.steps)) c.in_ok-cells.cells = subst (λ x. TakesShard old new x c.in_ok-cells.cells) most c.in_ok-cells.ensures.ok in
    let within = rows-within old new c.args.size c.args.budget c.args.given c.in_ok-cells.cells c.requires.begun c.requires.going c.requires.few taken in
    let limit = c.requires.begun.size_within.1 in
    omega (arith, within.0, within.1, limit)

pub returns-then-rows-size-clause-err : goal.returns-then-rows-size-clause-err
returns-then-rows-size-clause-err c =
    let old = c.args.self.now in
    let new = c.take_shard.new.self in
    let most : c.min-most.result ≡ min c.args.size (c.args.budget - old.steps) = c.min-most.ensures ∙ ap (λ x. min x (c.args.budget - old.steps)) c.from.ensures in
    let taken : TakesShard old new (min c.args.size (c.args.budget - old.steps)) c.in_ok-cells.cells = subst (λ x. TakesShard old new x c.in_ok-cells.cells) most c.in_ok-cells.ensures.ok in
    over-budget old new c.args.size c.args.budget c.args.given c.in_ok-cells.cells c.requires.begun c.requires.going c.requires.few taken (none-of new.ended (sym c.if-is_none.ensures)) c.if-rows-size.true

pub returns-clause-ok : goal.returns-clause-ok
returns-clause-ok c =
    let old = c.args.self.now in
    let new = c.take_shard.new.self in
    let most : c.min-most.result ≡ min c.args.size (c.args.budget - old.steps) = c.min-most.ensures ∙ ap (λ x. min x (c.args.budget - old.steps)) c.from.ensures in
    let taken : TakesShard old new (min c.args.size (c.args.budget - old.steps)) c.in_ok-cells.cells = subst (λ x. TakesShard old new x c.in_ok-cells.cells) most c.in_ok-cells.ensures.ok in
    let enough : new.ended ≡ None → c.args.size ≤ new.steps - old.steps = λ none. elim c.else-is_none.branch [
      | else-is_none-via-then-is_none+else-rows-size w ↦ omega (arith, w.if-rows-size.false)
      | else-is_none-via-else-is_none w ↦ absurd (let some = some-of new.ended (sym w.if-is_none.ensures) in let is = some.1 in let no : ⊥ = cc in no)
    ] in (
      start-is old new c.args.size c.args.budget c.args.given c.in_ok-cells.cells c.requires.begun c.requires.going c.requires.few taken _ c.place-place.result refl (place-is old c.requires.begun.at.after c.place-place.result c.place-place.ensures) enough,
      begun-next old new c.args.size c.args.budget c.args.given c.in_ok-cells.cells c.requires.begun c.requires.going c.requires.few taken enough,
    )
