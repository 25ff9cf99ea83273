use Rattle.std.proofs.Common.{Some, ap, ◌∙◌, refl, arith}
use Rattle.rv_query.specs.Accesses.{Numbered}
use Rattle.rv_query.proofs.Trails.{past-read, past-change}
use Rattle.rv_query.proofs.trail.Trail.past.Goals as goal

pub returns-then-access : goal.returns-then-access
returns-then-access c initial before until early is =
    let a : Numbered = record { step = c.args.step; access = c.args.access.now } in
    past-read initial before a.access.cell until a c.args.self c.with_last-trail.result refl early is
    (λ less. c.with_last-trail.ensures.kept (omega (arith, less, c.time_of-time.ensures)))
    (λ more. c.with_last-trail.ensures.new (omega (arith, more, c.time_of-time.ensures)) ∙ ap (λ t. record c.args.self { value = a.access.new; time = t }) c.time_of-time.ensures)
    c.if-access.true

pub returns : goal.returns
returns c initial before until early is =
    let a : Numbered = record { step = c.args.step; access = c.args.access.now } in
    past-change initial before a.access.cell until a c.args.self c.with_last-trail.result refl early is
    (λ less. c.with_last-trail.ensures.kept (omega (arith, less, c.time_of-time.ensures)))
    (λ more. c.with_last-trail.ensures.new (omega (arith, more, c.time_of-time.ensures)) ∙ ap (λ t. record c.args.self { value = a.access.new; time = t }) c.time_of-time.ensures)
    c.if-access.false c.with_change.result
    (λ less. c.with_change.ensures.kept (omega (arith, less, c.time_of-time.ensures)))
    (λ more. c.with_change.ensures.new (omega (arith, more, c.time_of-time.ensures)) ∙ ap (λ t. record c.with_last-trail.result { changed = Some a.step; changed_time = t }) c.time_of-time.ensures)
