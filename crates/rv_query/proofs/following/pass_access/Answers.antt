use Rattle.std.proofs.Common.{◌≡◌, ◌+◌, ◌-◌, ◌∷◌, [], ◌++◌, ap, sym, ◌∙◌, arith}
use Rattle.rv_query.specs.Accesses.{Numbered}
use Rattle.rv_query.specs.Following.{trail}
use Rattle.rv_query.proofs.Trails.{trail-at, passed-none, passed-one}
use Rattle.rv_query.proofs.following.pass_access.Goals as goal
use Rattle.rv_query.proofs.following.pass_access.Goals.{then-time_of-via-then-time_of, then-time_of-via-else-time_of+then-access-first}

pub returns-then-time_of : goal.returns-then-time_of
returns-then-time_of c initial before are =
    let a : Numbered = record { step = c.args.step; access = c.args.access.now } in
    elim c.then-time_of.branch [
      | then-time_of-via-then-time_of w ↦
          passed-none initial before c.args.first c.args.until c.args.trails.now a (λ j less same early. omega (arith, early, c.time_of.ensures, c.time_of-2.ensures, w.if-time_of.true)) are
      | then-time_of-via-else-time_of+then-access-first w ↦
          passed-none initial before c.args.first c.args.until c.args.trails.now a (λ j less same early. omega (arith, same, w.if-access-first.true)) are
    ]

pub returns-then-place-trails : goal.returns-then-place-trails
returns-then-place-trails c initial before are =
    let a : Numbered = record { step = c.args.step; access = c.args.access.now } in
    let ts = c.args.trails.now in
    let j = a.access.cell - c.args.first in
    let own = initial (c.args.first + j) in
    let cell : a.access.cell ≡ c.args.first + j = omega (arith, c.if-access-first.false) in
    let found = trail-at initial before c.args.first c.args.until ts j _ are c.if-place-trails.true in
    passed-one initial before c.args.first c.args.until ts a j c.past.result c.if-place-trails.true cell
    (c.past.ensures own before c.args.until (omega (arith, c.time_of.ensures, c.time_of-2.ensures, c.if-time_of.false)) (found ∙ ap (λ k. trail own before k c.args.until) (sym cell)) ∙ ap (λ k. trail own (before ++ a ∷ []) k c.args.until) cell)
    are

pub returns-else-place-trails : goal.returns-else-place-trails
returns-else-place-trails c initial before are =
    let a : Numbered = record { step = c.args.step; access = c.args.access.now } in
    passed-none initial before c.args.first c.args.until c.args.trails.now a (λ j less same early. omega (arith, less, same, c.if-place-trails.false, c.if-access-first.false)) are
