use Rattle.std.proofs.Common.{◌≡◌, ◌+◌, ◌∷◌, [], ◌++◌, List, map, take, ap, subst, sym, ◌∙◌, arith}
use Rattle.std.proofs.lemmas.List.{map-append, take_all, take_more}
use Rattle.rv_base.specs.declared.record.Access.{Access}
use Rattle.rv_query.specs.Accesses.{Numbered}
use Rattle.rv_query.specs.Following.{GoPast}
use Rattle.rv_query.proofs.Trails.{past-none, past-both}
use Rattle.rv_query.proofs.following.pass_row.Goals as goal

pub loop-access-init : goal.loop-access-init
loop-access-init c = past-none c.args.first c.args.until c.args.trails.now

pub loop-access-preserved : goal.loop-access-preserved
loop-access-preserved c =
    let with_step : Access → Numbered = λ a. record { step = c.args.step; access = a } in
    let all = c.args.accesses.now in
    let k = c.loop-access.access-index in
    let one_more : map with_step (take (k + 1) all) ≡ map with_step (take k all) ++ with_step _ ∷ [] = ap (map with_step) (take_more all k _ c.loop-access-test.true) ∙ map-append with_step (take k all) (_ ∷ []) in
    subst (λ xs. GoPast c.args.first c.args.until c.args.trails.now c.pass_access.new.trails xs) (sym one_more)
    (past-both c.args.first c.args.until c.args.trails.now c.loop-access.trails c.pass_access.new.trails (map with_step (take k all)) (with_step _ ∷ []) c.loop-access.invariant c.pass_access.ensures)

pub returns : goal.returns
returns c =
    let all = c.args.accesses.now in
    subst (λ (xs : List Access). GoPast c.args.first c.args.until c.args.trails.now c.loop-access.trails (map (λ a. record { step = c.args.step; access = a }) xs)) (take_all c.loop-access.access-index all (omega (arith, c.loop-access-test.false))) c.loop-access.invariant
