use Rattle.std.proofs.Common.{◌≡◌, ◌∙◌, ◌<◌, ◌+◌, List, ◌∷◌, drop, length, get_or, sym, arith}
use Rattle.std.proofs.lemmas.List.{length-drop, drop_more}
use Rattle.rv_base.specs.declared.record.Access.{Access}
use Rattle.rv_rowcheck.proofs.InOnePass.{agree-by-facts, behind-last, none-expected, pair-differs}
use Rattle.rv_rowcheck.proofs.agreeing.all_agree.Goals as goal

pub returns-in_default : goal.returns-in_default
returns-in_default c =
    let xs : List Access = drop c.loop-access.access-index c.args.accesses.now in
    let some : 0 < length xs = omega (arith, c.loop-access-test.true, length-drop c.loop-access.access-index c.args.accesses.now) in
    none-expected c.args.step xs c.loop-access.left.now some c.in_default.ensures.cases ∙ c.loop-access.invariant ∙ agree-by-facts c.args.step c.args.accesses.now c.args.touches.now

pub returns-then-not-agrees : goal.returns-then-not-agrees
returns-then-not-agrees c =
    let at = c.loop-access.access-index in
    let a : Access = get_or c.args.accesses.now at (record { slot = 0; cell = 0; old = 0; prev = 0; new = 0 }) in
    let front : drop at c.args.accesses.now ≡ a ∷ drop (at + 1) c.args.accesses.now = drop_more c.args.accesses.now at (record { slot = 0; cell = 0; old = 0; prev = 0; new = 0 }) c.loop-access-test.true in
    pair-differs c.args.step (drop at c.args.accesses.now) (drop (at + 1) c.args.accesses.now) c.loop-access.left.now c.in-Some.rest.now a c.in-Some.touch.now front c.in-Some.ensures.cases.0 (sym c.agrees.ensures ∙ c.if-not-agrees.true)
    ∙ c.loop-access.invariant
    ∙ agree-by-facts c.args.step c.args.accesses.now c.args.touches.now

pub returns : goal.returns
returns c =
    c.is_empty.ensures
    ∙ behind-last c.args.step (drop c.loop-access.access-index c.args.accesses.now) c.loop-access.left.now (omega (arith, c.loop-access-test.false, length-drop c.loop-access.access-index c.args.accesses.now))
    ∙ c.loop-access.invariant
    ∙ agree-by-facts c.args.step c.args.accesses.now c.args.touches.now
