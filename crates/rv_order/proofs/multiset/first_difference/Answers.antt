use Rattle.std.proofs.Common.{◌≡◌, ◌<◌, ◌≤◌, ℕ, List, Bool, true, false, length, get_or, cond, sym, refl, ◌∙◌, ap, subst, is_lt, Option, Some, None, MatchOption, IfSome, option_copied, HoldsAt, Bor, rules}
use Rattle.std.proofs.lemmas.Slice.Zip.{zip_turn, zip_end}
use Rattle.rv_base.specs.declared.record.Tuple.{Tuple}
use Rattle.rv_order.specs.Order.{IsLeastDiffering}
use Rattle.rv_order.proofs.TupleOrder.{unequal, tuple_cmp}
use Rattle.rv_order.proofs.Differences.{Looks, differing-inside, differing-end}
use Rattle.rv_order.proofs.multiset.first_difference.Goals as goal

now-cond : (b : Bool) (x y : Bor Tuple) → cond b x.now y.now ≡ (cond b x y).now
now-cond true x y = refl
now-cond false x y = refl

pub returns-then-ne : goal.returns-then-ne
returns-then-ne c =
    let read : Bor Tuple = c.in-Some.read in
    let write : Bor Tuple = c.in-Some.write in
    let turn = zip_turn c.args.reads.now c.args.writes.now c.loop-read.yielded c.into_iter-read-iterator.result c.loop-read.read-iterator c.next.new.self c.next.result
    (search rules) (search rules) c.loop-read.yielded_by (read, write) c.in-Some.is c.next.ensures.steps in
    let differ = differing-inside (length c.loop-read.yielded) c.args.reads.now c.args.writes.now read.now write.now c.requires.reads_in_order c.requires.writes_in_order c.loop-read.invariant turn.0 turn.1 turn.2 turn.3
    (unequal read.now write.now (sym c.ne.ensures ∙ c.if-ne.true)) in
    subst (IsLeastDiffering c.args.reads.now c.args.writes.now) (now-cond (is_lt (tuple_cmp write.now read.now)) write read ∙ ap (λ z. z.now) (sym c.min.ensures)) differ

looks : (xs : List Tuple) (i : ℕ) (a : Option (Bor Tuple)) → MatchOption a (length xs ≤ i) (λ x. (i < length xs) × HoldsAt (λ y. x.now ≡ y) xs i) → IfSome a (λ x. x.now ≡ get_or xs i x.now) → Looks xs i a
looks xs i None m s = m
looks xs i (Some x) m s = (m.0, s)

pub returns : goal.returns
returns c =
    let end = zip_end c.args.reads.now c.args.writes.now c.loop-read.yielded c.into_iter-read-iterator.result c.loop-read.read-iterator c.next.new.self c.next.result
    (search rules) (search rules) c.loop-read.yielded_by c.in-None.is c.next.ensures.steps in
    let shorter : length c.loop-read.yielded ≡ c.min-shorter.result = end ∙ sym c.min-shorter.ensures in
    let same = subst (λ n. (k : ℕ) (d : Tuple) → k < n → get_or c.args.reads.now k d ≡ get_or c.args.writes.now k d) shorter c.loop-read.invariant in
    let differ = differing-end c.min-shorter.result c.args.reads.now c.args.writes.now c.get.result c.get-2.result c.requires.reads_in_order c.requires.writes_in_order same c.min-shorter.ensures
    (looks c.args.reads.now c.min-shorter.result c.get.result c.get.ensures.lookup.3 c.get.ensures.lookup.1)
    (looks c.args.writes.now c.min-shorter.result c.get-2.result c.get-2.ensures.lookup.3 c.get-2.ensures.lookup.1) in
    subst (λ o. MatchOption o (c.args.reads.now ≡ c.args.writes.now) (IsLeastDiffering c.args.reads.now c.args.writes.now)) (sym (c.copied.ensures ∙ ap option_copied c.or.ensures)) differ
