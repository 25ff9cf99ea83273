use Rattle.std.proofs.Common.{IsNone, sym, ◌∙◌, subst, rules}
use Rattle.rv_order.proofs.TupleOrder.{in-order-from-sorted}
use Rattle.rv_order.proofs.Differences.{count-kept, same-kept, differing-kept, not-same}
use Rattle.rv_order.proofs.multiset.compare.Goals as goal

pub first_difference-requires-clause-reads_in_order :
    goal.first_difference-requires-clause-reads_in_order
first_difference-requires-clause-reads_in_order c = in-order-from-sorted c.sort_unstable.new.self c.sort_unstable.ensures.sorted

pub first_difference-requires-clause-writes_in_order :
    goal.first_difference-requires-clause-writes_in_order
first_difference-requires-clause-writes_in_order c = in-order-from-sorted c.sort_unstable-2.new.self c.sort_unstable-2.ensures.sorted

pub returns-in_err-tuple-clause-same : goal.returns-in_err-tuple-clause-same
returns-in_err-tuple-clause-same c = (
  λ _. same-kept c.sort_unstable.ensures.permutation c.sort_unstable-2.ensures.permutation c.in_err-tuple.ensures,
  λ _. subst IsNone (sym c.from_residual.ensures) (search rules),
)

pub returns-clause-same : goal.returns-clause-same
returns-clause-same c = (
  λ e. cc,
  λ s. absurd (not-same (differing-kept c.sort_unstable.ensures.permutation c.sort_unstable-2.ensures.permutation c.in_ok-tuple.ensures) s),
)

pub returns-clause-least : goal.returns-clause-least
returns-clause-least c = differing-kept c.sort_unstable.ensures.permutation c.sort_unstable-2.ensures.permutation c.in_ok-tuple.ensures

pub returns-clause-count_read : goal.returns-clause-count_read
returns-clause-count_read c = c.occurrences.ensures ∙ count-kept c.in_ok-tuple.tuple c.sort_unstable.ensures.permutation

pub returns-clause-count_written : goal.returns-clause-count_written
returns-clause-count_written c = c.occurrences-2.ensures ∙ count-kept c.in_ok-tuple.tuple c.sort_unstable-2.ensures.permutation
