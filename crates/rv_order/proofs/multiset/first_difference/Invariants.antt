use Rattle.std.proofs.Common.{◌≡◌, ℕ, ◌<◌, length, get_or}
use Rattle.rv_base.specs.declared.record.Tuple.{Tuple}
use Rattle.rv_order.proofs.multiset.first_difference.Given as goal

abbrev pub invariant-loop-read : goal.invariant-loop-read
invariant-loop-read l = (k : ℕ) (d : Tuple) → k < length l.yielded → get_or l.reads k d ≡ get_or l.writes k d
