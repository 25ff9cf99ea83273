use Rattle.std.proofs.Common.{◌≡◌, ◌++◌}
use Rattle.rv_mem.specs.Used.{used, listed_word}
use Rattle.rv_mem.proofs.page.list_used.Given as goal

abbrev pub invariant-loop-i : goal.invariant-loop-i
invariant-loop-i l = l.entries.items ≡ l.initial.entries.items ++ used (listed_word l.words l.first) l.first l.i
