use Rattle.std.proofs.Common.{sym}
use Rattle.rv_rules.specs.Sums.{tiny_lanes}
use Rattle.rv_judge.proofs.Lemmas.{header-checked}
use Rattle.rv_parts.proofs.tests.summary_of.Goals as goal

pub summarize-requires-clause-header : goal.summarize-requires-clause-header
summarize-requires-clause-header c =
    header-checked tiny_lanes c.args.program.now.elf c.args.program.now.input c.args.front.now c.in_ok-header.header (sym (c.in_ok-header.ensures.exact tiny_lanes))
