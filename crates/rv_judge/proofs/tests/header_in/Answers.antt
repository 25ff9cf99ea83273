use Rattle.std.proofs.Common.{sym}
use Rattle.rv_rules.specs.Sums.{tiny_lanes}
use Rattle.rv_judge.proofs.Headers.{header-checked}
use Rattle.rv_judge.proofs.tests.header_in.Goals as goal

pub returns-in-Ok : goal.returns-in-Ok
returns-in-Ok c = header-checked tiny_lanes c.args.program.now.elf c.args.program.now.input c.args.file.now c.in-Ok.header (sym (c.in-Ok.ensures.exact tiny_lanes))
