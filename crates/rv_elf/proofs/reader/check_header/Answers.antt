use Rattle.std.proofs.Common.{arith}
use Rattle.rv_elf.proofs.HeaderLaws.{clear-9, fault-9, whole-machine}
use Rattle.rv_elf.proofs.reader.check_header.Goals as goal

pub get32-requires : goal.get32-requires
get32-requires c = let whole = whole-machine c.args.file.now c.in_ok-check_machine.ensures.clear in omega arith

pub get16-requires : goal.get16-requires
get16-requires c = let whole = whole-machine c.args.file.now c.in_ok-check_machine.ensures.clear in omega arith

pub returns-then-get32-get16-clause-fault : goal.returns-then-get32-get16-clause-fault
returns-then-get32-get16-clause-fault c = fault-9 c.args.file.now c.in_ok-check_machine.ensures.clear c.get32.result c.get16.result c.get32.ensures c.get16.ensures c.if-get32-get16.true

pub returns-clause-clear : goal.returns-clause-clear
returns-clause-clear c = clear-9 c.args.file.now c.in_ok-check_machine.ensures.clear c.get32.result c.get16.result c.get32.ensures c.get16.ensures c.if-get32-get16.false
