use Rattle.std.proofs.Common.{sym, ◌∙◌, arith}
use Rattle.rv_elf.proofs.HeaderLaws.{clear-6, clear-7, clear-8, fault-6, fault-7, fault-8, whole-identity}
use Rattle.rv_elf.proofs.reader.check_machine.Goals as goal

pub get16-requires : goal.get16-requires
get16-requires c = let whole = whole-identity c.args.file.now c.requires in omega arith

pub get16-requires-2 : goal.get16-requires-2
get16-requires-2 c = let whole = whole-identity c.args.file.now c.requires in omega arith

pub get16-requires-3 : goal.get16-requires-3
get16-requires-3 c = let whole = whole-identity c.args.file.now c.requires in omega arith

pub returns-then-get16-ne2-clause-fault : goal.returns-then-get16-ne2-clause-fault
returns-then-get16-ne2-clause-fault c = fault-6 c.args.file.now c.requires (λ e. c.if-get16-ne2.true (c.get16.ensures ∙ e))

pub returns-then-get16-ne243-clause-fault : goal.returns-then-get16-ne243-clause-fault
returns-then-get16-ne243-clause-fault c =
    fault-7 c.args.file.now (clear-6 c.args.file.now c.requires (sym c.get16.ensures ∙ c.if-get16-ne2.false)) (λ e. c.if-get16-ne243.true (c.get16-2.ensures ∙ e))

pub returns-then-get16-ne32-clause-fault : goal.returns-then-get16-ne32-clause-fault
returns-then-get16-ne32-clause-fault c =
    let before = clear-7 c.args.file.now (clear-6 c.args.file.now c.requires (sym c.get16.ensures ∙ c.if-get16-ne2.false)) (sym c.get16-2.ensures ∙ c.if-get16-ne243.false) in
    fault-8 c.args.file.now before (λ e. c.if-get16-ne32.true (c.get16-3.ensures ∙ e))

pub returns-clause-clear : goal.returns-clause-clear
returns-clause-clear c =
    let before = clear-7 c.args.file.now (clear-6 c.args.file.now c.requires (sym c.get16.ensures ∙ c.if-get16-ne2.false)) (sym c.get16-2.ensures ∙ c.if-get16-ne243.false) in
    clear-8 c.args.file.now before (sym c.get16-3.ensures ∙ c.if-get16-ne32.false)
