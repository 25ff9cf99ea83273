use Rattle.std.proofs.Common.{sym, ◌∙◌, arith}
use Rattle.rv_program.proofs.FrontChecks.{no-magic, header-is, wrong-program, wrong-input, wrong-number, no-output, all-hold}
use Rattle.rv_program.proofs.front.checked.Goals as goal

pub returns-in_default-read_header-clause-rule : goal.returns-in_default-read_header-clause-rule
returns-in_default-read_header-clause-rule c lanes =
    let p = c.args.program.now in
    no-magic lanes p.elf p.input c.args.file.now c.in-Some.front.now (record { room = c.in-Some.ensures.cases.enough; is = c.in-Some.ensures.cases.same }) (sym c.read_header.ensures ∙ c.in_default-read_header.is)

pub returns-then-ne-clause-rule : goal.returns-then-ne-clause-rule
returns-then-ne-clause-rule c lanes =
    let p = c.args.program.now in
    wrong-program lanes p.elf p.input c.args.file.now c.in-Some.front.now c.in-Some-read_header.header c.ne.result c.elf_hash.result
    (record { cut = record { room = c.in-Some.ensures.cases.enough; is = c.in-Some.ensures.cases.same }; read = sym c.read_header.ensures ∙ c.in-Some-read_header.is })
    (record { answer = c.ne.ensures; is = c.elf_hash.ensures })
    c.if-ne.true

pub returns-then-ne-2-clause-rule : goal.returns-then-ne-2-clause-rule
returns-then-ne-2-clause-rule c lanes =
    let p = c.args.program.now in
    wrong-input lanes p.elf p.input c.args.file.now c.in-Some.front.now c.in-Some-read_header.header c.ne.result c.ne-2.result c.elf_hash.result c.input_hash.result
    (record { cut = record { room = c.in-Some.ensures.cases.enough; is = c.in-Some.ensures.cases.same }; read = sym c.read_header.ensures ∙ c.in-Some-read_header.is })
    (record { elf_compared = record { answer = c.ne.ensures; is = c.elf_hash.ensures }; input_compared = record { answer = c.ne-2.ensures; is = c.input_hash.ensures }; right = c.if-ne.false })
    c.if-ne-2.true

pub returns-in-Some-broken_number-clause-rule : goal.returns-in-Some-broken_number-clause-rule
returns-in-Some-broken_number-clause-rule c lanes =
    let p = c.args.program.now in
    wrong-number lanes p.elf p.input c.args.file.now c.in-Some.front.now c.in-Some-read_header.header c.ne.result c.ne-2.result c.elf_hash.result c.input_hash.result c.in-Some-broken_number.rule
    (record { cut = record { room = c.in-Some.ensures.cases.enough; is = c.in-Some.ensures.cases.same }; read = sym c.read_header.ensures ∙ c.in-Some-read_header.is })
    (record { elf_compared = record { answer = c.ne.ensures; is = c.elf_hash.ensures }; input_compared = record { answer = c.ne-2.ensures; is = c.input_hash.ensures }; right = c.if-ne.false })
    c.if-ne-2.false
    (sym c.broken_number.ensures ∙ c.in-Some-broken_number.is)

pub returns-then-file-header-clause-rule : goal.returns-then-file-header-clause-rule
returns-then-file-header-clause-rule c lanes =
    let p = c.args.program.now in
    no-output lanes p.elf p.input c.args.file.now c.in-Some.front.now c.in-Some-read_header.header c.ne.result c.ne-2.result c.elf_hash.result c.input_hash.result
    (record { cut = record { room = c.in-Some.ensures.cases.enough; is = c.in-Some.ensures.cases.same }; read = sym c.read_header.ensures ∙ c.in-Some-read_header.is })
    (record { elf_compared = record { answer = c.ne.ensures; is = c.elf_hash.ensures }; input_compared = record { answer = c.ne-2.ensures; is = c.input_hash.ensures }; right = c.if-ne.false })
    c.if-ne-2.false
    (sym c.broken_number.ensures ∙ c.in_default-broken_number.is)
    (omega (arith, c.if-file-header.true, c.in-Some.ensures.cases.enough))

pub returns-clause-value : goal.returns-clause-value
returns-clause-value c =
    header-is c.args.file.now c.in-Some.front.now c.in-Some-read_header.header (record { room = c.in-Some.ensures.cases.enough; is = c.in-Some.ensures.cases.same }) (sym c.read_header.ensures ∙ c.in-Some-read_header.is)

pub returns-clause-rule : goal.returns-clause-rule
returns-clause-rule c lanes =
    let p = c.args.program.now in
    all-hold lanes p.elf p.input c.args.file.now c.in-Some.front.now c.in-Some-read_header.header c.ne.result c.ne-2.result c.elf_hash.result c.input_hash.result
    (record { cut = record { room = c.in-Some.ensures.cases.enough; is = c.in-Some.ensures.cases.same }; read = sym c.read_header.ensures ∙ c.in-Some-read_header.is })
    (record { elf_compared = record { answer = c.ne.ensures; is = c.elf_hash.ensures }; input_compared = record { answer = c.ne-2.ensures; is = c.input_hash.ensures }; right = c.if-ne.false })
    c.if-ne-2.false
    (sym c.broken_number.ensures ∙ c.in_default-broken_number.is)
    (omega (arith, c.if-file-header.false, c.in-Some.ensures.cases.enough))
