use Rattle.std.proofs.Common.{sym, ◌∙◌, arith}
use Rattle.rv_spec.specs.Digest.{sha_lanes}
use Rattle.rv_rules.specs.Verdict.{judge}
use Rattle.rv_rules.proofs.Lemmas.{bytes-are}
use Rattle.rv_settle.proofs.Lemmas.{accepted, refused}
use Rattle.rv_commands.proofs.Asked.{parsed-accepts, parsed-judged}
use Rattle.rv_commands.proofs.asking.accepted.Goals as goal

pub returns-in-Accept-clause-judged : goal.returns-in-Accept-clause-judged
returns-in-Accept-clause-judged c =
    let elf = c.args.program.now.elf in
    let input = c.args.program.now.input in
    let file = c.args.file.now in
    let a = accepted (judge sha_lanes elf input file) c.in-Accept.steps c.in-Accept.shards c.in-Accept.end (sym c.judge.ensures.verdict ∙ c.in-Accept.is) in
    let spelled = ((c.reading.ensures sha_lanes elf input).accepted file a.0 (bytes-are file (λ i. omega (arith, c.type_inv.file i))) a.1).0 in
    parsed-judged (judge sha_lanes elf input file) c.parse.result a.0 a.1 (c.parse.ensures.only a.0 spelled)

pub returns-in-Accept-clause-accepts : goal.returns-in-Accept-clause-accepts
returns-in-Accept-clause-accepts c =
    let file = c.args.file.now in
    parsed-accepts c.args.program.now.elf c.args.program.now.input file c.parse.result c.in-Accept.steps c.in-Accept.shards c.in-Accept.end (bytes-are file (λ i. omega (arith, c.type_inv.file i))) (sym c.judge.ensures.verdict ∙ c.in-Accept.is)
    c.parse.ensures.spelled

pub returns-in-Refuse-clause-judged : goal.returns-in-Refuse-clause-judged
returns-in-Refuse-clause-judged c =
    refused (judge sha_lanes c.args.program.now.elf c.args.program.now.input c.args.file.now) c.in-Refuse.refusal (sym c.judge.ensures.verdict ∙ c.in-Refuse.is)
