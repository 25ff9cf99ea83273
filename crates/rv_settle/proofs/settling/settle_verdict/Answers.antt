use Rattle.std.proofs.Common.{sym, ◌∙◌, arith}
use Rattle.rv_rules.specs.Verdict.{judge}
use Rattle.rv_rules.proofs.Lemmas.{bytes-are}
use Rattle.rv_settle.proofs.Concluding.{accepted, concluded, decided-of}
use Rattle.rv_settle.proofs.settling.settle_verdict.Goals as goal

pub unreachable-requires : goal.unreachable-requires
unreachable-requires g c =
    let elf = c.args.program.now.elf in
    let input = c.args.program.now.input in
    let file = c.args.file.now in
    let a = accepted (judge g.L.Lanes.lanes elf input file) c.in-Accept.steps c.in-Accept.shards c.in-Accept.end (sym c.requires ∙ c.in-Accept.is) in
    let spelled = ((c.reading.ensures g.L.Lanes.lanes elf input).accepted file a.0 (bytes-are file (λ i. omega (arith, c.type_inv.file i))) a.1).0 in
    c.in_default.ensures.only a.0 spelled

pub returns : goal.returns
returns g c =
    let lanes = g.L.Lanes.lanes in
    let elf = c.args.program.now.elf in
    let input = c.args.program.now.input in
    let file = c.args.file.now in
    let file_bytes = bytes-are file (λ i. omega (arith, c.type_inv.file i)) in
    let a = accepted (judge lanes elf input file) c.in-Accept.steps c.in-Accept.shards c.in-Accept.end (sym c.requires ∙ c.in-Accept.is) in
    let spelled = ((c.reading.ensures lanes elf input).accepted file a.0 file_bytes a.1).0 in
    concluded lanes elf input file c.in-Accept.steps a.0 c.decide.result
    (record {
      faultless = c.opened.ensures.faultless;
      elf_bytes = c.opened.ensures.elf;
      input_bytes = c.opened.ensures.input;
      file_bytes = file_bytes;
      judged = a.1;
      steps_are = a.2;
      reads = c.reading.ensures lanes elf input;
      sound = c.soundness.ensures lanes elf input file a.0;
    })
    (decided-of elf c.in-Ok.parsed a.0 c.in_ok-tuples.tuples.reads.items c.in_ok-tuples.tuples.writes.items c.in-Accept.steps c.decide.result (c.in-Ok.ensures.only a.0 spelled) c.in_ok-tuples.ensures.reads c.in_ok-tuples.ensures.writes c.decide.ensures)
