use Rattle.std.proofs.Common.{◌∙◌, ap, List, ℕ, subst, sym}
use Rattle.rv_spec.specs.Digest.{sha_lanes}
use Rattle.rv_rules.specs.Verdict.{verdict}
use Rattle.rv_judge.specs.Conclusions.{IsSound}
use Rattle.rv_judge.specs.Held.{IsWholeFront}
use Rattle.rv_commands.proofs.Judged.{contents-of, untrue}
use Rattle.rv_commands.proofs.judging.judge_file.Goals as goal

pub returns : goal.returns
returns g c =
    let read = c.in_ok-front.ensures in
    let front : List ℕ = c.in_ok-front.front.items in
    let not_whole : ¬ IsWholeFront front = λ whole. untrue c.is_whole.result c.if-is_whole.false (c.is_whole.ensures.whole.1 (subst IsWholeFront (sym c.as_slice.ensures.value) whole)) in (
      read.0,
      (
        front,
        contents-of (g.S.Shelf.view c.args.shelf.now) c.args.name.now front (read.2 not_whole),
        c.judge.ensures.verdict ∙ ap (verdict sha_lanes c.args.program.now.elf c.args.program.now.input) c.as_slice-else-is_whole.ensures.value,
        subst (λ file. IsSound sha_lanes c.args.program.now.elf c.args.program.now.input file c.judge.result) c.as_slice-else-is_whole.ensures.value c.judge.ensures.sound,
      ),
    )
