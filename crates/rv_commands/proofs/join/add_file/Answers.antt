use Rattle.std.proofs.Common.{ap, bytes_eq, sym, ◌∙◌}
use Rattle.std.proofs.lemmas.Slice.Eq.{bytes_eq-Decides}
use Rattle.rv_commands.specs.Joining.{opened_of}
use Rattle.rv_commands.proofs.Joining.{file-added, file-other}
use Rattle.rv_commands.proofs.join.add_file.Goals as goal

pub returns-then-not-is_same : goal.returns-then-not-is_same
returns-then-not-is_same c = λ j ps is.
    file-other c.args.parts c.args.program.now.elf c.args.program.now.input c.args.joining.now c.args.number j ps c.args.file.now (opened_of c.in-Ok.part) c.in-Ok.ensures.exact
    (ap (bytes_eq c.in-Ok.part.front.now) (sym (c.list.ensures ∙ is.front)) ∙ sym c.is_same.ensures ∙ c.if-not-is_same.true)

pub returns : goal.returns
returns c = λ j ps is.
    let same = ap (bytes_eq c.in-Ok.part.front.now) (sym (c.list.ensures ∙ is.front)) ∙ sym c.is_same.ensures ∙ c.if-not-is_same.false in
    file-added c.args.parts c.args.program.now.elf c.args.program.now.input c.add_part.new.joining c.args.number j ps c.args.file.now c.in-Ok.part c.add_part.result c.in-Ok.ensures.exact same ((bytes_eq-Decides c.in-Ok.part.front.now j.front).0 same) (c.add_part.ensures j ps is)
