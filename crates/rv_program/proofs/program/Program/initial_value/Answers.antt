use Rattle.std.proofs.Common.{sym, ap, ◌∙◌}
use Rattle.rv_spec.specs.Words.{word}
use Rattle.rv_spec.specs.Elf.{Image, image}
use Rattle.rv_elf.specs.Loaded.{loaded}
use Rattle.rv_program.specs.Files.{Files}
use Rattle.rv_program.proofs.InitialValues.{in-memory, in-stack-pointer, elsewhere}
use Rattle.rv_program.proofs.program.Program.initial_value.Goals as goal

pub returns-then-cell-lt-REGISTER_CELLS : goal.returns-then-cell-lt-REGISTER_CELLS
returns-then-cell-lt-REGISTER_CELLS c version =
    c.word.ensures
    ∙ ap (λ (i : Image). word (loaded i) c.args.cell) (c.self.invariant.loaded_is ∙ ap (λ (f : Files). image 1 f.elf) c.self.view_is)
    ∙ sym (in-memory (image version c.args.self.now.elf) c.args.cell c.if-cell-lt-REGISTER_CELLS.true)

pub returns-then-cell : goal.returns-then-cell
returns-then-cell c version = sym (rw c.if-cell.true (in-stack-pointer (image version c.args.self.now.elf)))

pub returns-else-cell : goal.returns-else-cell
returns-else-cell c version = sym (elsewhere (image version c.args.self.now.elf) c.args.cell c.if-cell-lt-REGISTER_CELLS.false c.if-cell.false)
