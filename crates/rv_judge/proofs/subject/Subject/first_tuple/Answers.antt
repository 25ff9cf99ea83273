use Rattle.std.proofs.Common.{ap, ◌∙◌}
use Rattle.rv_spec.specs.Elf.{image}
use Rattle.rv_spec.specs.Cells.{initial_value}
use Rattle.rv_judge.specs.Subject.{Subject}
use Rattle.rv_judge.proofs.subject.Subject.first_tuple.Goals as goal

pub returns : goal.returns
returns c =
    let version = c.args.self.now.header.version in
    let value = c.initial_value.ensures version ∙ ap (λ (z : Subject). initial_value (image version z.elf) c.args.entry.now.cell) c.self.view_is in
    λ i. record { cell = c.args.entry.now.cell; value = value i; time = 0 }
