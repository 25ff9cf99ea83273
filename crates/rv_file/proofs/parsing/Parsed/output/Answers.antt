use Rattle.std.proofs.Common.{ap, ◌∙◌}
use Rattle.rv_spec.specs.Record.{Parts}
use Rattle.rv_file.proofs.Showing.{output-room, output-shown}
use Rattle.rv_file.proofs.parsing.Parsed.output.Goals as goal

pub output_of-requires : goal.output_of-requires
output_of-requires c = output-room c.self.inside.file.now c.self.inside.header c.self.inside.entries c.self.invariant

pub returns : goal.returns
returns c =
    c.output_of.ensures
    ∙ output-shown c.self.inside.file.now c.self.inside.header c.self.inside.entries c.self.invariant
    ∙ ap (λ (p : Parts). p.output) c.self.view_is
