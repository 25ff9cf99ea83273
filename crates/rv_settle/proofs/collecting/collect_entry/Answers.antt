use Rattle.std.proofs.lemmas.Result.{IfOk-weaker}
use Rattle.rv_spec.specs.Elf.{image}
use Rattle.rv_spec.specs.Cells.{initial_value}
use Rattle.rv_settle.proofs.Gaining.{gains-entry}
use Rattle.rv_settle.proofs.collecting.collect_entry.Goals as goal

pub returns : goal.returns
returns c =
    IfOk-weaker c.add.result _ _
    (λ x g version. gains-entry (initial_value (image version c.args.program.now.elf)) c.args.tuples.now c.add.new.self c.args.entry.now c.initial_value.result (c.initial_value.ensures version) g)
    c.add.ensures
