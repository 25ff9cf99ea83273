use Rattle.std.proofs.Common.{ap, ◌∙◌}
use Rattle.rv_file.specs.Front.{front_length}
use Rattle.rv_commands.proofs.Joining.{front-at}
use Rattle.rv_commands.proofs.join.front_at.Goals as goal

pub returns : goal.returns
returns c = front-at c.args.bytes.now c.front_len.result c.first_bytes.result c.in_ok-header.ensures.cases.enough (c.front_len.ensures ∙ ap front_length c.in_ok-header.ensures.cases.same) c.first_bytes.ensures
