use Rattle.std.proofs.Common.{Global, ap, ◌∙◌, map, string_bytes}
use Rattle.rv_commands.specs.Parts.{part_name}
use Rattle.rv_commands.proofs.Splitting.{listed-more}
use Rattle.rv_commands.proofs.split.part_names.Goals as goal

pub loop-number-preserved : goal.loop-number-preserved
loop-number-preserved c =
    ap (map (string_bytes {Z = Global})) c.in_ok-push.ensures.items
    ∙ listed-more (string_bytes {Z = Global}) (part_name c.args.name.now) c.loop-number.names.items _ c.loop-number.number c.loop-number.invariant c.in_ok-part_name.ensures
