use Rattle.std.proofs.Common.{ap, ◌∙◌, map}
use Rattle.rv_parts.specs.Cutting.{part_bytes}
use Rattle.rv_commands.specs.Splitting.{cut_bytes}
use Rattle.rv_commands.proofs.Splitting.{cut-bytes-are, listed-more}
use Rattle.rv_commands.proofs.split.cuts_of.Goals as goal

pub loop-number-preserved : goal.loop-number-preserved
loop-number-preserved c =
    ap (map cut_bytes) c.in_ok-push.ensures.items
    ∙ listed-more cut_bytes (part_bytes c.args.parsed.now c.args.parts) c.loop-number.cuts.items c.part_cut.result c.loop-number.number c.loop-number.invariant
    (cut-bytes-are c.part_cut.result c.args.parsed.now c.args.parts c.loop-number.number c.part_cut.ensures.head c.part_cut.ensures.front c.part_cut.ensures.body)
