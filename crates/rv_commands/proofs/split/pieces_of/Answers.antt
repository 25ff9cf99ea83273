use Rattle.std.proofs.Common.{ap, ◌∙◌, map}
use Rattle.rv_commands.specs.Splitting.{cut_bytes, piece_bytes}
use Rattle.rv_commands.proofs.Splitting.{taken-more}
use Rattle.rv_commands.proofs.split.pieces_of.Goals as goal

pub loop-cut-preserved : goal.loop-cut-preserved
loop-cut-preserved c =
    ap (map piece_bytes) c.in_ok-push.ensures.items
    ∙ taken-more piece_bytes cut_bytes c.loop-cut.pieces.items c.args.cuts.now c.pieces_in.result c.loop-cut.cut-index _ c.loop-cut-test.true c.loop-cut.invariant c.pieces_in.ensures
