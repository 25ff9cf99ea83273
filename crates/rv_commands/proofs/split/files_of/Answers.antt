use Rattle.std.proofs.Common.{Global, ap, ◌∙◌, map, refl, string_bytes}
use Rattle.rv_plan.specs.FileCalls.{due_of}
use Rattle.rv_commands.specs.Splitting.{piece_bytes}
use Rattle.rv_commands.proofs.Splitting.{zipped-more}
use Rattle.rv_commands.proofs.split.files_of.Goals as goal

pub loop-i-preserved : goal.loop-i-preserved
loop-i-preserved c =
    ap (map due_of) c.in_ok-push.ensures.items
    ∙ zipped-more due_of (string_bytes {Z = Global}) piece_bytes c.loop-i.files.items c.args.names.now c.args.pieces.now _ c.loop-i.i c.index-names-i.result _ c.loop-i-test.true c.requires c.loop-i.invariant
    (c.as_str.ensures.value ∙ ap (string_bytes {Z = Global}) c.index-names-i.is) refl
