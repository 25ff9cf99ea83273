use Rattle.std.proofs.Common.{◌∙◌}
use Rattle.rv_plan.specs.FileCalls.{due_of}
use Rattle.rv_plan.proofs.Parts.{file-added, file-torn}
use Rattle.rv_plan.proofs.Plans.{handed-on}
use Rattle.rv_plan.proofs.writing.write_files.Goals as goal

pub returns-in_err-write_parts : goal.returns-in_err-write_parts
returns-in_err-write_parts g c =
    rw (handed-on c.from_residual.result c.in_err-write_parts.field-0.0 c.from_residual.ensures.1) (
      c.in_err-write_parts.ensures.0,
      file-torn due_of c.args.files.now c.loop-file.file-index _ (g.S.Shelf.view c.args.shelf.now) (g.S.Shelf.view c.loop-file.shelf) (g.S.Shelf.view c.write_parts.new.shelf) c.loop-file-test.true c.loop-file.invariant.files c.loop-file.invariant.writes c.in_err-write_parts.ensures.1 c.in_err-write_parts.ensures.2,
    )

pub loop-file-preserved : goal.loop-file-preserved
loop-file-preserved g c = record {
  writes = λ any. c.in_ok-write_parts.ensures.writes any ∙ c.loop-file.invariant.writes any;
  files = file-added due_of c.args.files.now c.loop-file.file-index _ _ _ _ c.loop-file-test.true c.loop-file.invariant.files c.in_ok-write_parts.ensures.files;
}
