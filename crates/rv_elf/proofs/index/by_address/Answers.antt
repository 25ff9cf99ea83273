use Rattle.std.proofs.Common.{length, arith, subst, ◌∙◌, ap}
use Rattle.rv_elf.specs.Index.{AreBegun}
use Rattle.rv_elf.proofs.IndexLaws.{placed, left-out}
use Rattle.rv_elf.proofs.index.by_address.Goals as goal
use Rattle.rv_elf.proofs.index.by_address.Goals.{then-segment-gt0, else-segment-gt0}

pub loop-segment-preserved : goal.loop-segment-preserved
loop-segment-preserved c = elim c.if-segment-gt0.branch [
  | then-segment-gt0 w ↦
      let before = c.loop-segment.index.items in
      let items = ap (λ v. v.items) w.index-is ∙ w.insert.ensures.items in
      let len = ap (λ v. length v.items) w.index-is ∙ w.insert.ensures.len in
      let size = c.loop-segment.invariant.size in
      let b = subst (λ l. AreBegun l _ w.begun-at.result) w.as_slice.ensures.value w.begun-at.ensures in
      record {
        size = omega arith;
        indexed = rw items (placed c.args.loads.now c.loop-segment.segment-index _ before c.loop-segment-test.true c.loop-segment.invariant.indexed
            w.begun-at.result c.requires.apart c.requires.fits w.if-segment-gt0.true b);
      }
  | else-segment-gt0 w ↦
      let items = ap (λ v. v.items) w.index-is in
      let size = c.loop-segment.invariant.size in
      record {
        size = rw items (omega arith);
        indexed = rw items (left-out c.args.loads.now c.loop-segment.segment-index _ c.loop-segment.index.items c.loop-segment-test.true c.loop-segment.invariant.indexed w.if-segment-gt0.false);
      }
]
