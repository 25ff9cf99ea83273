use Rattle.std.proofs.Common.{arith, subst}
use Rattle.std.specs.List.{AllByRecursion}
use Rattle.std.proofs.lemmas.List.{take_all}
use Rattle.rv_elf.specs.Written.{AreWords}
use Rattle.rv_elf.proofs.WriterLaws.{lens-next, table-next, table-done, ranges-next}
use Rattle.rv_elf.proofs.writer.put_table.Goals as goal

pub loop-part-preserved : goal.loop-part-preserved
loop-part-preserved c =
    let room = c.loop-part.invariant.room in
    let next = lens-next c.args.parts.now c.loop-part.part-index (record { addr = 0; len = 0; size = 0 }) c.loop-part-test.true in
    record {
      room = omega arith;
      left = table-next c.args.parts.now c.loop-part.part-index _ c.loop-part-test.true c.loop-part.offset c.loop-part.file.items _ _ c.loop-part.invariant.left c.in_ok-put_segment.ensures.header;
      ranges = ranges-next c.args.parts.now c.loop-part.part-index _ c.loop-part.invariant.ranges c.put_segment.ensures.ranges;
    }

pub returns-clause-table : goal.returns-clause-table
returns-clause-table c = table-done c.args.parts.now c.loop-part.part-index c.loop-part.offset c.loop-part.file.items _ c.loop-part-test.false c.loop-part.invariant.left

pub returns-clause-ranges : goal.returns-clause-ranges
returns-clause-ranges c = subst (AllByRecursion AreWords) (take_all c.loop-part.part-index c.args.parts.now c.loop-part-test.false) c.loop-part.invariant.ranges
