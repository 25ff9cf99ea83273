use Rattle.std.proofs.Common.{ℕ, List, ◌∙◌}
use Rattle.rv_base.specs.declared.record.Touch.{Touch}
use Rattle.rv_mem.specs.StoredCells.{stored_cell}
use Rattle.rv_mem.proofs.LeftLaws.{left-more, still-made}
use Rattle.rv_mem.proofs.leaving.leave_all.Goals as goal

no-touch : Touch
no-touch = record { slot = 0; cell = 0; new = 0 }

pub loop-touch-preserved : goal.loop-touch-preserved
unfolding no-touch
loop-touch-preserved c =
    let l = c.loop-touch.invariant in
    let ts : List Touch = c.args.touches.now in
    let i : ℕ = c.loop-touch.touch-index in
    record {
      image = c.exchange.ensures.image ∙ l.image;
      full = c.exchange.ensures.full;
      made = still-made c.loop-touch.words c.exchange.new.words ts c.exchange.ensures.kept l.made;
      left =
          left-more c.args.step ts i no-touch (stored_cell c.args.words.now c.args.registers.now) (stored_cell c.loop-touch.words c.loop-touch.registers)
          (stored_cell c.exchange.new.words c.exchange.new.registers) c.loop-touch-test.true l.left (c.exchange.ensures.set ∙ c.left_by.ensures) c.exchange.ensures.others;
    }
