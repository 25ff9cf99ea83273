use Rattle.std.proofs.Common.{◌∙◌}
use Rattle.rv_mem.proofs.CellLaws.{all-within, begun-same, same-contents, begun-paged, is-left-paged, on-err}
use Rattle.rv_mem.proofs.memory.Memory.leave.Goals as goal

pub invariant_of-self : goal.invariant_of-self
invariant_of-self c = begun-same c.self.inside.words _ _ c.self.invariant c.reserve_pages.ensures.image c.reserve_pages.ensures.same

pub returns-in_err-reserve_pages-clause-err : goal.returns-in_err-reserve_pages-clause-err
returns-in_err-reserve_pages-clause-err c =
    on-err c.from_residual.result _
    (same-contents c.self.inside.words c.reserve_pages.new.words c.self.inside.registers c.reserve_pages.ensures.image c.reserve_pages.ensures.same ∙ c.self.view_is)

pub leave_all-requires-clause-cells : goal.leave_all-requires-clause-cells
leave_all-requires-clause-cells c = all-within c.args.touches.now c.requires.cells

pub invariant_of-self-2 : goal.invariant_of-self-2
invariant_of-self-2 c =
    begun-paged c.self.inside.words c.reserve_pages.new.words c.leave_all.new.words c.self.inside.registers c.leave_all.new.registers c.args.step c.args.touches.now c.self.invariant
    c.reserve_pages.ensures.image c.reserve_pages.ensures.same c.leave_all.ensures.image c.leave_all.ensures.full c.requires.cells c.requires.slots c.leave_all.ensures.left

pub returns-clause-ok : goal.returns-clause-ok
returns-clause-ok c =
    is-left-paged c.self.inside.words c.reserve_pages.new.words c.leave_all.new.words c.self.inside.registers c.leave_all.new.registers c.args.step c.args.touches.now c.self.invariant
    c.reserve_pages.ensures.image c.reserve_pages.ensures.same c.leave_all.ensures.image c.leave_all.ensures.full c.requires.cells c.requires.slots c.leave_all.ensures.left _ c.self.view_is
