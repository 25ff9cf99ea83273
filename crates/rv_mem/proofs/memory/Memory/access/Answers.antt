use Rattle.std.proofs.Common.{[], ◌∙◌, ap}
use Rattle.rv_mem.specs.Contents.{Contents, value_at, time_at}
use Rattle.rv_mem.specs.Accesses.{accesses_of}
use Rattle.rv_mem.proofs.CellLaws.{held-before, all-within, begun-same, same-contents, begun-paged, is-left-paged, on-err}
use Rattle.rv_mem.proofs.memory.Memory.access.Goals as goal

pub invariant_of-self : goal.invariant_of-self
invariant_of-self c = begun-same c.self.inside.words _ _ c.self.invariant c.reserve_pages.ensures.image c.reserve_pages.ensures.same

pub returns-in_err-reserve_pages-clause-err : goal.returns-in_err-reserve_pages-clause-err
returns-in_err-reserve_pages-clause-err c =
    on-err c.from_residual.result _
    (same-contents c.self.inside.words c.reserve_pages.new.words c.self.inside.registers c.reserve_pages.ensures.image c.reserve_pages.ensures.same ∙ c.self.view_is)

pub access_all-requires-clause-cells : goal.access_all-requires-clause-cells
access_all-requires-clause-cells c = all-within c.args.touches.now c.requires.cells

pub invariant_of-self-2 : goal.invariant_of-self-2
invariant_of-self-2 c =
    begun-paged c.self.inside.words c.reserve_pages.new.words c.access_all.new.words c.self.inside.registers c.access_all.new.registers c.args.step c.args.touches.now c.self.invariant
    c.reserve_pages.ensures.image c.reserve_pages.ensures.same c.access_all.ensures.image c.access_all.ensures.full c.requires.cells c.requires.slots c.access_all.ensures.left

pub returns-clause-ok : goal.returns-clause-ok
returns-clause-ok c =
    is-left-paged c.self.inside.words c.reserve_pages.new.words c.access_all.new.words c.self.inside.registers c.access_all.new.registers c.args.step c.args.touches.now c.self.invariant
    c.reserve_pages.ensures.image c.reserve_pages.ensures.same c.access_all.ensures.image c.access_all.ensures.full c.requires.cells c.requires.slots c.access_all.ensures.left _ c.self.view_is

pub returns-clause-accesses : goal.returns-clause-accesses
returns-clause-accesses c =
    c.access_all.ensures.accesses
    ∙ held-before c.self.inside.words c.reserve_pages.new.words c.self.inside.registers c.args.step c.self.invariant c.reserve_pages.ensures.same [] c.args.touches.now (all-within c.args.touches.now c.requires.cells)
    ∙ ap (λ (m : Contents). accesses_of (value_at m) (time_at m) c.args.step [] c.args.touches.now) c.self.view_is
