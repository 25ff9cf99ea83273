use Rattle.std.proofs.Common.{subst, ◌∙◌}
use Rattle.rv_mem.specs.declared.word.Word.{Word}
use Rattle.rv_mem.specs.Contents.{Contents, IsSet}
use Rattle.rv_mem.specs.StoredCells.{contents}
use Rattle.rv_mem.proofs.CellLaws.{IsChange, cell-within, begun-same, same-contents, same-cells, begun-changed, set-changed, on-err}
use Rattle.rv_mem.proofs.memory.Memory.set.Goals as goal

pub invariant_of-self : goal.invariant_of-self
invariant_of-self c = begun-same c.self.inside.words _ _ c.self.invariant c.reserve_page.ensures.image c.reserve_page.ensures.same

pub returns-in_err-reserve_page-clause-err : goal.returns-in_err-reserve_page-clause-err
returns-in_err-reserve_page-clause-err c =
    on-err c.from_residual.result _
    (same-contents c.self.inside.words c.reserve_page.new.words c.self.inside.registers c.reserve_page.ensures.image c.reserve_page.ensures.same ∙ c.self.view_is)

changed : (c : goal.After-exchange) → IsChange c.self.inside.words c.exchange.new.words c.self.inside.registers c.exchange.new.registers c.args.cell (record { value = c.args.value; time = c.args.time })
changed c = record {
  image = c.exchange.ensures.image ∙ c.reserve_page.ensures.image;
  full = c.exchange.ensures.full;
  is_cell = c.requires.cell;
  here = c.exchange.ensures.set;
  others = λ k within apart. c.exchange.ensures.others k within apart ∙ same-cells c.self.inside.words c.reserve_page.new.words c.self.inside.registers c.reserve_page.ensures.same k;
}

pub invariant_of-self-2 : goal.invariant_of-self-2
invariant_of-self-2 c = begun-changed _ _ _ _ c.args.cell _ c.self.invariant c.requires.time (changed c)

pub returns-clause-ok : goal.returns-clause-ok
returns-clause-ok c =
    let word : Word = record { value = c.args.value; time = c.args.time } in
    subst (λ (m : Contents). IsSet m (contents c.exchange.new.words c.exchange.new.registers) c.args.cell c.args.value c.args.time) c.self.view_is
    (set-changed c.self.inside.words c.exchange.new.words c.self.inside.registers c.exchange.new.registers c.args.cell word c.self.invariant (invariant_of-self-2 c) (cell-within _ c.requires.cell) (changed c))
