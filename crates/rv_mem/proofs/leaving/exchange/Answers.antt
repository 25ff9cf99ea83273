use Rattle.std.proofs.Common.{◌∙◌, sym}
use Rattle.rv_mem.proofs.CellLaws.{cell-word, cell-register, register-set, register-others, word-others-kept}
use Rattle.rv_mem.proofs.leaving.exchange.Goals as goal

pub returns-then-cell-lt-REGISTER_CELLS-clause-set : goal.returns-then-cell-lt-REGISTER_CELLS-clause-set
returns-then-cell-lt-REGISTER_CELLS-clause-set c = cell-word _ _ _ c.if-cell-lt-REGISTER_CELLS.true ∙ c.exchange.ensures.set

pub returns-then-cell-lt-REGISTER_CELLS-clause-others : goal.returns-then-cell-lt-REGISTER_CELLS-clause-others
returns-then-cell-lt-REGISTER_CELLS-clause-others c other within apart = word-others-kept _ _ _ c.args.cell c.exchange.ensures.others other apart

pub returns-else-cell-lt-REGISTER_CELLS-clause-set : goal.returns-else-cell-lt-REGISTER_CELLS-clause-set
returns-else-cell-lt-REGISTER_CELLS-clause-set c = register-set _ _ c.args.cell c.args.word c.told-registers c.if-cell-lt-REGISTER_CELLS.false c.requires.cell

pub returns-else-cell-lt-REGISTER_CELLS-clause-others : goal.returns-else-cell-lt-REGISTER_CELLS-clause-others
returns-else-cell-lt-REGISTER_CELLS-clause-others c other within apart = register-others _ _ c.args.cell c.args.word c.if-cell-lt-REGISTER_CELLS.false other apart

pub returns-then-cell-lt-REGISTER_CELLS-clause-held : goal.returns-then-cell-lt-REGISTER_CELLS-clause-held
returns-then-cell-lt-REGISTER_CELLS-clause-held c = c.exchange.ensures.held ∙ sym (cell-word _ _ _ c.if-cell-lt-REGISTER_CELLS.true)

pub returns-else-cell-lt-REGISTER_CELLS-clause-held : goal.returns-else-cell-lt-REGISTER_CELLS-clause-held
returns-else-cell-lt-REGISTER_CELLS-clause-held c = sym (cell-register _ _ _ c.if-cell-lt-REGISTER_CELLS.false)
