use Rattle.std.proofs.Common.{◌-◌, ◌<◌, ◌≤◌, length, ap, sym, ◌∙◌, arith}
use Rattle.std.proofs.lemmas.Bool.{ltb-true, ltb-false}
use Rattle.std.proofs.lemmas.List.{get_or_default}
use Rattle.rv_mem.specs.declared.word.Word.{Word}
use Rattle.rv_mem.specs.Contents.{value_at, time_at}
use Rattle.rv_mem.specs.Used.{no_word}
use Rattle.rv_mem.proofs.CellLaws.{cell-word, cell-register, value-kept, time-kept, time-beyond, nothing-beyond}
use Rattle.rv_mem.proofs.memory.Memory.get.Goals as goal

pub returns-then-cell-lt-REGISTER_CELLS-clause-value : goal.returns-then-cell-lt-REGISTER_CELLS-clause-value
returns-then-cell-lt-REGISTER_CELLS-clause-value c =
    ap (λ (w : Word). w.value) (c.get-word.ensures ∙ sym (cell-word _ c.self.inside.registers _ c.if-cell-lt-REGISTER_CELLS.true))
    ∙ sym (value-kept _ _ c.args.cell c.self.invariant (omega arith)) ∙ ap (λ m. value_at m c.args.cell) c.self.view_is

pub returns-then-cell-lt-REGISTER_CELLS-clause-time : goal.returns-then-cell-lt-REGISTER_CELLS-clause-time
returns-then-cell-lt-REGISTER_CELLS-clause-time c =
    ap (λ (w : Word). w.time) (c.get-word.ensures ∙ sym (cell-word _ c.self.inside.registers _ c.if-cell-lt-REGISTER_CELLS.true))
    ∙ sym (time-kept _ _ c.args.cell (omega arith)) ∙ ap (λ m. time_at m c.args.cell) c.self.view_is

within : (c : goal.In-Some) → c.args.cell - 1073741824 < length c.self.inside.registers
within c = ltb-true (c.args.cell - 1073741824) (length c.self.inside.registers) (sym c.in-Some.ensures.lookup.0)

low : (c : goal.In-Some) → c.args.cell < 1073741857
low c = omega (arith, within c, c.self.invariant.full)

pub returns-in-Some-clause-value : goal.returns-in-Some-clause-value
returns-in-Some-clause-value c =
    ap (λ (w : Word). w.value) (c.in-Some.ensures.lookup.1 ∙ get_or_default c.self.inside.registers (c.args.cell - 1073741824) c.in-Some.word.now no_word (within c) ∙ sym (cell-register c.self.inside.words c.self.inside.registers c.args.cell c.if-cell-lt-REGISTER_CELLS.false))
    ∙ sym (value-kept _ _ c.args.cell c.self.invariant (low c)) ∙ ap (λ m. value_at m c.args.cell) c.self.view_is

pub returns-in-Some-clause-time : goal.returns-in-Some-clause-time
returns-in-Some-clause-time c =
    ap (λ (w : Word). w.time) (c.in-Some.ensures.lookup.1 ∙ get_or_default c.self.inside.registers (c.args.cell - 1073741824) c.in-Some.word.now no_word (within c) ∙ sym (cell-register c.self.inside.words c.self.inside.registers c.args.cell c.if-cell-lt-REGISTER_CELLS.false))
    ∙ sym (time-kept _ _ c.args.cell (low c)) ∙ ap (λ m. time_at m c.args.cell) c.self.view_is

high : (c : goal.In-None) → 1073741857 ≤ c.args.cell
high c =
    let past = ltb-false (c.args.cell - 1073741824) (length c.self.inside.registers) (sym c.in-None.ensures.lookup.0) in
    omega (arith, past, c.self.invariant.full)

pub returns-in-None-clause-value : goal.returns-in-None-clause-value
returns-in-None-clause-value c = nothing-beyond c.self.inside.words c.self.inside.registers c.args.cell (high c) ∙ ap (λ m. value_at m c.args.cell) c.self.view_is

pub returns-in-None-clause-time : goal.returns-in-None-clause-time
returns-in-None-clause-time c = sym (time-beyond c.self.inside.words c.self.inside.registers c.args.cell (high c)) ∙ ap (λ m. time_at m c.args.cell) c.self.view_is
