use Rattle.std.proofs.Common.{◌≡◌, ◌^◌, ◌++◌, length, ap, subst, sym, ◌∙◌}
use Rattle.rv_mem.specs.Contents.{Contents, IsTable}
use Rattle.rv_mem.specs.Used.{used, listed_word}
use Rattle.rv_mem.specs.StoredCells.{contents}
use Rattle.rv_mem.proofs.CellLaws.{touched-parts, table-touched}
use Rattle.rv_mem.proofs.memory.Memory.touched.Goals as goal

pub returns-clause-entries : goal.returns-clause-entries
returns-clause-entries c =
    c.in_ok-list_used.ensures
    ∙ ap (λ l. l ++ used (listed_word c.self.inside.registers (2 ^ 30)) (2 ^ 30) (length c.self.inside.registers)) c.in_ok-entries.ensures
    ∙ touched-parts c.self.inside.words c.self.inside.registers c.self.invariant ∙ ap (λ (m : Contents). m.touched) c.self.view_is

pub returns-clause-table : goal.returns-clause-table
returns-clause-table c =
    let m : Contents = contents c.self.inside.words c.self.inside.registers in
    let same : c.list_used.new.entries.items ≡ m.touched = returns-clause-entries c ∙ ap (λ (m : Contents). m.touched) (sym c.self.view_is) in
    subst (λ (n : Contents). IsTable n c.list_used.new.entries.items) c.self.view_is
    (subst (IsTable m) (sym same) (table-touched c.self.inside.words c.self.inside.registers c.self.invariant))
