use Rattle.std.proofs.Common.{◌*◌, ◌++◌, sym, ap, ◌∙◌}
use Rattle.rv_mem.specs.Used.{used}
use Rattle.rv_mem.specs.StoredCells.{stored_word}
use Rattle.rv_mem.proofs.UsedLaws.{used-zero}
use Rattle.rv_mem.proofs.WordsLaws.{next-table, next-no_table}
use Rattle.rv_mem.proofs.words.Words.touched.Goals as goal
use Rattle.rv_mem.proofs.words.Words.touched.Goals.{then-has_table+in_ok-table_touched, else-has_table}

pub loop-table-init : goal.loop-table-init
loop-table-init c = c.new-entries.ensures.items ∙ sym (used-zero (stored_word c.args.self.now) 0)

pub loop-table-preserved : goal.loop-table-preserved
loop-table-preserved c =
    elim c.if-has_table.branch [
      | then-has_table+in_ok-table_touched w ↦
          ap (λ v. v.items) w.entries-is ∙ w.in_ok-table_touched.ensures
          ∙ ap (λ l. l ++ used (stored_word c.args.self.now) (2097152 * c.loop-table.table) 2097152) c.loop-table.invariant
          ∙ sym (next-table (stored_word c.args.self.now) c.loop-table.table)
      | else-has_table w ↦
          ap (λ v. v.items) w.entries-is ∙ c.loop-table.invariant
          ∙ sym (next-no_table _ _ _ c.loop-table.table c.has_table.result w.if-has_table.false c.has_table.ensures.1)
    ]
