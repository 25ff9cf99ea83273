use Rattle.std.proofs.Common.{◌≡◌, ◌+◌, ◌*◌, ◌++◌, ℕ, false, Option, Some, None, ap, sym, ◌∙◌, append-nil, true≢false}
use Rattle.std.specs.Option.{MatchOption, is_some}
use Rattle.rv_mem.specs.Blocks.{block_number}
use Rattle.rv_mem.specs.StoredCells.{stored_word}
use Rattle.rv_mem.proofs.UsedLaws.{used-zero, appended}
use Rattle.rv_mem.proofs.WordsLaws.{next-block, next-no_block}
use Rattle.rv_mem.proofs.words.Words.table_touched.Goals as goal
use Rattle.rv_mem.proofs.words.Words.table_touched.Goals.{then-is_some+in_ok-block_touched, else-is_some}

none-of : (r : Option ℕ) (P : Type 0) (Q : ℕ → Type 0) → MatchOption r P Q → is_some r ≡ false → P
none-of None P Q m e = m
none-of (Some x) P Q m e = absurd (true≢false e)

pub loop-place-init : goal.loop-place-init
loop-place-init c = sym (append-nil c.args.entries.now.items) ∙ ap (λ l. c.args.entries.now.items ++ l) (sym (used-zero (stored_word c.args.self.now) (2097152 * c.args.table)))

pub loop-place-preserved : goal.loop-place-preserved
loop-place-preserved c =
    elim c.if-is_some.branch [
      | then-is_some+in_ok-block_touched w ↦
          appended _ _ _ _ _ _ (ap (λ v. v.items) w.entries-is ∙ w.in_ok-block_touched.ensures) c.loop-place.invariant
          (next-block (stored_word c.args.self.now) c.args.table c.loop-place.place)
      | else-is_some w ↦
          let none : block_number c.args.self.now.directory.levels.blocks.entries.items (512 * c.args.table + c.loop-place.place) ≡ 0 =
          none-of c.find.result _ _ c.find.ensures (sym c.is_some.ensures ∙ w.if-is_some.false) in
          ap (λ v. v.items) w.entries-is ∙ c.loop-place.invariant
          ∙ ap (λ l. c.args.entries.now.items ++ l) (sym (next-no_block c.args.self.now.image c.args.self.now.directory c.args.self.now.pages.items c.args.table c.loop-place.place none))
    ]
