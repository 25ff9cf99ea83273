use Rattle.std.proofs.Common.{◌≡◌, ◌≤◌, ◌+◌, ◌*◌, ◌++◌, length, arith, sym, ap, ◌∙◌, append-nil}
use Rattle.rv_mem.specs.Paged.{page_number}
use Rattle.rv_mem.specs.StoredCells.{stored_word}
use Rattle.rv_mem.proofs.UsedLaws.{used-zero, appended}
use Rattle.rv_mem.proofs.WordsLaws.{next-page, next-no_page}
use Rattle.rv_mem.proofs.words.Words.block_touched.Goals as goal
use Rattle.rv_mem.proofs.words.Words.block_touched.Goals.{in-Some+in_ok-list_used, in_default}

pub loop-place-init : goal.loop-place-init
loop-place-init c = sym (append-nil c.args.entries.now.items) ∙ ap (λ l. c.args.entries.now.items ++ l) (sym (used-zero (stored_word c.args.self.now) (4096 * c.args.block)))

pub loop-place-preserved : goal.loop-place-preserved
loop-place-preserved c =
    elim c.match-find.branch [
      | in-Some+in_ok-list_used w ↦
          let number : page_number c.args.self.now.directory (256 * c.args.block + c.loop-place.place) ≡ w.in-Some.index + 1 = w.in-Some.ensures in
          let there : page_number c.args.self.now.directory (256 * c.args.block + c.loop-place.place) ≤ length c.args.self.now.pages.items =
          c.args.self.now.sound.there (256 * c.args.block + c.loop-place.place) (omega (arith, c.requires, c.loop-place-test.true)) in
          appended _ _ _ _ _ _ (ap (λ v. v.items) w.entries-is ∙ w.in_ok-list_used.ensures) c.loop-place.invariant
          (next-page c.args.self.now.image c.args.self.now.directory c.args.self.now.pages.items c.args.block c.loop-place.place w.in-Some.index w.index.result.now number (omega (arith, number, there)) w.index.ensures)
      | in_default w ↦
          ap (λ v. v.items) w.entries-is ∙ c.loop-place.invariant
          ∙ ap (λ l. c.args.entries.now.items ++ l) (sym (next-no_page _ _ _ c.args.block c.loop-place.place w.in_default.ensures))
    ]
