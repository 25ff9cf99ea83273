use Rattle.std.proofs.Common.{◌++◌, arith, ap, sym, ◌∙◌, append-nil}
use Rattle.rv_mem.specs.Used.{listed_word}
use Rattle.rv_mem.proofs.UsedLaws.{used-zero, next-used, next-unused, appended}
use Rattle.rv_mem.proofs.page.list_used.Goals as goal
use Rattle.rv_mem.proofs.page.list_used.Goals.{then-word-gt0+in_ok-push, else-word-gt0}

pub loop-i-init : goal.loop-i-init
loop-i-init c =
    sym (append-nil c.args.entries.now.items)
    ∙ ap (λ l. c.args.entries.now.items ++ l) (sym (used-zero (listed_word c.args.words.now c.args.first) c.args.first))

pub loop-i-preserved : goal.loop-i-preserved
loop-i-preserved c =
    elim c.if-word-gt0.branch [
      | then-word-gt0+in_ok-push w ↦
          appended _ _ _ _ _ _ (ap (λ v. v.items) w.entries-is ∙ w.in_ok-push.ensures.items) c.loop-i.invariant (next-used c.args.words.now c.args.first c.loop-i.i w.if-word-gt0.true)
      | else-word-gt0 w ↦
          ap (λ v. v.items) w.entries-is ∙ c.loop-i.invariant
          ∙ ap (λ l. c.args.entries.now.items ++ l) (sym (next-unused c.args.words.now c.args.first c.loop-i.i (let h = w.if-word-gt0.false in omega arith)))
    ]
