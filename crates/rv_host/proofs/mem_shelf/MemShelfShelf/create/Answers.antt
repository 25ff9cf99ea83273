use Rattle.std.proofs.Common.{◌≡◌, ◌==◌, ◌&&◌, not, true, false, is_ok, [], if◌then◌else◌, refl, sym, ◌∙◌, arith}
use Rattle.rv_host.specs.Files.{with_file}
use Rattle.rv_host.proofs.CallLaws.{and-true, merged}
use Rattle.rv_host.proofs.mem_shelf.MemShelfShelf.create.Goals as goal
use Rattle.rv_host.proofs.mem_shelf.MemShelfShelf.create.Goals.{then-is_due, else-is_due, then-has_memory, else-has_memory}

pub returns : goal.returns
returns c =
    let done : c.if-has_memory.is_done ≡ (c.if-is_due.has_memory && not c.is_due-is_due.result) =
    elim c.if-has_memory.branch [ then-has_memory w ↦ grind arith | else-has_memory w ↦ grind arith ] in
    elim c.if-is_due.branch [
      | then-is_due w ↦
          let due : (c.self.inside.create_plan.left == 1) ≡ true = sym c.is_due-is_due.ensures.due ∙ w.if-is_due.true in (
            true,
            rw (← c.self.view_is, c.raise_if-self-inside-2.ensures, c.raise_if-self-inside.ensures, done, w.has_memory-is, w.self-inside-is, w.if-is_due.true, due, c.is_due-is_due.ensures.counted) refl,
            rw (c.answer.ensures, ← c.self.view_is, done, w.has_memory-is, w.if-is_due.true, due) refl,
          )
      | else-is_due w ↦
          let due : (c.self.inside.create_plan.left == 1) ≡ false = sym c.is_due-is_due.ensures.due ∙ w.if-is_due.false in
          let files : w.set_copy.new.self ≡ (if is_ok w.set_copy.result then with_file c.self.inside.files c.args.name.now [] else c.self.inside.files) =
          merged w.set_copy.result _ _ _ w.set_copy.ensures.ok w.set_copy.ensures.err in (
            is_ok w.set_copy.result,
            rw (← c.self.view_is, c.raise_if-self-inside-2.ensures, c.raise_if-self-inside.ensures, done, w.has_memory-is, w.self-inside-is, files, w.is_ok-has_memory.ensures.value, w.if-is_due.false, due, c.is_due-is_due.ensures.counted, and-true (is_ok w.set_copy.result)) refl,
            rw (c.answer.ensures, ← c.self.view_is, done, w.has_memory-is, w.is_ok-has_memory.ensures.value, w.if-is_due.false, due) refl,
          )
    ]
