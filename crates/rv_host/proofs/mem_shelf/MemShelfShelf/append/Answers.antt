use Rattle.std.proofs.Common.{◌≡◌, ◌&&◌, not, is_ok, if◌then◌else◌, refl, arith}
use Rattle.rv_host.specs.Files.{with_added}
use Rattle.rv_host.proofs.CallLaws.{merged}
use Rattle.rv_host.proofs.mem_shelf.MemShelfShelf.append.Goals as goal
use Rattle.rv_host.proofs.mem_shelf.MemShelfShelf.append.Goals.{then-has_memory, else-has_memory}

pub returns : goal.returns
returns c =
    let done : c.if-has_memory.is_done ≡ (c.is_ok-has_memory.result && not c.is_due-is_due.result) =
    elim c.if-has_memory.branch [ then-has_memory w ↦ grind arith | else-has_memory w ↦ grind arith ] in
    let files : c.append.new.self ≡ (if is_ok c.append.result then with_added c.self.inside.files c.args.name.now c.part_of-part.result.now else c.self.inside.files) =
    merged c.append.result _ _ _ c.append.ensures.ok c.append.ensures.err in (
      c.is_ok-has_memory.result,
      rw (← c.self.view_is, c.raise_if-self-inside-2.ensures, c.raise_if-self-inside.ensures, done, files, ← c.is_ok-has_memory.ensures.value, c.part_of-part.ensures, c.is_due-is_due.ensures.due, c.is_due-is_due.ensures.counted) refl,
      rw (c.answer.ensures, ← c.self.view_is, done, c.is_due-is_due.ensures.due) refl,
    )
