use Rattle.std.proofs.Common.{◌≡◌, ◌&&◌, not, refl, arith}
use Rattle.rv_host.proofs.mem_sink.MemSinkSink.put.Goals as goal
use Rattle.rv_host.proofs.mem_sink.MemSinkSink.put.Goals.{then-has_memory, else-has_memory}

pub returns : goal.returns
returns c =
    let done : c.if-has_memory.is_done ≡ (c.is_ok-has_memory.result && not c.is_due-is_due.result) =
    elim c.if-has_memory.branch [ then-has_memory w ↦ grind arith | else-has_memory w ↦ grind arith ] in (
      c.is_ok-has_memory.result,
      rw (← c.self.view_is, c.raise_if-self-inside-2.ensures, c.raise_if-self-inside.ensures, done, c.extend_from_slice.ensures.items, ← c.is_ok-has_memory.ensures.value, c.part_of-part.ensures, c.is_due-is_due.ensures.due, c.is_due-is_due.ensures.counted) refl,
      rw (c.answer.ensures, ← c.self.view_is, done, c.is_due-is_due.ensures.due) refl,
    )
