-- What the pipe keeps over every list of permitted events.
use Rattle.std.specs.Prelude.{◌≡◌, ℕ, ◌+◌, ◌≤◌, List, length, sum_by, nat_lt}
use Rattle.rv_spec.specs.Grammar.{IsRising}
use Rattle.rv_book.specs.BoardLaws.{one, times}
use Rattle.rv_pipe.specs.declared.event.PipeEvent.{PipeEvent}
use Rattle.rv_pipe.specs.Machine.{Pipe, opened, Leads}

-- The indices in the queue and in all taken lists are those below the number pushed, each once; the queue's rise, and are few.
pub record IsEachOnce (waiting : ℕ) (s : Pipe) : Type 0 where
  pub once : (x : ℕ) → times x s.queue + sum_by (times x) s.taken ≡ one (nat_lt x s.pushed)
  pub rises : IsRising s.queue
  pub few : length s.queue ≤ waiting

abbrev pub EachOnceInOrder : Type 0
EachOnceInOrder = (waiting workers : ℕ) (es : List PipeEvent) (s : Pipe) → Leads waiting (opened workers) es s → IsEachOnce waiting s
