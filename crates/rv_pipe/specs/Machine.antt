-- The pipe (this project's own): the walk pushes the index of each start into a queue, and workers take them.
use Rattle.std.specs.Prelude.{◌≡◌, ℕ, zero, suc, ◌+◌, Bool, ◌&&◌, List, [], ◌∷◌, ◌++◌, length, replicate, IsTrue, nat_lt}
use Rattle.rv_pipe.specs.declared.event.PipeEvent.{PipeEvent}
use Rattle.rv_pipe.specs.declared.event.PipeEvent.TheVariants.{Push, Take}

-- how many starts were pushed, the indices of those in the queue, the oldest first, and for each worker those that it took
pub record Pipe : Type 0 where
  pub pushed : ℕ
  pub queue : List ℕ
  pub taken : List (List ℕ)

abbrev pub opened : ℕ → Pipe
opened workers = record { pushed = 0; queue = []; taken = replicate workers [] }

-- the lists with x at the end of that of a worker
abbrev pub take_for : List (List ℕ) → ℕ → ℕ → List (List ℕ)
take_for [] p x = []
take_for (t ∷ ts) zero x = (t ++ x ∷ []) ∷ ts
take_for (t ∷ ts) (suc p) x = t ∷ take_for ts p x

-- what is left when worker p takes the front of the queue
abbrev pub front_taken : ℕ → List (List ℕ) → ℕ → List ℕ → Pipe
front_taken pushed taken p [] = record { pushed = pushed; queue = []; taken = taken }
front_taken pushed taken p (x ∷ xs) = record { pushed = pushed; queue = xs; taken = take_for taken p x }

-- A start is pushed where the queue has fewer than `waiting`. A worker takes the front of a queue that isn't empty.
unfoldable pub permitted : ℕ → Pipe → PipeEvent → Bool
permitted waiting s Push = nat_lt (length s.queue) waiting
permitted waiting s (Take p) = nat_lt 0 (length s.queue) && nat_lt p (length s.taken)

unfoldable pub pipe_after : Pipe → PipeEvent → Pipe
pipe_after s Push = record s { pushed = s.pushed + 1; queue = s.queue ++ s.pushed ∷ [] }
pipe_after s (Take p) = front_taken s.pushed s.taken p s.queue

-- the events lead from one state to another, each permitted where it comes
abbrev pub Leads : ℕ → Pipe → List PipeEvent → Pipe → Type 0
Leads waiting s [] t = t ≡ s
Leads waiting s (e ∷ es) t = IsTrue (permitted waiting s e) × Leads waiting (pipe_after s e) es t
