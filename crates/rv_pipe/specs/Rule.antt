-- The rule of the pipe's queue: what it holds, and what the passes did, is a state to which permitted events of the pipe's machine lead.
use Rattle.std.specs.Prelude.{◌≡◌, ℕ, ◌+◌, true, List, [], map, length, sum_by, nat_lt}
use Rattle.std.specs.List.{AllByRecursion}
use mathlib.Core.Option.{some}
use lib.ListN.{get_elem?}
use Rattle.rv_base.specs.declared.limits.TheConstants.{WORKERS_LIMIT}
use Rattle.rv_book.specs.BoardLaws.{one, times}
use Rattle.rv_point.specs.declared.start.ShardStart.{ShardStart}
use Rattle.rv_pipe.specs.declared.event.PipeEvent.{PipeEvent}
use Rattle.rv_pipe.specs.declared.view.Hand.{Hand}
use Rattle.rv_pipe.specs.Machine.{Pipe, opened, Leads}

abbrev pub indices : List ShardStart → List ℕ
indices ss = map (λ s. s.index) ss

-- what a view says: the walk's pass has the first seat and knows how many were pushed, and a pass with no part has taken nothing
pub record IsHandAt (pushed seat : ℕ) (v : Hand) : Type 0 where
  pub first : v.walks ≡ true → seat ≡ 0
  pub count : v.walks ≡ true → v.pushed ≡ pushed
  pub idle : v.parts ≡ 0 → v.taken ≡ []

-- Each pass is a worker of the machine. The queue's starts are due, and their indices are those of the machine's queue.
pub record Kept (due : ShardStart → Type 0) (waiting : ℕ) (items : List ShardStart) (views : List Hand) : Type 0 where
  pub events : List PipeEvent
  pub pipe : Pipe
  pub reached : Leads waiting (opened (length views)) events pipe
  pub queue : pipe.queue ≡ indices items
  pub each : AllByRecursion due items
  pub workers : length pipe.taken ≡ length views
  pub taken : (x : ℕ) → sum_by (λ (v : Hand). times x v.taken) views ≡ sum_by (times x) pipe.taken
  pub parts : sum_by (λ (v : Hand). v.parts) views ≡ WORKERS_LIMIT
  pub hands : (seat : ℕ) (v : Hand) → get_elem? views seat ≡ some v → IsHandAt pipe.pushed seat v

-- each start that was pushed waits or was taken, and was so once
abbrev pub IsAccounted : Hand → List ShardStart → Type 0
IsAccounted v items = (x : ℕ) → times x (indices items) + times x v.taken ≡ one (nat_lt x v.pushed)
