-- What the passes of the pipe's queue know, and what their steps make of it.
use Rattle.std.specs.Prelude.{ℕ, ◌+◌, ◌-◌, Bool, true, false, List, [], ◌∷◌, ◌++◌}
use Rattle.rv_base.specs.declared.limits.TheConstants.{WORKERS_LIMIT}
use Rattle.rv_pipe.specs.declared.view.Hand.{Hand}

abbrev pub hand : Bool → ℕ → ℕ → List ℕ → Hand
hand walks parts pushed taken = record { walks = walks; parts = parts; pushed = pushed; taken = taken }

-- the walk's, before the first step
abbrev pub whole_hand : Hand
whole_hand = hand true WORKERS_LIMIT 0 []

-- that of a worker which took nothing
abbrev pub worker_hand : ℕ → Hand
worker_hand parts = hand false parts 0 []

abbrev pub spent_hand : Hand
spent_hand = worker_hand 0

abbrev pub pushed_one : Hand → Hand
pushed_one v = hand v.walks v.parts (v.pushed + 1) v.taken

abbrev pub took_one : Hand → ℕ → Hand
took_one v x = hand v.walks v.parts v.pushed (v.taken ++ x ∷ [])

abbrev pub last_part : Hand → Hand
last_part v = hand v.walks 1 v.pushed v.taken

abbrev pub other_parts : Hand → Hand
other_parts v = worker_hand (v.parts - 1)

abbrev pub gathered : Hand → Hand → Hand
gathered v w = hand v.walks (v.parts + w.parts) v.pushed (v.taken ++ w.taken)
