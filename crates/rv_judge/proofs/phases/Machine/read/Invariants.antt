use Rattle.std.proofs.Common.{◌≡◌, ◌-◌, ◌≤◌, ℕ, List, ◌++◌, length, drop}
use Rattle.rv_reading.specs.Stream.{reads}
use Rattle.rv_judge.specs.Subject.{step_to}
use Rattle.rv_judge.specs.Phases.{Fits, extent_of, phase_of}
use Rattle.rv_judge.proofs.phases.Machine.read.Given as goal

abbrev pub invariant-loop-extent : goal.invariant-loop-extent
invariant-loop-extent g l = record {
  fits : Fits l.subject l.self;
  goes : (rest : List ℕ) → reads (step_to g.L.Lanes.lanes l.subject (extent_of l.extent)) (phase_of g.L.Lanes.lanes l.self) (l.left ++ rest)
      ≡ reads (step_to g.L.Lanes.lanes l.subject (extent_of l.extent)) (phase_of g.L.Lanes.lanes l.initial.self) (l.bytes ++ rest);
  within : length l.left ≤ length l.bytes;
  behind : l.left ≡ drop (length l.bytes - length l.left) l.bytes;
}

abbrev pub decreases-loop-extent : goal.decreases-loop-extent
decreases-loop-extent g l = length l.left
