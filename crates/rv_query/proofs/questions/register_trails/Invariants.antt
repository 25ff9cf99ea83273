use Rattle.std.proofs.Common.{ℕ, []}
use Rattle.rv_spec.specs.Cells.{initial_value, register_cell}
use Rattle.rv_spec.specs.Elf.{image}
use Rattle.rv_query.specs.Following.{trail}
use Rattle.rv_query.proofs.Trails.{no_trail}
use Rattle.rv_query.proofs.Filled.{IsFilled}
use Rattle.rv_query.proofs.questions.register_trails.Given as goal

abbrev pub invariant-loop-r : goal.invariant-loop-r
invariant-loop-r l = (version until : ℕ) → IsFilled (λ r. trail (initial_value (image version l.program.elf) (register_cell r)) [] (register_cell r) until) no_trail 32 l.r l.trails
