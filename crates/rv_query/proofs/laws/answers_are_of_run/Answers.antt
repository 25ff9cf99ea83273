use Rattle.std.proofs.Common.{inl, inr}
use Rattle.rv_query.proofs.OfRun.{rows-of-run, state-follows, cell-follows}
use Rattle.rv_query.proofs.laws.answers_are_of_run.Goals as goal

pub returns-clause-states : goal.returns-clause-states
returns-clause-states c elf input p step faultless bytes input_bytes lanes file a =
    elim (rows-of-run lanes elf input file p faultless bytes input_bytes (c.reading.ensures lanes elf input) (λ q. c.soundness.ensures lanes elf input file q) a) [
      | inl are ↦ inl (λ within. state-follows elf input p step are within)
      | inr col ↦ inr col
    ]

pub returns-clause-cells : goal.returns-clause-cells
returns-clause-cells c elf input p cell step faultless bytes input_bytes lanes file a =
    elim (rows-of-run lanes elf input file p faultless bytes input_bytes (c.reading.ensures lanes elf input) (λ q. c.soundness.ensures lanes elf input file q) a) [
      | inl are ↦ inl (λ within. cell-follows elf input p cell step are within)
      | inr col ↦ inr col
    ]
