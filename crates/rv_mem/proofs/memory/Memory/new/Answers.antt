use Rattle.std.proofs.Common.{ap, sym, ◌∙◌}
use Rattle.rv_mem.specs.Words.{first_word}
use Rattle.rv_mem.proofs.CellLaws.{begun-first, touched-first}
use Rattle.rv_mem.proofs.memory.Memory.new.Goals as goal

pub invariant_of-result : goal.invariant_of-result
invariant_of-result c = begun-first c.new.result (λ w. c.new.ensures.begun w ∙ ap (λ i. first_word i w) (sym c.new.ensures.image))

pub returns-clause-touched : goal.returns-clause-touched
returns-clause-touched c = touched-first c.new.result (λ w. c.new.ensures.begun w ∙ ap (λ i. first_word i w) (sym c.new.ensures.image))
