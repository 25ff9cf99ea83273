use Rattle.std.proofs.Common.{ℕ, arith, List, slice_index, sym, ◌∙◌, ap}
use Rattle.std.specs.Slice.Iter.{iter_rest}
use Rattle.std.specs.Iterator.Adapters.{rev_source}
use Rattle.std.proofs.lemmas.List.{length-set}
use Rattle.rv_base.specs.declared.record.Access.{Access}
use Rattle.rv_rowcheck.proofs.FirstIn.{old_in_or, old_in_or-written, old_in_or-other}
use Rattle.rv_rowcheck.proofs.seeing.old_values.Goals as goal

pub loop-access-preserved-then-slot-le-SLOTS : goal.loop-access-preserved-then-slot-le-SLOTS
loop-access-preserved-then-slot-le-SLOTS c =
    let values : List ℕ = c.loop-access.old in
    let rest : List Access = iter_rest (rev_source c.next.new.self) in
    record {
      all-slots = length-set values c.from-slot.result c.in-Some.access.now.old ∙ c.loop-access.invariant.all-slots;
      first = λ slot most. old_in_or-written values rest c.in-Some.access.now slot c.from-slot.result c.from-slot.ensures (omega arith)
          ∙ ap (λ (accesses : List Access). old_in_or (slice_index values slot) accesses slot) (sym c.in-Some.ensures.steps)
          ∙ c.loop-access.invariant.first slot most;
    }

pub loop-access-preserved : goal.loop-access-preserved
loop-access-preserved c =
    let values : List ℕ = c.loop-access.old in
    let rest : List Access = iter_rest (rev_source c.next.new.self) in
    record {
      all-slots = c.loop-access.invariant.all-slots;
      first = λ slot most. old_in_or-other values rest c.in-Some.access.now slot (λ e. omega arith)
          ∙ ap (λ (accesses : List Access). old_in_or (slice_index values slot) accesses slot) (sym c.in-Some.ensures.steps)
          ∙ c.loop-access.invariant.first slot most;
    }
