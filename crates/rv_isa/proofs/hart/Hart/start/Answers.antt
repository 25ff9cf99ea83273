use Rattle.std.proofs.Common.{refl, arith}
use Rattle.rv_spec.specs.Step.{start}
use Rattle.rv_rules.proofs.Lemmas.{bytes-are}
use Rattle.rv_isa.proofs.HartLaws.{start-stands, start-timed}
use Rattle.rv_isa.proofs.hart.Hart.start.Goals as goal

pub returns-clause-stands : goal.returns-clause-stands
returns-clause-stands c = start-stands _ c.args.image.now c.new.ensures.program c.new.ensures.image c.new.ensures.touched c.entry.ensures.value refl

pub returns-clause-timed : goal.returns-clause-timed
returns-clause-timed c = start-timed _ c.new.ensures.touched

pub invariant_of-result : goal.invariant_of-result
invariant_of-result c = record {
  bytes = bytes-are c.args.input.now (λ i. omega (arith, c.type_inv.input i));
  stands = ∣ (start c.args.image.now, returns-clause-stands c) ∣₁;
}
