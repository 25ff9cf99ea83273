use Rattle.std.proofs.Common.{◌∙◌, arith}
use Rattle.rv_asm.proofs.Values.{below, next-below, next-value}
use Rattle.rv_asm.proofs.numbers.hexadecimal_value.Goals as goal

pub overflow_mul-value : goal.overflow_mul-value
overflow_mul-value c = omega (arith, below c.loop-digit.value c.loop-digit.digit-index c.loop-digit.invariant.below (omega arith))

pub overflow_add-value : goal.overflow_add-value
overflow_add-value c = omega (arith, below c.loop-digit.value c.loop-digit.digit-index c.loop-digit.invariant.below (omega arith))

pub loop-digit-preserved : goal.loop-digit-preserved
loop-digit-preserved c = record {
  value = next-value 16 c.args.digits.now c.loop-digit.digit-index c.loop-digit.value _ c.loop-digit-test.true c.loop-digit.invariant.value (c.from.ensures ∙ c.digit_value.ensures.value);
  below = next-below 16 c.loop-digit.value _ c.loop-digit.digit-index (omega arith) c.loop-digit.invariant.below (omega arith);
}

pub returns-clause-range : goal.returns-clause-range
returns-clause-range c = omega (arith, below c.loop-digit.value c.loop-digit.digit-index c.loop-digit.invariant.below (omega arith))
