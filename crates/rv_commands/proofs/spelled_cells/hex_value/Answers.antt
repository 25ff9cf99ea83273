use Rattle.std.proofs.Common.{◌≤◌, ◌^◌, arith}
use Rattle.rv_commands.proofs.Spelling.{sixteen-pow}
use Rattle.rv_commands.proofs.spelled_cells.hex_value.Goals as goal

pub overflow_mul-value : goal.overflow_mul-value
overflow_mul-value c =
    let most : 16 ^ c.loop-byte.byte-index ≤ 16 ^ 7 = sixteen-pow c.loop-byte.byte-index 7 (omega (arith, c.loop-byte-test.true, c.requires.short)) in
    omega (arith, c.loop-byte.invariant.below, most)

pub overflow_add-value : goal.overflow_add-value
overflow_add-value c =
    let most : 16 ^ c.loop-byte.byte-index ≤ 16 ^ 7 = sixteen-pow c.loop-byte.byte-index 7 (omega (arith, c.loop-byte-test.true, c.requires.short)) in
    omega (arith, c.loop-byte.invariant.below, most, c.from.ensures, c.digit_value.ensures.below)

pub overflow_cast-result : goal.overflow_cast-result
overflow_cast-result c =
    let most : 16 ^ c.loop-byte.byte-index ≤ 16 ^ 8 = sixteen-pow c.loop-byte.byte-index 8 (omega (arith, c.loop-byte.auto.byte-index-end, c.requires.short)) in
    omega (arith, c.loop-byte.invariant.below, most)
