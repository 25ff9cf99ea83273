use Rattle.std.proofs.Common.{◌≡◌, ◌^◌, ◌<◌, true, arith, rules, ap, sym, ◌∙◌}
use Rattle.rv_asm.specs.Patterns.{in_range}
use Rattle.rv_asm.specs.Statements.{instruction_word}
use Rattle.rv_asm.proofs.WordLaws.{encoded}
use Rattle.rv_asm.proofs.statements.instruction_word.Goals as goal

pub returns-then-in_range : goal.returns-then-in_range
returns-then-in_range c =
    let fits : in_range c.args.pattern.now c.in-Ok.fields.number ≡ true = search rules in
    let small : c.encode.result < 2 ^ 32 = omega arith in
    encoded c.args.pattern.now c.in-Ok.fields c.encode.result c.instruction.result fits small c.instruction.ensures.value c.encode.ensures.decodes ∙ ap (instruction_word c.args.pattern.now) (sym c.in-Ok.is)
