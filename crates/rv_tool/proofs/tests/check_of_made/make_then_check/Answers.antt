use Rattle.std.proofs.Common.{map, string_bytes, refl, arith}
use Rattle.rv_commands.specs.CommandLine.{command}
use Rattle.rv_commands.proofs.Lemmas.{check-of-made}
use Rattle.rv_tool.proofs.tests.check_of_made.make_then_check.Goals as goal

pub returns : goal.returns
returns g c = λ asked.
    check-of-made (command (map string_bytes c.args.make.now)) (command (map string_bytes c.args.check.now)) _ _ _ _ _ _ _ _ _ _ asked refl (λ name rose. omega (arith, rose)) (λ rose. omega (arith, rose)) c.tool-made.ensures.answers c.tool-made.ensures.headline
    c.tool-checked.ensures.answers
