use Rattle.std.proofs.Common.{map, string_bytes, arith}
use Rattle.rv_commands.specs.CommandLine.{command}
use Rattle.rv_commands.proofs.Lemmas.{calm-answer}
use Rattle.rv_tool.proofs.tests.failing.with_calm_files.Goals as goal

pub returns : goal.returns
returns c = calm-answer (command (map string_bytes c.args.words.now)) _ _ _ _ _ (λ name rose. omega (arith, rose)) c.tool_one.ensures.answers
