use Rattle.std.proofs.Common.{sym}
use Rattle.rv_asm.proofs.NameLaws.{name-read}
use Rattle.rv_asm.proofs.numbers.name.Goals as goal

pub returns-then-is_name : goal.returns-then-is_name
returns-then-is_name c = name-read _ c.args.text.now c.from_utf8.result c.ok.result (sym c.if-is_name.ensures) c.from_utf8.ensures.cases c.ok.ensures.value
