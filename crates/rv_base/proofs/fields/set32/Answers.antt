use Rattle.std.proofs.Common.{rules, arith}
use Rattle.std.proofs.lemmas.Grind.{common_steps}
use Rattle.rv_base.proofs.SettingNumbers.{sets32}
use Rattle.rv_base.proofs.fields.set32.Goals as goal

pub returns : goal.returns
returns c = sets32 c.args.at c.args.v c.args.bytes.now _ (search rules) c.requires (grind (arith, common_steps))
