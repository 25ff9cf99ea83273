use Rattle.std.proofs.Common.{rules, arith}
use Rattle.std.proofs.lemmas.Grind.{common_steps}
use Rattle.rv_base.proofs.SettingNumbers.{sets64}
use Rattle.rv_base.proofs.fields.set64.Goals as goal

pub returns : goal.returns
returns c = sets64 c.args.at c.args.v c.args.bytes.now _ (search rules) c.requires (grind (arith, common_steps))
