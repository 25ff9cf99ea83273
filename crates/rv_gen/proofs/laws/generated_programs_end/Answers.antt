use Rattle.rv_gen.proofs.Success.{programs-succeed}
use Rattle.rv_gen.proofs.laws.generated_programs_end.Goals as goal

pub returns : goal.returns
returns c = programs-succeed
