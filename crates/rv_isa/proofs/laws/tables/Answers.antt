use Rattle.rv_isa.proofs.TableOfRun.{touched-table}
use Rattle.rv_isa.proofs.laws.tables.Goals as goal

pub returns : goal.returns
returns c = touched-table
