use Rattle.rv_file.proofs.FileLaws.{no-proper-prefix}
use Rattle.rv_file.proofs.laws.no_proper_prefix.Goals as goal

pub returns : goal.returns
returns c = no-proper-prefix
