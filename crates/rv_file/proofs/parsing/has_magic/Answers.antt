use Rattle.std.proofs.Common.{◌∙◌}
use Rattle.rv_file.proofs.HeaderChecks.{known}
use Rattle.rv_file.proofs.parsing.has_magic.Goals as goal

pub returns : goal.returns
returns c = c.is_known.ensures ∙ known c.args.file.now
