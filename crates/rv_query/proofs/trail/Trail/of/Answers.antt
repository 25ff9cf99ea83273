use Rattle.std.proofs.Common.{sym}
use Rattle.rv_query.proofs.Trails.{untouched}
use Rattle.rv_query.proofs.trail.Trail.of.Goals as goal

pub returns : goal.returns
returns c cell until = sym (untouched c.args.initial cell until)
