use Rattle.rv_parts.proofs.JoinLaws.{summaries-tell}
use Rattle.rv_parts.proofs.laws.summaries_tell_the_verdict.Goals as goal

pub returns : goal.returns
returns c = summaries-tell
