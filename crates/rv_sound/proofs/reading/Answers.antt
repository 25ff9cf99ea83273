use Rattle.rv_sound.proofs.reading.Goals as goal
use Rattle.rv_sound.proofs.AcceptedFiles.{reads-accepted}

pub returns : goal.returns
returns c = reads-accepted
