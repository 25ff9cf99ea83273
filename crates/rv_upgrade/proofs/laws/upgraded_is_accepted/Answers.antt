use Rattle.rv_upgrade.proofs.UpgradedParts.{is-accepted-too}
use Rattle.rv_upgrade.proofs.laws.upgraded_is_accepted.Goals as goal

pub returns : goal.returns
returns c lanes elf input file p bytes judged free = is-accepted-too lanes elf input p free file (c.reading.ensures lanes elf input) bytes judged
