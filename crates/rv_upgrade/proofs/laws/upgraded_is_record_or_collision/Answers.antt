use Rattle.rv_upgrade.proofs.UpgradedRecord.{record-or-collision}
use Rattle.rv_upgrade.proofs.laws.upgraded_is_record_or_collision.Goals as goal

pub returns : goal.returns
returns c lanes elf input file p faultless bytes input_bytes file_bytes judged free =
    record-or-collision lanes elf input (c.soundness.ensures lanes elf input) bytes input_bytes (c.reading.ensures lanes elf input) file p faultless file_bytes judged free
