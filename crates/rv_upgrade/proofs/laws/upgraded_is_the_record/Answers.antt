use Rattle.rv_upgrade.proofs.UpgradedRecord.{record-too}
use Rattle.rv_upgrade.proofs.laws.upgraded_is_the_record.Goals as goal

pub returns : goal.returns
returns c lanes elf input file p size n e bytes input_bytes spells free is =
    record-too lanes elf input (c.soundness.ensures lanes elf input) bytes input_bytes file p size n e
    (λ l. c.reading.ensures l elf input) (λ l. c.completeness.ensures l 1 elf input size n e) spells free is
