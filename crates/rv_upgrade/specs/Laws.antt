-- The laws of upgraded files.
use Rattle.std.specs.Prelude.{◌≡◌, ◌⊎◌, ℕ, List, Ok, None}
use Rattle.rv_base.specs.declared.record.End.{End}
use Rattle.rv_spec.specs.Words.{AreBytes}
use Rattle.rv_spec.specs.Elf.{image, first_fault}
use Rattle.rv_spec.specs.Digest.{Lanes}
use Rattle.rv_spec.specs.Record.{Parts, reads, writes}
use Rattle.rv_spec.specs.Grammar.{Spells}
use Rattle.rv_spec.specs.Conclusion.{IsRecord, IsCollision}
use Rattle.rv_rules.specs.Verdict.{judge, verdict}
use Rattle.rv_upgrade.specs.Upgrade.{blocked, upgraded, upgraded_parts}

-- The upgraded file is judged as the file is, its parts are those of the file with version 2, and both have the same two lists of tuples.
pub record IsAcceptedToo (lanes : Lanes) (elf input file : List ℕ) (p : Parts) : Type 0 where
  pub judged : judge lanes elf input (upgraded file) ≡ Ok (upgraded_parts p)
  pub verdicts : verdict lanes elf input (upgraded file) ≡ verdict lanes elf input file
  pub read : reads (upgraded_parts p) ≡ reads p
  pub written : writes (image 2 elf) (upgraded_parts p) ≡ writes (image p.header.version elf) p

-- of each accepted file that nothing blocks, which has version 1
abbrev pub UpgradedIsAccepted : Type 0
UpgradedIsAccepted =
    (lanes : Lanes) (elf input file : List ℕ) (p : Parts) → AreBytes file → judge lanes elf input file ≡ Ok p → blocked p ≡ None
    → IsAcceptedToo lanes elf input file p

-- The record of version 1 of a run that nothing blocks: the run by version 2 ends in as many steps and with the same end, and the upgraded file is its record at the same shard size.
abbrev pub UpgradedIsTheRecord : Type 0
UpgradedIsTheRecord =
    (lanes : Lanes) (elf input file : List ℕ) (p : Parts) (size n : ℕ) (e : End) → AreBytes elf → AreBytes input → Spells p file → blocked p ≡ None
    → IsRecord lanes 1 elf input size n e file → IsRecord lanes 2 elf input size n e (upgraded file)

-- An accepted file of a program with an image that nothing blocks: it and the upgraded file are the records of the runs by both versions, in as many steps and with the same end, or both are collisions.
abbrev pub UpgradedIsRecordOrCollision : Type 0
UpgradedIsRecordOrCollision =
    (lanes : Lanes) (elf input file : List ℕ) (p : Parts) → first_fault elf ≡ None → AreBytes elf → AreBytes input → AreBytes file → judge lanes elf input file ≡ Ok p → blocked p ≡ None
    → let h = p.header in
    (IsRecord lanes 1 elf input h.size h.steps h.end file × IsRecord lanes 2 elf input h.size h.steps h.end (upgraded file)) ⊎ (IsCollision lanes elf file × IsCollision lanes elf (upgraded file))
