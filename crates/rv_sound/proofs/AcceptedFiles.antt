-- An accepted file is the record of the run, or its two lists are different multisets of one digest.
use Rattle.std.proofs.Common.{◌≡◌, ◌⊎◌, ℕ, List, None, ◌∙◌, ap, inl, inr}
use Rattle.rv_base.specs.declared.record.End.{End}
use Rattle.rv_spec.specs.Words.{AreBytes}
use Rattle.rv_spec.specs.Elf.{image, first_fault}
use Rattle.rv_spec.specs.Digest.{Lanes}
use Rattle.rv_spec.specs.Record.{Parts, file_bytes, reads, writes, record_parts, record_file}
use Rattle.rv_spec.specs.Conclusion.{IsRecord}
use Rattle.rv_spec.specs.Grammar.{Spells}
use Rattle.rv_rules.specs.Verdict.{verdict_of}
use Rattle.rv_spec.specs.Conclusion.{IsCollision}
use Rattle.rv_rules.specs.Laws.{AcceptedIsRecord, RecordIsAccepted}
use Rattle.rv_sound.specs.Accepted.{IsAccepted, ReadsAccepted}
use Rattle.rv_sound.proofs.Decided.{same-or-differ}
use Rattle.rv_sound.proofs.JudgedIsAccepted.{judged-accepted}
use Rattle.rv_sound.proofs.AcceptedIsJudged.{accepted-judged}
use Rattle.rv_sound.proofs.Parts.{parts-are-record}
use Rattle.rv_sound.proofs.RecordAccepted.{record-accepted, record-spells}

-- the theorem over parts, whatever reads them
pub sound-parts : (lanes : Lanes) (elf input file : List ℕ) (parts : Parts) → first_fault elf ≡ None → AreBytes elf → AreBytes input
    → Spells parts file → IsAccepted lanes elf input parts
    → IsRecord lanes parts.header.version elf input parts.header.size parts.header.steps parts.header.end file ⊎ IsCollision lanes elf file
sound-parts lanes elf input file parts faultless bytes input_bytes spells a = elim (same-or-differ (reads parts) (writes (image parts.header.version elf) parts)) [
  | inl same ↦ let r = parts-are-record lanes elf input parts faultless bytes input_bytes a same in inl (record { has = r.has; is = spells.is ∙ ap file_bytes r.is })
  | inr differ ↦ inr (record { parts = parts; spells = spells; one_digest = a.balance; differ = differ })
]

module _ (lanes : Lanes) (elf input : List ℕ) (law : ReadsAccepted lanes elf input) where
  -- an accepted file is the record of the run, or a collision
  pub sound : (file : List ℕ) (parts : Parts) → AcceptedIsRecord lanes elf input file parts
  sound file parts faultless bytes input_bytes file_bytes judged =
      let a = law.accepted file parts file_bytes judged in
      sound-parts lanes elf input file parts faultless bytes input_bytes a.0 a.1

  -- the record of a run is accepted
  pub complete : (version size n : ℕ) (e : End) → RecordIsAccepted lanes version elf input size n e
  complete version size n e bytes input_bytes has =
      ap verdict_of (law.judged (record_file lanes version elf input size n e) (record_parts lanes version elf input size n e) (record-spells lanes version elf input size n e bytes input_bytes has)
      (record-accepted lanes version elf input size n e bytes input_bytes has))

-- the law of the reading
pub reads-accepted : (lanes : Lanes) (elf input : List ℕ) → ReadsAccepted lanes elf input
reads-accepted lanes elf input = record { accepted = judged-accepted lanes elf input; judged = accepted-judged lanes elf input }
