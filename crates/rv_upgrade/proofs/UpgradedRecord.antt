-- The upgraded file of a record is a record, and that of a collision a collision.
use Rattle.std.proofs.Common.{◌≡◌, ◌⊎◌, ℕ, List, None, Ok, sym, ap, subst, ◌∙◌, inl, inr}
use Rattle.rv_base.specs.declared.record.End.{End}
use Rattle.rv_spec.specs.Words.{AreBytes}
use Rattle.rv_spec.specs.Elf.{image, first_fault}
use Rattle.rv_spec.specs.Digest.{Lanes}
use Rattle.rv_spec.specs.Multiset.{count, Same}
use Rattle.rv_spec.specs.Record.{Parts, reads, writes, record_parts, record_file}
use Rattle.rv_spec.specs.Grammar.{Spells}
use Rattle.rv_spec.specs.Conclusion.{IsRecord, IsCollision}
use Rattle.rv_rules.specs.Verdict.{judge}
use Rattle.rv_rules.specs.Laws.{AcceptedIsRecord, RecordIsAccepted}
use Rattle.rv_file.proofs.Lemmas.{one-spelling}
use Rattle.rv_sound.specs.Accepted.{ReadsAccepted}
use Rattle.rv_upgrade.specs.Upgrade.{blocked, upgraded, upgraded_parts}
use Rattle.rv_upgrade.specs.Laws.{IsAcceptedToo}
use Rattle.rv_upgrade.proofs.SpelledBytes.{spelled-bytes}
use Rattle.rv_upgrade.proofs.UpgradedParts.{version-1, same-read, same-written, spells-too, accepted-too, is-accepted-too}
use Rattle.rv_upgrade.proofs.RecordTuples as of_run

-- what parts spell are bytes
spelling-bytes : (p : Parts) (file : List ℕ) → Spells p file → AreBytes file
spelling-bytes p file s = subst (λ (xs : List ℕ). AreBytes xs) (sym s.is) (spelled-bytes p s.fit)

-- the two lists of the parts that a collision spells differ
lists-differ : (lanes : Lanes) (elf file : List ℕ) (p : Parts) → Spells p file → IsCollision lanes elf file → Same (reads p) (writes (image p.header.version elf) p) → ⊥
lists-differ lanes elf file p s c same =
    let one : p ≡ c.parts = one-spelling file c.parts p c.spells s in
    c.differ (subst (λ (q : Parts). Same (reads q) (writes (image q.header.version elf) q)) one same)

-- both versions have the same two lists
lists-too : (elf : List ℕ) (p : Parts) → Same (reads p) (writes (image p.header.version elf) p) → Same (reads (upgraded_parts p)) (writes (image 2 elf) (upgraded_parts p))
lists-too elf p same = record { counts = λ t. ap (count t) (same-read p) ∙ same.counts t ∙ sym (ap (count t) (same-written elf p.header.version p)) }

lists-back : (elf : List ℕ) (p : Parts) → Same (reads (upgraded_parts p)) (writes (image 2 elf) (upgraded_parts p)) → Same (reads p) (writes (image p.header.version elf) p)
lists-back elf p same = record { counts = λ t. sym (ap (count t) (same-read p)) ∙ same.counts t ∙ ap (count t) (same-written elf p.header.version p) }

module _ (lanes : Lanes) (elf input : List ℕ) (sound : (file : List ℕ) (p : Parts) → AcceptedIsRecord lanes elf input file p) (bytes : AreBytes elf) (input_bytes : AreBytes input) where
  -- the upgraded file of an accepted one is a record or a collision
  sound-too : (reading : ReadsAccepted lanes elf input) (file : List ℕ) (p : Parts) → first_fault elf ≡ None → Spells p file → judge lanes elf input file ≡ Ok p → blocked p ≡ None
      → IsRecord lanes 2 elf input p.header.size p.header.steps p.header.end (upgraded file) ⊎ IsCollision lanes elf (upgraded file)
  sound-too reading file p faultless s judged free =
      let too : IsAcceptedToo lanes elf input file p = is-accepted-too lanes elf input p free file reading (spelling-bytes p file s) judged in
      let new : Spells (upgraded_parts p) (upgraded file) = spells-too lanes elf input p free file s in
      sound (upgraded file) (upgraded_parts p) faultless bytes input_bytes (spelling-bytes (upgraded_parts p) (upgraded file) new) too.judged

  pub record-or-collision : (reading : ReadsAccepted lanes elf input) (file : List ℕ) (p : Parts) → first_fault elf ≡ None → AreBytes file → judge lanes elf input file ≡ Ok p → blocked p ≡ None
      → (IsRecord lanes 1 elf input p.header.size p.header.steps p.header.end file × IsRecord lanes 2 elf input p.header.size p.header.steps p.header.end (upgraded file))
      ⊎ (IsCollision lanes elf file × IsCollision lanes elf (upgraded file))
  record-or-collision reading file p faultless file_bytes judged free =
      let a = reading.accepted file p file_bytes judged in
      let a_too = accepted-too lanes elf input p free a.1 in
      let new : Spells (upgraded_parts p) (upgraded file) = spells-too lanes elf input p free file a.0 in
      let collision : ¬ (Same (reads p) (writes (image p.header.version elf) p)) → IsCollision lanes elf file = λ differ. record { parts = p; spells = a.0; one_digest = a.1.balance; differ = differ } in
      let collision_too : ¬ (Same (reads p) (writes (image p.header.version elf) p)) → IsCollision lanes elf (upgraded file) =
      λ differ. record { parts = upgraded_parts p; spells = new; one_digest = a_too.balance; differ = λ same. differ (lists-back elf p same) } in
      elim (sound file p faultless bytes input_bytes file_bytes judged) [
        | inr c ↦ inr (c, collision_too (lists-differ lanes elf file p a.0 c))
        | inl r ↦ elim (sound-too reading file p faultless a.0 judged free) [
          | inr c ↦ inr (collision (λ same. lists-differ lanes elf (upgraded file) (upgraded_parts p) new c (lists-too elf p same)), c)
          | inl s ↦ inl (subst (λ version. IsRecord lanes version elf input p.header.size p.header.steps p.header.end file) (version-1 p a.1.fit.header free) r, s)
        ]
      ]

  -- that of a record is a record, since the two lists of a record are one multiset
  pub record-too : (file : List ℕ) (p : Parts) (size n : ℕ) (e : End) (reading : (l : Lanes) → ReadsAccepted l elf input) (complete : (l : Lanes) → RecordIsAccepted l 1 elf input size n e)
      → Spells p file → blocked p ≡ None → IsRecord lanes 1 elf input size n e file → IsRecord lanes 2 elf input size n e (upgraded file)
  record-too file p size n e reading complete s free r =
      let m : Parts = record_parts lanes 1 elf input size n e in
      let f : List ℕ = record_file lanes 1 elf input size n e in
      let of_record : Spells m f = of_run.spells 1 elf input size n e reading complete bytes input_bytes r.has lanes in
      let one : m ≡ p = one-spelling file p m s (subst (Spells m) (sym r.is) of_record) in
      let free_too : blocked m ≡ None = ap blocked one ∙ free in
      let same : Same (reads m) (writes (image 1 elf) m) = of_run.record-same 1 elf input size n e reading complete bytes input_bytes r.has lanes in
      let new : Spells (upgraded_parts m) (upgraded f) = spells-too lanes elf input m free_too f of_record in
      let judged : judge lanes elf input f ≡ Ok m = of_run.judged 1 elf input size n e reading complete bytes input_bytes r.has lanes in
      let is : IsRecord lanes 2 elf input size n e (upgraded f) = elim (sound-too (reading lanes) f m r.has.faultless of_record judged free_too) [
        | inl is ↦ is
        | inr c ↦ absurd (lists-differ lanes elf (upgraded f) (upgraded_parts m) new c (lists-too elf m same))
      ] in
      subst (λ (g : List ℕ). IsRecord lanes 2 elf input size n e (upgraded g)) (sym r.is) is
