-- From what is decided of the two lists to what the file is.
use Rattle.std.proofs.Common.{◌≡◌, ℕ, List, None, Result, Ok, Err, refl, sym, ap, subst, ◌∙◌, inl, inr, ◌⊎◌}
use Rattle.rv_base.specs.declared.record.End.{End}
use Rattle.rv_base.specs.declared.record.Refusal.{Refusal}
use Rattle.rv_base.specs.declared.record.Tuple.{Tuple}
use Rattle.rv_base.specs.declared.record.Verdict.TheVariants.{Accept, Refuse}
use Rattle.rv_spec.specs.Words.{AreBytes}
use Rattle.rv_spec.specs.Elf.{image, first_fault}
use Rattle.rv_spec.specs.Digest.{Lanes}
use Rattle.rv_spec.specs.Multiset.{Same}
use Rattle.rv_spec.specs.Record.{Parts, reads, writes}
use Rattle.rv_spec.specs.Grammar.{Spells}
use Rattle.rv_spec.specs.Conclusion.{IsRecord, IsCollision}
use Rattle.rv_rules.specs.Verdict.{judge, verdict_of}
use Rattle.rv_rules.specs.Laws.{AcceptedIsRecord}
use Rattle.rv_file.proofs.Lemmas.{one-spelling}
use Rattle.rv_sound.specs.Accepted.{ReadsAccepted}
use Rattle.rv_settle.specs.declared.settling.Settled.{Settled}
use Rattle.rv_settle.specs.declared.settling.Settled.TheVariants.{Run, Collision, Refused}
use Rattle.rv_settle.specs.Settling.{IsSettled, IsDecided}

-- a verdict that refuses, and one that accepts
pub refused : (r : Result Parts Refusal) (e : Refusal) → verdict_of r ≡ Refuse e → r ≡ Err e
refused (Ok p) e is = absurd cc
refused (Err d) e is = let same : d ≡ e = cc in ap (λ x. Err x) same

pub accepted : (r : Result Parts Refusal) (steps shards : ℕ) (end : End) → verdict_of r ≡ Accept steps shards end → (p : Parts) × (r ≡ Ok p) × (p.header.steps ≡ steps)
accepted (Ok p) steps shards end is = (p, refl, cc)
accepted (Err d) steps shards end is = absurd cc

-- What is known of a program, its input and a file, of which the parts are accepted.
pub record IsKnown (lanes : Lanes) (elf input file : List ℕ) (steps : ℕ) (p : Parts) : Type 0 where
  pub faultless : first_fault elf ≡ None
  pub elf_bytes : AreBytes elf
  pub input_bytes : AreBytes input
  pub file_bytes : AreBytes file
  pub judged : judge lanes elf input file ≡ Ok p
  pub steps_are : p.header.steps ≡ steps
  pub reads : ReadsAccepted lanes elf input
  pub sound : AcceptedIsRecord lanes elf input file p

no-collision : (lanes : Lanes) (elf input file : List ℕ) (steps : ℕ) (p : Parts) → IsKnown lanes elf input file steps p → Same (reads p) (writes (image p.header.version elf) p) → IsCollision lanes elf file → ⊥
no-collision lanes elf input file steps p k same col =
    let spelled = (k.reads.accepted file p k.file_bytes k.judged).0 in
    let one : p ≡ col.parts = sym (one-spelling file p col.parts spelled col.spells) in
    col.differ (subst (λ (q : Parts). Same (reads q) (writes (image q.header.version elf) q)) one same)

record-only : (lanes : Lanes) (elf input file : List ℕ) (steps : ℕ) (p : Parts) → IsKnown lanes elf input file steps p → Same (reads p) (writes (image p.header.version elf) p)
    → IsRecord lanes p.header.version elf input p.header.size p.header.steps p.header.end file ⊎ IsCollision lanes elf file
    → IsRecord lanes p.header.version elf input p.header.size p.header.steps p.header.end file
record-only lanes elf input file steps p k same (inl r) = r
record-only lanes elf input file steps p k same (inr col) = absurd (no-collision lanes elf input file steps p k same col)

pub concluded : (lanes : Lanes) (elf input file : List ℕ) (steps : ℕ) (p : Parts) (s : Settled) → IsKnown lanes elf input file steps p
    → IsDecided (reads p) (writes (image p.header.version elf) p) steps s → IsSettled lanes elf input file s
concluded lanes elf input file steps p (Run n) k d = (
  p,
  record {
    accepted = k.judged;
    same = d.0;
    steps_are = d.1 ∙ sym k.steps_are;
    record_of_run = record-only lanes elf input file steps p k d.0 (k.sound k.faultless k.elf_bytes k.input_bytes k.file_bytes k.judged);
  },
)
concluded lanes elf input file steps p (Collision d) k c =
    let a = k.reads.accepted file p k.file_bytes k.judged in (
      p,
      record {
        accepted = k.judged;
        least = c.0;
        count_read = c.1;
        count_written = c.2;
        collision = record { parts = p; spells = a.0; one_digest = a.1.balance; differ = λ same. c.0.differs (same.counts d.tuple) };
      },
    )
concluded lanes elf input file steps p (Refused r) k d = absurd d

-- what is decided of the lists that were collected is decided of those of the parts
pub decided-of : (elf : List ℕ) (q p : Parts) (rs ws : List Tuple) (steps : ℕ) (s : Settled) → q ≡ p → rs ≡ reads q → ws ≡ writes (image q.header.version elf) q → IsDecided rs ws steps s
    → IsDecided (reads p) (writes (image p.header.version elf) p) steps s
decided-of elf q p rs ws steps s one read written d =
    let reads_are : rs ≡ reads p = read ∙ ap (λ (x : Parts). reads x) one in
    let writes_are : ws ≡ writes (image p.header.version elf) p = written ∙ ap (λ (x : Parts). writes (image x.header.version elf) x) one in
    subst (λ xs. IsDecided (reads p) xs steps s) writes_are (subst (λ xs. IsDecided xs ws steps s) reads_are d)
