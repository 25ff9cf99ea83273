-- What a judge holds between pieces, and what comes of it.
use Rattle.std.specs.Prelude.{◌≡◌, ◌≤◌, ℕ, ◌++◌, List, length, take, None, Result, Ok, Err}
use Rattle.rv_base.specs.declared.rules.TheConstants.{SHORT}
use Rattle.rv_base.specs.declared.layout.TheConstants.{HEADER_BYTES}
use Rattle.rv_base.specs.declared.record.Refusal.{Refusal}
use Rattle.rv_base.specs.declared.record.Verdict.{Verdict}
use Rattle.rv_base.specs.declared.record.Verdict.TheVariants.{Refuse}
use Rattle.rv_spec.specs.Digest.{Lanes}
use Rattle.rv_file.specs.Front.{front_length}
use Rattle.rv_reading.specs.Stream.{patient, reads}
use Rattle.rv_reading.specs.Machine as machine
use Rattle.rv_judge.specs.declared.held.Reading.{Reading}
use Rattle.rv_judge.specs.Subject.{Subject, step}
use Rattle.rv_judge.specs.Phases.{Fits, phase_of}

-- the phase of the machine that judges a file, and the bytes that don't decide it
pub record Held : Type 0 where
  pub subject : Subject
  pub phase : machine.Phase
  pub bytes : List ℕ

-- What comes of it where these bytes follow and no more; or a refusal, which stays.
abbrev pub comes : Lanes → Result Held Refusal → List ℕ → Verdict
comes lanes (Ok x) rest = machine.told x.subject.header (reads (step lanes x.subject) x.phase (x.bytes ++ rest))
comes lanes (Err r) rest = Refuse r

-- header and output of a file, as its header tells how long they are
abbrev pub IsWholeFront : List ℕ → Type 0
IsWholeFront front = (HEADER_BYTES ≤ length front) × (length front ≡ front_length (take HEADER_BYTES front))

-- ---- the code's

abbrev pub held_of : Lanes → Reading → Held
held_of lanes r = record { subject = r.subject; phase = phase_of lanes r.machine; bytes = r.buffer.items }

-- It waits for bytes, or the file may end.
pub record IsReading (lanes : Lanes) (r : Reading) : Type 0 where
  pub fits : Fits r.subject r.machine
  pub waits : patient (step lanes r.subject) (phase_of lanes r.machine) r.buffer.items ≡ Ok None

abbrev pub state_of : Lanes → Result Reading Refusal → Result Held Refusal
state_of lanes (Ok r) = Ok (held_of lanes r)
state_of lanes (Err r) = Err r

abbrev pub IsState : Lanes → Result Reading Refusal → Type 0
IsState lanes (Ok r) = IsReading lanes r
IsState lanes (Err r) = ¬ (r.rule ≡ SHORT)

-- Reading goes on behind these bytes, or they are refused, whatever follows.
pub record ReadOn (lanes : Lanes) (old new : Reading) (bytes : List ℕ) : Type 0 where
  pub is : IsReading lanes new
  pub subject : new.subject ≡ old.subject
  pub goes : (rest : List ℕ) → reads (step lanes old.subject) (phase_of lanes new.machine) (new.buffer.items ++ rest) ≡ reads (step lanes old.subject) (phase_of lanes old.machine) (bytes ++ rest)

pub record RefusedOn (lanes : Lanes) (old : Reading) (bytes : List ℕ) (r : Refusal) : Type 0 where
  pub rule : ¬ (r.rule ≡ SHORT)
  pub stays : (rest : List ℕ) → reads (step lanes old.subject) (phase_of lanes old.machine) (bytes ++ rest) ≡ Err r

abbrev pub ReadsOn : Lanes → Reading → Reading → List ℕ → Result (Unit {0}) Refusal → Type 0
ReadsOn lanes old new bytes (Ok u) = ReadOn lanes old new bytes
ReadsOn lanes old new bytes (Err r) = RefusedOn lanes old bytes r
