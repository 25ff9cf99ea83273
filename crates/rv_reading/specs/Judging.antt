-- The machine judges a file as the definition by whole parts does, also where its first bytes come in front, and the state after a piece tells what has been found.
use Rattle.std.specs.Prelude.{◌≡◌, ◌↔◌, ◌<◌, ℕ, ◌+◌, true, Bool, List, ◌++◌, length, drop, None, Ok, Err}
use Rattle.rv_base.specs.declared.rules.TheConstants.{SHORT}
use Rattle.rv_base.specs.declared.layout.TheConstants.{HEADER_BYTES}
use Rattle.rv_base.specs.declared.record.Header.{Header}
use Rattle.rv_base.specs.declared.record.Refusal.{Refusal}
use Rattle.rv_spec.specs.Digest.{Lanes}
use Rattle.rv_rules.specs.Reading.{header_of, read_file}
use Rattle.rv_rules.specs.Verdict.{verdict}
use Rattle.rv_reading.specs.Stream.{StepOf, IsStream, State, reads, patient, settle, feed, outcome}
use Rattle.rv_reading.specs.Machine.{Phase, Extent, step, step_to, opened, judged, finding, told}

-- ---- a whole file

-- The machine breaks the check that the definition breaks, or none; where `complete` is false, of form alone.
abbrev pub JudgedIsRead : Type 0
JudgedIsRead = (complete : Bool) (lanes : Lanes) (elf input file : List ℕ) → finding (judged complete lanes elf input file) ≡ finding (read_file complete lanes elf input file)

abbrev pub VerdictIsTold : Type 0
VerdictIsTold = (lanes : Lanes) (elf input file : List ℕ) → verdict lanes elf input file ≡ told (header_of file) (judged true lanes elf input file)

-- ---- a file that begins with these bytes

-- the bytes are a header and the output that it states
abbrev pub IsFront : List ℕ → Type 0
IsFront front = length front ≡ HEADER_BYTES + (header_of front).length

-- what comes of a front, where these bytes follow and no more
abbrev pub outcome_behind : Bool → Lanes → List ℕ → List ℕ → List ℕ → List ℕ → State Phase
outcome_behind complete lanes elf input front bytes = outcome (step complete lanes elf input (header_of front) (drop HEADER_BYTES front)) (opened complete lanes elf input front) bytes

abbrev pub FrontIsJudged : Type 0
FrontIsJudged = (complete : Bool) (lanes : Lanes) (elf input front bytes : List ℕ) → IsFront front → judged complete lanes elf input (front ++ bytes) ≡ outcome_behind complete lanes elf input front bytes

abbrev pub VerdictBehindFront : Type 0
VerdictBehindFront = (lanes : Lanes) (elf input front bytes : List ℕ) → IsFront front → verdict lanes elf input (front ++ bytes) ≡ told (header_of front) (outcome_behind true lanes elf input front bytes)

-- A file whose header or output is refused is refused so.
abbrev pub RefusedAtFront : Type 0
RefusedAtFront = (complete : Bool) (lanes : Lanes) (elf input file : List ℕ) (r : Refusal) → opened complete lanes elf input file ≡ Err r → judged complete lanes elf input file ≡ Err r

-- A front of any length that is refused by another rule than 1 is refused so, whatever follows.
abbrev pub FrontStaysRefused : Type 0
FrontStaysRefused = (complete : Bool) (lanes : Lanes) (elf input front bytes : List ℕ) (r : Refusal)
    → opened complete lanes elf input front ≡ Err r → ¬ (r.rule ≡ SHORT) → judged complete lanes elf input (front ++ bytes) ≡ Err r

-- ---- the state after some bytes

-- the state behind a front and then these bytes
abbrev pub state_behind : Bool → Lanes → List ℕ → List ℕ → List ℕ → List ℕ → State Phase
state_behind complete lanes elf input front bytes = feed (step complete lanes elf input (header_of front) (drop HEADER_BYTES front)) (opened complete lanes elf input front) bytes

-- The state is a refusal exactly where the file's bytes so far are refused by another rule than 1.
abbrev pub StateTellsFile : Type 0
StateTellsFile = (complete : Bool) (lanes : Lanes) (elf input front bytes : List ℕ) (r : Refusal)
    → IsFront front → (state_behind complete lanes elf input front bytes ≡ Err r) ↔ ((judged complete lanes elf input (front ++ bytes) ≡ Err r) × (¬ (r.rule ≡ SHORT)))

-- Then the file is refused so, whatever follows.
abbrev pub FileStaysRefused : Type 0
FileStaysRefused = (complete : Bool) (lanes : Lanes) (elf input front bytes more : List ℕ) (r : Refusal)
    → IsFront front → state_behind complete lanes elf input front bytes ≡ Err r → judged complete lanes elf input (front ++ (bytes ++ more)) ≡ Err r

-- Else it waits for bytes, or may end there, and it holds fewer than 256 bytes.
abbrev pub FileStateWaits : Type 0
FileStateWaits = (complete : Bool) (lanes : Lanes) (elf input front bytes : List ℕ) (s : Phase × List ℕ)
    → state_behind complete lanes elf input front bytes ≡ Ok s
    → (patient (step complete lanes elf input (header_of front) (drop HEADER_BYTES front)) s.0 s.1 ≡ Ok None) × (length s.1 < 256)

-- ---- from any phase on

module _ (complete : Bool) (lanes : Lanes) (elf input : List ℕ) (h : Header) (output : List ℕ) where
  -- What a step found stays so, whatever bytes come behind.
  abbrev pub MachineIsStream : Type 0
  MachineIsStream = IsStream Phase (step complete lanes elf input h output)

  abbrev pub ExtentsAreStreams : Type 0
  ExtentsAreStreams = (extent : Extent) → IsStream Phase (step_to complete lanes elf input h output extent)

  -- A state that isn't a refusal waits for bytes or may end there, and it holds fewer than 256 bytes.
  abbrev pub StatesWait : Type 0
  StatesWait = (p : Phase) (bytes : List ℕ) (s : Phase × List ℕ)
      → settle (step complete lanes elf input h output) p bytes ≡ Ok s → (patient (step complete lanes elf input h output) s.0 s.1 ≡ Ok None) × (length s.1 < 256)

-- a law of all steps that are streams
abbrev pub InEachStream : (StepOf Phase → Type 0) → Type 0
InEachStream law = (move : StepOf Phase) → IsStream Phase move → law move

-- Feeding a piece and then another is feeding both joined.
abbrev pub PiecesJoin : StepOf Phase → Type 0
PiecesJoin move = (s : State Phase) (piece more : List ℕ) → feed move (feed move s piece) more ≡ feed move s (piece ++ more)

-- What comes of the state after a piece is what comes of the state before, with the piece in front.
abbrev pub CutsDontMatter : StepOf Phase → Type 0
CutsDontMatter move = (s : State Phase) (piece rest : List ℕ) → outcome move (feed move s piece) rest ≡ outcome move s (piece ++ rest)

-- A state is a refusal exactly where the bytes so far are refused by another rule than 1.
abbrev pub StateTellsRefusals : StepOf Phase → Type 0
StateTellsRefusals move = (p : Phase) (bytes : List ℕ) (r : Refusal) → (settle move p bytes ≡ Err r) ↔ ((reads move p bytes ≡ Err r) × (¬ (r.rule ≡ SHORT)))

-- Then whatever follows is refused so.
abbrev pub RefusalsStay : StepOf Phase → Type 0
RefusalsStay move = (p : Phase) (bytes rest : List ℕ) (r : Refusal) → settle move p bytes ≡ Err r → reads move p (bytes ++ rest) ≡ Err r
