-- The machine in pieces, and what its state tells.
use Rattle.std.proofs.Common.{◌≡◌, ◌↔◌, ◌<◌, ℕ, Bool, List, [], ◌++◌, length, drop, Option, Some, None, Ok, Err, refl, sym, ap, subst, ◌∙◌}
use Rattle.std.proofs.lemmas.List.{append-nil}
use Rattle.rv_base.specs.declared.record.Header.{Header}
use Rattle.rv_base.specs.declared.record.Refusal.{Refusal}
use Rattle.rv_spec.specs.Digest.{Lanes}
use Rattle.rv_rules.specs.Checks.{first_broken, refused_by}
use Rattle.rv_rules.specs.Reading.{header_of, header_checks}
use Rattle.rv_reading.specs.Stream.{State, StepOf, reads, patient, feed, outcome}
use Rattle.rv_reading.specs.Machine.{Phase, step, first_phase, opened}
use Rattle.rv_reading.specs.Judging.{IsFront, state_behind, StateTellsFile, FileStaysRefused, FileStateWaits, MachineIsStream, ExtentsAreStreams, InEachStream, PiecesJoin, CutsDontMatter, StateTellsRefusals, RefusalsStay, StatesWait}
use Rattle.rv_reading.proofs.StreamLaws.{feed-feed, feed-outcome, state-refuses, state-tells, state-waits}
use Rattle.rv_reading.proofs.StepStream.{step-is_stream, step_to-is_stream}
use Rattle.rv_reading.proofs.StepWaits.{waits-below}
use Rattle.rv_reading.proofs.FrontRead.{front-is-judged, front-has-room}

pub pieces-join : InEachStream PiecesJoin
pieces-join move is s piece more = feed-feed move is s piece more

pub cuts-dont-matter : InEachStream CutsDontMatter
cuts-dont-matter move is s piece rest = feed-outcome move is s piece rest

pub refusals-stay : InEachStream RefusalsStay
refusals-stay move is p bytes rest r e = (state-refuses move is p bytes r e).1 rest

pub state-tells-refusals : InEachStream StateTellsRefusals
state-tells-refusals move is p bytes r = (
  λ e.
      let told = state-refuses move is p bytes r e in
      (sym (ap (λ z. reads move p z) (append-nil bytes)) ∙ told.1 [], told.0),
  λ f. state-tells move is p bytes r f.0 f.1,
)

module _ (complete : Bool) (lanes : Lanes) (elf input : List ℕ) (h : Header) (output : List ℕ) where
  pub machine-is-stream : MachineIsStream complete lanes elf input h output
  machine-is-stream = step-is_stream complete lanes elf input h output

  pub extents-are-streams : ExtentsAreStreams complete lanes elf input h output
  extents-are-streams extent = step_to-is_stream complete lanes elf input h output extent

  pub states-wait : StatesWait complete lanes elf input h output
  states-wait p bytes s e =
      let waiting = state-waits (step complete lanes elf input h output) machine-is-stream p bytes s e in
      (waiting, waits-below complete lanes elf input h output s.0 s.1 waiting)

-- ---- a file

module _ (complete : Bool) (lanes : Lanes) (elf input front : List ℕ) where
  abbrev file_move : StepOf Phase
  file_move = step complete lanes elf input (header_of front) (drop 173 front)

  abbrev start : Phase
  start = first_phase complete lanes elf input (header_of front)

  -- a front is refused, or the machine begins
  opened-is : (P : State Phase → Type 0) → ((r : Refusal) → opened complete lanes elf input front ≡ Err r → P (Err r)) → P (Ok (start, [])) → P (opened complete lanes elf input front)
  opened-is P refused begun = go (first_broken (header_checks complete lanes elf input front)) refl
    where
      go : (o : Option ℕ) → first_broken (header_checks complete lanes elf input front) ≡ o → P (refused_by 0 0 o (start, []))
      go None e = begun
      go (Some rule) e = refused (record { shard = 0; row = 0; rule = rule }) (ap (λ z. refused_by 0 0 z (start, [])) e)

  tells-behind : (bytes : List ℕ) (r : Refusal) → IsFront front → (feed file_move (opened complete lanes elf input front) bytes ≡ Err r) ↔ ((outcome file_move (opened complete lanes elf input front) bytes ≡ Err r) × (¬ (r.rule ≡ 1)))
  tells-behind bytes r size =
      opened-is (λ s. (feed file_move s bytes ≡ Err r) ↔ ((outcome file_move s bytes ≡ Err r) × (¬ (r.rule ≡ 1)))) refused
      (state-tells-refusals file_move (machine-is-stream complete lanes elf input (header_of front) (drop 173 front)) start bytes r)
    where
      refused : (t : Refusal) → opened complete lanes elf input front ≡ Err t → (feed file_move (Err t) bytes ≡ Err r) ↔ ((outcome file_move (Err t) bytes ≡ Err r) × (¬ (r.rule ≡ 1)))
      refused t e = (λ f. (f, let same : t ≡ r = cc in λ one. front-has-room complete lanes elf input front t size e (ap (λ (z : Refusal). z.rule) same ∙ one)), λ f. f.0)

  waits-behind : (bytes : List ℕ) (s : Phase × List ℕ) → feed file_move (opened complete lanes elf input front) bytes ≡ Ok s → (patient file_move s.0 s.1 ≡ Ok None) × (length s.1 < 256)
  waits-behind bytes s =
      opened-is (λ z. feed file_move z bytes ≡ Ok s → (patient file_move s.0 s.1 ≡ Ok None) × (length s.1 < 256)) (λ t _ f. absurd cc)
      (λ f. states-wait complete lanes elf input (header_of front) (drop 173 front) start bytes s f)

pub state-tells-file : StateTellsFile
state-tells-file complete lanes elf input front bytes r size =
    subst (λ s. (state_behind complete lanes elf input front bytes ≡ Err r) ↔ ((s ≡ Err r) × (¬ (r.rule ≡ 1)))) (sym (front-is-judged complete lanes elf input front bytes size)) (tells-behind complete lanes elf input front bytes r size)

pub file-stays-refused : FileStaysRefused
file-stays-refused complete lanes elf input front bytes more r size e =
    let h = header_of front in
    let output = drop 173 front in
    front-is-judged complete lanes elf input front (bytes ++ more) size
    ∙ sym (cuts-dont-matter (step complete lanes elf input h output) (machine-is-stream complete lanes elf input h output) (opened complete lanes elf input front) bytes more)
    ∙ ap (λ s. outcome (step complete lanes elf input h output) s more) e

pub file-state-waits : FileStateWaits
file-state-waits complete lanes elf input front bytes s e = waits-behind complete lanes elf input front bytes s e
