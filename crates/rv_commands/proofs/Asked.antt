-- What state and cell do, as their plans say, and what their success says.
use Rattle.std.proofs.Common.{◌≡◌, ◌⊎◌, ◌<◌, inl, inr, ℕ, List, [], Option, Some, None, Ok, Err, Result, IfOk, nat_lt, refl, sym, ap, subst, ◌∙◌, option_map, MatchResult, if◌then◌else◌}
use Rattle.std.proofs.lemmas.Bool.{ltb-true, eqb-false}
use Rattle.std.proofs.lemmas.Option.{cond_some}
use Rattle.rv_base.specs.declared.limits.TheConstants.{RECORD_LIMIT}
use Rattle.rv_base.specs.declared.record.End.{End}
use Rattle.rv_base.specs.declared.record.Refusal.{Refusal}
use Rattle.rv_base.specs.declared.record.Verdict.TheVariants.{Accept}
use Rattle.rv_spec.specs.Elf.{first_fault}
use Rattle.rv_spec.specs.Digest.{sha_lanes}
use Rattle.rv_spec.specs.Record.{Parts}
use Rattle.rv_spec.specs.Conclusion.{IsCollision}
use Rattle.rv_spec.specs.Grammar.{Spells}
use Rattle.rv_spec.specs.Words.{AreBytes}
use Rattle.rv_rules.specs.Verdict.{judge, verdict}
use Rattle.rv_host.specs.Views.{ShelfView}
use Rattle.rv_query.specs.OfRun.{Accepts}
use Rattle.rv_plan.specs.Plan.{Outcome, answer, read_program, refuses}
use Rattle.rv_plan.specs.Endings.{IsContents}
use Rattle.rv_plan.specs.FileCalls.{IsUnchanged, Loads, Performs, PerformsBehind, ReadsWithin, Stops}
use Rattle.rv_plan.specs.declared.faults.Fault.{Fault}
use Rattle.rv_plan.specs.declared.faults.Fault.TheVariants.{Words, Elf, Budget, Read, Write, Memory, Limit, Version, Part, Step, Assembly}
use Rattle.rv_plan.specs.declared.faults.Limited.TheVariants as limited
use Rattle.rv_plan.specs.declared.loading.Loaded.{Loaded}
use Rattle.rv_plan.specs.declared.told.Told.{Told}
use Rattle.rv_plan.proofs.Lemmas.{left}
use Rattle.rv_commands.specs.Asking.{TellsAnswer}
use Rattle.rv_commands.specs.CommandLine.{CellWords, StateWords}
use Rattle.rv_commands.specs.Headline.{AnswersOfRun, CellAnswered, CellTold, StateAnswered, StateTold}
use Rattle.rv_commands.specs.Judging.{TellsOutcome}
use Rattle.rv_commands.specs.Lines.{refused_line}
use Rattle.rv_commands.specs.Outcome.{answered, asked, denies, question_plan, tells}
use Rattle.rv_commands.proofs.Checking.{held-read, held-unread, written-nothing}

-- ---- what is told

answered-writes : (steps : ℕ) (text : Option (List ℕ)) → (answered steps text).writes ≡ []
answered-writes steps (Some text) = refl
answered-writes steps None = refl

asked-writes : (text : Parts → Option (List ℕ)) (r : Result Parts Refusal) → (asked text r).writes ≡ []
asked-writes text (Ok p) = answered-writes p.header.steps (text p)
asked-writes text (Err r) = refl

-- a refusal is told
tells-memory : (o : Outcome) (f : Fault) → f ≡ Memory → TellsAnswer o (Err f)
tells-memory o f is = subst (λ x. TellsAnswer o (Err x)) (sym is) tt

pub tells-denied : (text : Parts → Option (List ℕ)) (judged : Result Parts Refusal) (r : Refusal) (told : Result Told Fault) → judged ≡ Err r → TellsOutcome (denies (refused_line r)) told → TellsAnswer (asked text judged) told
tells-denied text judged r (Ok told) is says = subst (λ j. TellsAnswer (asked text j) (Ok told)) (sym is) says
tells-denied text judged r (Err f) is says = tells-memory (asked text judged) f says

-- it isn't told as a success
pub denied-fails : (P : Type 0) (r : Refusal) (told : Result Told Fault) → TellsOutcome (denies (refused_line r)) told → IfOk told (λ t. t.status ≡ 0 → P)
denied-fails P r (Ok told) says = λ zero. absurd (eqb-false 1 0 refl (sym says.0 ∙ zero))
denied-fails P r (Err f) says = tt

-- the text of an answer
pub tells-text : {A : Type 0} (lines : A → List ℕ) (answer_of : Parts → Option A) (judged : Result Parts Refusal) (p : Parts) (a : A) (told : Told) → judged ≡ Ok p → Some a ≡ answer_of p → told.status ≡ 0 → told.text ≡ lines a
    → TellsAnswer (asked (λ q. option_map lines (answer_of q)) judged) (Ok told)
tells-text lines answer_of judged p a told is found status text =
    subst (λ j. TellsAnswer (asked (λ q. option_map lines (answer_of q)) j) (Ok told)) (sym is)
    (subst (λ o. TellsAnswer (answered p.header.steps (option_map lines o)) (Ok told)) found (status, text))

-- the file has no such step
pub tells-no-step : {A : Type 0} (lines : A → List ℕ) (answer_of : Parts → Option A) (judged : Result Parts Refusal) (p : Parts) (steps : ℕ) → judged ≡ Ok p → None ≡ answer_of p → steps ≡ p.header.steps
    → TellsAnswer (asked (λ q. option_map lines (answer_of q)) judged) (Err (Step steps))
tells-no-step lines answer_of judged p steps is none same =
    ap (asked (λ q. option_map lines (answer_of q))) is ∙ ap (λ o. answered p.header.steps (option_map lines o)) (sym none) ∙ ap (λ n. refuses (Step n)) (sym same)

-- ---- the parts of an accepted file

-- what is parsed of a file that is judged good is what was judged
pub parsed-judged : (judged r : Result Parts Refusal) (p : Parts) → judged ≡ Ok p → MatchResult r (λ q. q ≡ p) (λ _. ⊥) → MatchResult r (λ q. judged ≡ Ok q) (λ e. judged ≡ Err e)
parsed-judged judged (Ok q) p is same = is ∙ ap (λ x. Ok x) (sym same)
parsed-judged judged (Err e) p is h = absurd h

pub parsed-accepts : (elf input file : List ℕ) (r : Result Parts Refusal) (steps shards : ℕ) (end : End) → AreBytes file → verdict sha_lanes elf input file ≡ Accept steps shards end → IfOk r (λ p. Spells p file) → IfOk r (Accepts sha_lanes elf input file)
parsed-accepts elf input file (Ok p) steps shards end bytes is spelled = record { bytes = bytes; spells = spelled; steps = steps; shards = shards; end = end; accepted = is }
parsed-accepts elf input file (Err e) steps shards end bytes is spelled = tt

-- ---- the plan

still : (s : ShelfView) → IsUnchanged s s
still s = record { files = refl; reads = λ _. refl; writes = λ _. refl }

tells-behind : (o : Outcome) (s : ShelfView) (r : Result Told Fault) → o.writes ≡ [] → TellsAnswer o r → PerformsBehind (answer o) s s r
tells-behind o s (Ok told) none says = (o, refl, says.0, says.1, written-nothing s s o (still s) none)
tells-behind o s (Err Words) none says = absurd says
tells-behind o s (Err (Elf e)) none says = absurd says
tells-behind o s (Err (Budget n)) none says = absurd says
tells-behind o s (Err Read) none says = absurd says
tells-behind o s (Err Write) none says = absurd says
tells-behind o s (Err Memory) none says = left (still s)
tells-behind o s (Err (Limit what)) none says = absurd says
tells-behind o s (Err (Version reason)) none says = absurd says
tells-behind o s (Err (Part number fault)) none says = absurd says
tells-behind o s (Err (Step steps)) none says = (left (still s), sym says)
tells-behind o s (Err (Assembly at kind)) none says = absurd says

module _ (elf input name : List ℕ) (text : List ℕ → Parts → Option (List ℕ)) (s s' s'' : ShelfView) (l : Loaded) where
  pub question-unread : (f : Fault) → Loads elf input s s' (Ok l) → first_fault l.elf ≡ None → ReadsWithin name RECORD_LIMIT limited.Record s' s'' (Err f) → Stops (read_program elf input (question_plan name text)) s s'' f
  question-unread f h faultless got = held-unread elf input name (λ program given file. answer (asked (text program) (judge sha_lanes program given file))) s s' s'' l f h faultless got

  pub question-read : (file : List ℕ) (r : Result Told Fault) → Loads elf input s s' (Ok l) → first_fault l.elf ≡ None → ReadsWithin name RECORD_LIMIT limited.Record s' s'' (Ok file)
      → TellsAnswer (asked (text l.elf) (judge sha_lanes l.elf l.input file)) r → Performs (read_program elf input (question_plan name text)) s s'' r
  question-read file r h faultless got says =
      held-read elf input name (λ program given bytes. answer (asked (text program) (judge sha_lanes program given bytes))) s s' s'' l file r h faultless got
      (tells-behind (asked (text l.elf) (judge sha_lanes l.elf l.input file)) s'' r (asked-writes (text l.elf) (judge sha_lanes l.elf l.input file)) says)

-- ---- of the run

-- an answer is there where the file has the step
has-step : {A : Type 0} (step steps : ℕ) (a x : A) → Some a ≡ (if nat_lt step steps then Some x else None) → step < steps
has-step step steps a x found = ltb-true step steps (cond_some (nat_lt step steps) x a (sym found)).0

-- the answer of the run, where the file isn't a collision
pub answers-of-run : {A : Type 0} (elf input file : List ℕ) (step : ℕ) (lines : A → List ℕ) (shown : Parts → A) (p : Parts) (a of_run : A) (due : Parts → List ℕ) → Accepts sha_lanes elf input file p → judge sha_lanes elf input file ≡ Ok p
    → Some a ≡ (if nat_lt step p.header.steps then Some (shown p) else None) → (step < p.header.steps → Some a ≡ Some of_run) ⊎ IsCollision sha_lanes elf file → lines of_run ≡ due p
    → AnswersOfRun elf input file step (λ q. option_map lines (if nat_lt step q.header.steps then Some (shown q) else None)) due
answers-of-run elf input file step lines shown p a of_run due accepts judged found answers is = record {
  parts = p;
  spells = accepts.spells;
  has_step = has-step step p.header.steps a (shown p) found;
  of_run = go answers;
}
  where
    text : Parts → Option (List ℕ)
    text q = option_map lines (if nat_lt step q.header.steps then Some (shown q) else None)

    go : (step < p.header.steps → Some a ≡ Some of_run) ⊎ IsCollision sha_lanes elf file → (asked text (judge sha_lanes elf input file) ≡ tells (due p)) ⊎ IsCollision sha_lanes elf file
    go (inl same) = inl (ap (asked text) judged ∙ ap (λ o. answered p.header.steps (option_map lines o)) (sym found ∙ same (has-step step p.header.steps a (shown p) found)) ∙ ap tells is)
    go (inr collision) = inr collision

-- ---- the contents

pub state-told : (w : StateWords) (s s' : ShelfView) (l : Loaded) (file : List ℕ) (r : Result Told Fault) → Loads w.elf w.input s s' (Ok l) → IsContents s'.files w.file file → IfOk r (λ told. told.status ≡ 0 → StateAnswered l.elf l.input file w)
    → IfOk r (λ told. told.status ≡ 0 → StateTold s.files w)
state-told w s s' l file (Err f) h is answers = tt
state-told w s s' l file (Ok told) h is answers = λ status. record {
  elf = l.elf;
  input = l.input;
  file = file;
  elf_is = h.3;
  input_is = h.4;
  file_is = subst (λ files. IsContents files w.file file) h.0.files is;
  answer = answers status;
}

pub cell-told : (w : CellWords) (s s' : ShelfView) (l : Loaded) (file : List ℕ) (r : Result Told Fault) → Loads w.elf w.input s s' (Ok l) → IsContents s'.files w.file file → IfOk r (λ told. told.status ≡ 0 → CellAnswered l.elf l.input file w)
    → IfOk r (λ told. told.status ≡ 0 → CellTold s.files w)
cell-told w s s' l file (Err f) h is answers = tt
cell-told w s s' l file (Ok told) h is answers = λ status. record {
  elf = l.elf;
  input = l.input;
  file = file;
  elf_is = h.3;
  input_is = h.4;
  file_is = subst (λ files. IsContents files w.file file) h.0.files is;
  answer = answers status;
}
