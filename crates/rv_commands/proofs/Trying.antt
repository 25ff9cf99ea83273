-- What trial does, as its plan says, and how it ends.
use Rattle.std.proofs.Common.{◌≡◌, ◌≢◌, ◌⊎◌, inl, inr, ◌==◌, ℕ, List, [], ◌∷◌, length, Option, Some, None, Ok, false, refl, sym, ap, ◌∙◌, arith, length-append}
use Rattle.std.proofs.lemmas.Bool.{eqb-false, true≢false}
use Rattle.rv_host.specs.Views.{ShelfView, SinkView}
use Rattle.rv_plan.specs.Plan.{Due, Outcome, answer, refuses}
use Rattle.rv_plan.specs.Answers.{Answers, Prints}
use Rattle.rv_plan.specs.Answers.Prints.{whole, torn}
use Rattle.rv_plan.specs.Endings.{Ends, TakesMemory, WriteFails}
use Rattle.rv_plan.specs.Endings.Ends.{done, unread, unwritten, no_memory}
use Rattle.rv_plan.specs.FileCalls.{IsUnchanged, Performs, Stops}
use Rattle.rv_plan.specs.declared.faults.VersionFault.TheVariants as version
use Rattle.rv_plan.specs.declared.faults.Fault.TheVariants.{Words, Elf, Budget, Read, Write, Memory, Limit, Version, Part, Step, Assembly}
use Rattle.rv_plan.specs.declared.told.Told.{Told}
use Rattle.rv_trial.specs.Trials.{IsTold, trial as trial_told}
use Rattle.rv_trial.specs.declared.summary.Trial.{Trial}
use Rattle.rv_trial.proofs.Lemmas.{trials-are-told}
use Rattle.rv_commands.specs.CommandLine.{TrialWords, trial}
use Rattle.rv_commands.specs.Commands.{HasRanges, trial_words, words_of}
use Rattle.rv_commands.specs.declared.commands.Command.{Command}
use Rattle.rv_commands.specs.declared.commands.Command.TheVariants as command
use Rattle.rv_commands.specs.Lines.{trial_line}
use Rattle.rv_commands.specs.Outcome.{tells, tried, plan_of}
use Rattle.rv_commands.specs.Trials.{TrialEnds}
use Rattle.rv_commands.proofs.Checking.{written-nothing}

-- outcomes of two statuses
differ : (o p : Outcome) → (o.status == p.status) ≡ false → o ≢ p
differ o p e same = eqb-false o.status p.status e (ap (λ (x : Outcome). x.status) same)

-- a trial is never at once a refusal whose line has no number
takes-memory : (w : TrialWords) (t : Option Trial) → TakesMemory (answer (tried w t))
takes-memory w None Words h = differ _ (refuses Words) refl
takes-memory w None (Elf e) h = absurd (true≢false h)
takes-memory w None (Budget n) h = absurd (true≢false h)
takes-memory w None (Version version.New) h = differ _ (refuses (Version version.New)) refl
takes-memory w None (Version (version.Atomic word)) h = absurd (true≢false h)
takes-memory w None (Part number fault) h = absurd (true≢false h)
takes-memory w None (Step steps) h = absurd (true≢false h)
takes-memory w None (Assembly at kind) h = absurd (true≢false h)
takes-memory w None Read h = differ _ (refuses Read) refl
takes-memory w None Write h = differ _ (refuses Write) refl
takes-memory w None Memory h = differ _ (refuses Memory) refl
takes-memory w None (Limit what) h = differ _ (refuses (Limit what)) refl
takes-memory w (Some t) Words h = differ _ (refuses Words) refl
takes-memory w (Some t) (Elf e) h = absurd (true≢false h)
takes-memory w (Some t) (Budget n) h = absurd (true≢false h)
takes-memory w (Some t) (Version version.New) h = differ _ (refuses (Version version.New)) refl
takes-memory w (Some t) (Version (version.Atomic word)) h = absurd (true≢false h)
takes-memory w (Some t) (Part number fault) h = absurd (true≢false h)
takes-memory w (Some t) (Step steps) h = absurd (true≢false h)
takes-memory w (Some t) (Assembly at kind) h = absurd (true≢false h)
takes-memory w (Some t) Read h = differ _ (refuses Read) refl
takes-memory w (Some t) Write h = differ _ (refuses Write) refl
takes-memory w (Some t) Memory h = differ _ (refuses Memory) refl
takes-memory w (Some t) (Limit what) h = differ _ (refuses (Limit what)) refl

still : (s : ShelfView) → IsUnchanged s s
still s = record { files = refl; reads = λ _. refl; writes = λ _. refl }

pub trial-no-memory : (w : TrialWords) (s : ShelfView) → Stops (plan_of (trial w)) s s Memory
trial-no-memory w s = (record { files = refl; writes = λ _. refl }, takes-memory w (trial_told w.number w.size))

pub trial-tells : (w : TrialWords) (s : ShelfView) (t : Trial) (told : Told) → trial_told w.number w.size ≡ Some t → told.status ≡ 0 → told.text ≡ trial_line w.number w.size t → Performs (plan_of (trial w)) s s (Ok told)
trial-tells w s t told is status text =
    let o : Outcome = tells (trial_line w.number w.size t) in
    (o, sym (ap (tried w) is), status, text, written-nothing s s o (still s) refl)

-- ---- how it ends

none-due : (due : List Due) (s s' : ShelfView) → due ≡ [] → WriteFails due s s' → ⊥
none-due due s s' none fails =
    let many = ap length (sym none ∙ fails.order) in
    omega (arith, many, length-append fails.first ((fails.name, fails.bytes) ∷ fails.last))

told-ends : (w : TrialWords) (told : IsTold w.number w.size) (s s' : ShelfView) (status : ℕ) (text : List ℕ) → Ends (plan_of (trial w)) s s' status text → (status ≡ 0) ⊎ (status ≡ 7)
told-ends w told s s' status text (done o reached is _ _) = inl (is ∙ ap (λ (x : Outcome). x.status) reached ∙ ap (λ (t : Option Trial). (tried w t).status) told.is)
told-ends w told s s' status text (unread _ _ fails _) = absurd fails
told-ends w told s s' status text (unwritten o reached _ _ fails) =
    absurd (none-due o.writes s s' (ap (λ (x : Outcome). x.writes) reached ∙ ap (λ (t : Option Trial). (tried w t).writes) told.is) fails)
told-ends w told s s' status text (no_memory _ is _ _) = inr is

printed-ends : (w : TrialWords) (t t' : SinkView) (status : ℕ) (text : List ℕ) (result : ℕ) → (status ≡ 0) ⊎ (status ≡ 7) → Prints t t' status text result → TrialEnds (Some (trial w)) t t' result
printed-ends w t t' status text result (inl none) (whole is _) = inl (is ∙ none)
printed-ends w t t' status text result (inr memory) (whole is _) = inr (inr (is ∙ memory))
printed-ends w t t' status text result ended (torn is rose _) = inr (inl (is, rose))

-- of each command that is a trial
pub trial-ends : (asked : Command) → HasRanges asked → (s s' : ShelfView) (t t' : SinkView) (result : ℕ) → Answers (plan_of (words_of asked)) s s' t t' result → TrialEnds (Some (words_of asked)) t t' result
trial-ends (command.Trial w) ranges s s' t t' result a =
    printed-ends (trial_words w) t t' a.status a.text result (told-ends (trial_words w) (trials-are-told w.number w.size ranges.1) s s' a.status a.text a.ended) a.printed
trial-ends asked ranges s s' t t' result a = tt
