-- What is loaded is run as the plans say.
use Rattle.std.proofs.Common.{◌≡◌, ℕ, ◌≤◌, List, [], ◌∷◌, length, None, Ok, sym, ◌∙◌, ap, subst}
use Rattle.rv_base.specs.declared.record.End.{End}
use Rattle.rv_spec.specs.Elf.{Image, image, first_fault}
use Rattle.rv_spec.specs.Run.{run as state_of, GoesOn, EndsIn}
use Rattle.rv_host.specs.Views.{ShelfView}
use Rattle.rv_commands.specs.CommandLine.{RunWords, run}
use Rattle.rv_commands.specs.Lines.{ran_line}
use Rattle.rv_plan.specs.Plan.{Outcome, refuses}
use Rattle.rv_trial.proofs.Lemmas.{found-within, none-within}
use Rattle.rv_commands.specs.Outcome.{ran, run_plan, plan_of}
use Rattle.rv_plan.specs.Endings.{Reaches}
use Rattle.rv_plan.specs.FileCalls.{Loads, Stops}
use Rattle.rv_plan.specs.declared.faults.Fault.TheVariants.{Budget}
use Rattle.rv_plan.specs.declared.loading.Loaded.{Loaded}
use Rattle.rv_plan.proofs.Lemmas.{left, reaches-program}

-- ---- run

pub run-over-budget : (w : RunWords) (s s' : ShelfView) (l : Loaded) → Loads w.elf w.input s s' (Ok l) → first_fault l.elf ≡ None → GoesOn (image w.version l.elf) l.input w.budget → Stops (plan_of (run w)) s s' (Budget w.budget)
run-over-budget w s s' l h faultless on =
    (left h.0, reaches-program w.elf w.input s s' l (run_plan w) (refuses (Budget w.budget)) h faultless (sym (ap (ran w (image w.version l.elf) l.input) (none-within (image w.version l.elf) l.input w.budget on))))

-- A run of some steps, its end and its output.
pub record HasRun (i : Image) (input : List ℕ) (budget steps : ℕ) (e : End) (output : List ℕ) : Type 0 where
  pub ends : EndsIn i input steps e
  pub within : steps ≤ budget
  pub put : output ≡ (state_of i input steps).output

pub as-run : (i j : Image) (input given : List ℕ) (budget steps : ℕ) (e : End) (output : List ℕ) → i ≡ j → input ≡ given → EndsIn i input steps e → steps ≤ budget → output ≡ (state_of i input steps).output → HasRun j given budget steps e output
as-run i j input given budget steps e output same_image same_input ends within put =
    subst (λ k. HasRun k given budget steps e output) same_image (subst (λ x. HasRun i x budget steps e output) same_input (record { ends = ends; within = within; put = put }))

-- the outcome of a run that ends
abbrev pub run_outcome : RunWords → ℕ → End → List ℕ → Outcome
run_outcome w steps e output = record { status = 0; text = ran_line steps e (length output); writes = (w.target, output) ∷ [] }

pub run-reaches : (w : RunWords) (s s' : ShelfView) (l : Loaded) (steps : ℕ) (e : End) (output : List ℕ) → Loads w.elf w.input s s' (Ok l) → first_fault l.elf ≡ None → HasRun (image w.version l.elf) l.input w.budget steps e output
    → Reaches s.files (plan_of (run w)) (run_outcome w steps e output)
run-reaches w s s' l steps e output h faultless r =
    let i : Image = image w.version l.elf in
    reaches-program w.elf w.input s s' l (run_plan w) (run_outcome w steps e output) h faultless
    (ap (run_outcome w steps e) r.put ∙ sym (ap (ran w i l.input) (found-within i l.input steps w.budget e r.ends r.within)))
