use Rattle.std.proofs.Common.{◌≡◌, List, ℕ, refl, ◌∙◌, ap, subst, Some, None, [], ◌++◌, sym, append-nil, length}
use Rattle.rv_elf.specs.Faults.{number_of}
use Rattle.rv_elf.specs.declared.fault.ElfFault.{ElfFault}
use Rattle.rv_spec.specs.Elf.{first_fault, image}
use Rattle.rv_spec.specs.Run.{GoesOn}
use Rattle.rv_commands.specs.Commands.{run_words}
use Rattle.rv_commands.specs.CommandLine.{run}
use Rattle.rv_plan.specs.declared.faults.Fault.TheVariants.{Elf}
use Rattle.rv_commands.specs.Lines.{ran_line}
use Rattle.rv_commands.specs.Outcome.{plan_of, run_plan}
use Rattle.rv_plan.proofs.Lemmas.{handed-on, image-refused, performs-done, performs-torn}
use Rattle.rv_commands.proofs.Running.{as-run, run_outcome, run-over-budget, run-reaches}
use Rattle.rv_commands.proofs.run.run.Goals as goal

pub returns-in_err-loaded : goal.returns-in_err-loaded
returns-in_err-loaded g c =
    rw (handed-on c.from_residual.result c.in_err-loaded.field-0.0 c.from_residual.ensures.1) (c.in_err-loaded.ensures (run_plan (run_words c.args.words.now)))

pub returns-in_err-image : goal.returns-in_err-image
returns-in_err-image g c =
    let w = run_words c.args.words.now in
    rw (handed-on c.from_residual-in_err-image.result c.in_err-image.field-0.0 c.from_residual-in_err-image.ensures.1)
    (image-refused w.elf w.input _ _ c.in_ok-loaded.loaded (run_plan w) c.in_err-image.field-0.0 c.in_ok-loaded.ensures
    (subst (λ (bytes : List ℕ). (e : ElfFault) × (c.in_err-image.field-0.0 ≡ Elf e) × (first_fault bytes ≡ Some (number_of e))) c.list.ensures c.in_err-image.ensures.fault))

pub returns-in-Err-Budget : goal.returns-in-Err-Budget
returns-in-Err-Budget g c =
    run-over-budget (run_words c.args.words.now) _ _ c.in_ok-loaded.loaded c.in_ok-loaded.ensures (subst (λ bytes. first_fault bytes ≡ None) c.list.ensures c.in_ok-image.ensures.faultless)
    (subst (λ i. GoesOn i c.in_ok-loaded.loaded.input c.args.words.now.budget) (c.in_ok-image.ensures.image ∙ ap (image c.args.words.now.version) c.list.ensures)
    (subst (λ input. GoesOn c.in_ok-image.image input c.args.words.now.budget) c.list-2.ensures (c.in-Err-Budget.ensures.err c.in-Err-Budget.field-0-is)))

pub returns-in_err-write_files : goal.returns-in_err-write_files
returns-in_err-write_files g c =
    let w = run_words c.args.words.now in
    let ran = c.in-Ok.ran in
    let output : List ℕ = c.list-output.result.now ++ [] in
    rw (handed-on c.from_residual-in_err-write_files.result c.in_err-write_files.field-0.0 c.from_residual-in_err-write_files.ensures.1)
    (performs-torn (plan_of (run w)) _ _ _ (run_outcome w ran.steps ran.end output) c.in_err-write_files.field-0.0 c.in_ok-loaded.ensures.0
    (run-reaches w _ _ c.in_ok-loaded.loaded ran.steps ran.end output c.in_ok-loaded.ensures
    (subst (λ bytes. first_fault bytes ≡ None) c.list.ensures c.in_ok-image.ensures.faultless)
    (as-run c.in_ok-image.image (image w.version c.in_ok-loaded.loaded.elf) c.list-2.result.now c.in_ok-loaded.loaded.input w.budget ran.steps ran.end output
    (c.in_ok-image.ensures.image ∙ ap (image w.version) c.list.ensures) c.list-2.ensures c.in-Ok.ensures.ok.ends c.in-Ok.ensures.ok.within
    (append-nil c.list-output.result.now ∙ c.list-output.ensures ∙ c.in-Ok.ensures.ok.output)))
    c.in_err-write_files.ensures)

pub returns : goal.returns
returns g c =
    let w = run_words c.args.words.now in
    let ran = c.in-Ok.ran in
    let output : List ℕ = c.list-output.result.now ++ [] in
    performs-done (plan_of (run w)) _ _ _ _ (run_outcome w ran.steps ran.end output) c.in_ok-loaded.ensures.0
    (run-reaches w _ _ c.in_ok-loaded.loaded ran.steps ran.end output c.in_ok-loaded.ensures
    (subst (λ bytes. first_fault bytes ≡ None) c.list.ensures c.in_ok-image.ensures.faultless)
    (as-run c.in_ok-image.image (image w.version c.in_ok-loaded.loaded.elf) c.list-2.result.now c.in_ok-loaded.loaded.input w.budget ran.steps ran.end output
    (c.in_ok-image.ensures.image ∙ ap (image w.version) c.list.ensures) c.list-2.ensures c.in-Ok.ensures.ok.ends c.in-Ok.ensures.ok.within
    (append-nil c.list-output.result.now ∙ c.list-output.ensures ∙ c.in-Ok.ensures.ok.output)))
    refl
    (c.in-Ok-ran_line.ensures ∙ ap (λ (bytes : List ℕ). ran_line ran.steps ran.end (length bytes)) (sym (append-nil c.list-output.result.now)))
    c.in_ok-write_files.ensures
