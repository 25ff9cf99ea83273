use Rattle.std.proofs.Common.{◌≡◌, ℕ, length, refl, ap, sym, subst, ◌∙◌}
use Rattle.rv_program.specs.Files.{Files}
use Rattle.rv_gen.specs.Runs.{Succeeds}
use Rattle.rv_trial.proofs.Told.{accepted-is, files_of, in-budget, told-is}
use Rattle.rv_trial.proofs.trials.trial.Goals as goal

pub surveyed-requires : goal.surveyed-requires
surveyed-requires c =
    in-budget c.args.size c.opened-program.result (subst (λ (f : Files). Succeeds c.args.size f.elf f.input) (sym c.opened-program.ensures) c.in_ok-made.ensures.succeeds)

pub returns-clause-told : goal.returns-clause-told
returns-clause-told c =
    let f = c.opened-program.result in
    let p = c.in_ok-points.points in
    let is : f ≡ files_of c.args.number c.args.size = c.opened-program.ensures ∙ (λ i. record { elf = c.in_ok-made.ensures.elf i; input = c.in_ok-made.ensures.input i }) in
    told-is c.args.number c.args.size f p is c.in_ok-points.ensures _ _ _ _ _ _ c.as_slice-file.result.now
    (ap (λ (x : ℕ × ℕ). x.0) c.accepted-steps.ensures.told) (ap (λ (x : ℕ × ℕ). x.1) c.accepted-steps.ensures.told) c.in_ok-recorded.ensures.accesses (ap length c.output.ensures) refl c.fingerprint.ensures
    (c.as_slice-file.ensures.value ∙ c.in_ok-recorded.ensures.file)

pub returns-clause-accepted : goal.returns-clause-accepted
returns-clause-accepted c =
    let f = c.opened-program.result in
    let p = c.in_ok-points.points in
    let is : f ≡ files_of c.args.number c.args.size = c.opened-program.ensures ∙ (λ i. record { elf = c.in_ok-made.ensures.elf i; input = c.in_ok-made.ensures.input i }) in
    accepted-is c.args.number c.args.size f p is c.in_ok-points.ensures _ c.as_slice-file.result.now (subst (λ (g : Files). Succeeds c.args.size g.elf g.input) (sym c.opened-program.ensures) c.in_ok-made.ensures.succeeds)
    (ap (λ (x : ℕ × ℕ). x.0) c.accepted-steps.ensures.told) (ap (λ (x : ℕ × ℕ). x.1) c.accepted-steps.ensures.told) (c.as_slice-file.ensures.value ∙ c.in_ok-recorded.ensures.file) c.accepted-steps.ensures.verdict
