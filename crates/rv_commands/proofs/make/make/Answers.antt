use Rattle.std.proofs.Common.{◌≡◌, ◌∙◌, ap, subst, List, ℕ, Some, None, Ok, Err}
use Rattle.rv_elf.specs.Faults.{number_of}
use Rattle.rv_elf.specs.declared.fault.ElfFault.{ElfFault}
use Rattle.rv_spec.specs.Elf.{first_fault, image}
use Rattle.rv_plan.specs.declared.faults.Fault.TheVariants.{Elf}
use Rattle.rv_plan.proofs.Lemmas.{handed-on, image-refused}
use Rattle.rv_commands.specs.Commands.{make_words}
use Rattle.rv_commands.specs.Outcome.{make_plan}
use Rattle.rv_commands.proofs.Making.{make-made, make-performs, no-survey, task-due}
use Rattle.rv_commands.proofs.make.make.Goals as goal

pub returns-in_err-loaded-clause-performs : goal.returns-in_err-loaded-clause-performs
returns-in_err-loaded-clause-performs g c =
    rw (handed-on c.from_residual.result c.in_err-loaded.field-0.0 c.from_residual.ensures.1) (c.in_err-loaded.ensures (make_plan (make_words c.args.words.now)))

pub returns-in_err-image-clause-performs : goal.returns-in_err-image-clause-performs
returns-in_err-image-clause-performs g c =
    let w = make_words c.args.words.now in
    rw (handed-on c.from_residual-in_err-image.result c.in_err-image.field-0.0 c.from_residual-in_err-image.ensures.1)
    (image-refused w.elf w.input _ _ c.in_ok-loaded.loaded (make_plan w) c.in_err-image.field-0.0 c.in_ok-loaded.ensures
    (subst (λ (bytes : List ℕ). (e : ElfFault) × (c.in_err-image.field-0.0 ≡ Elf e) × (first_fault bytes ≡ Some (number_of e))) c.list.ensures c.in_err-image.ensures.fault))

pub returns-in_err-points-clause-performs : goal.returns-in_err-points-clause-performs
returns-in_err-points-clause-performs g c =
    let w = make_words c.args.words.now in
    rw (handed-on c.from_residual-in_err-points.result c.in_err-points.field-0.0 c.from_residual-in_err-points.ensures.1)
    (make-performs w _ _ _ c.in_ok-loaded.loaded (Err c.in_err-points.field-0.0) c.in_ok-loaded.ensures (subst (λ (bytes : List ℕ). first_fault bytes ≡ None) c.list.ensures c.in_ok-image.ensures.faultless)
    (no-survey w c.in_ok-loaded.loaded c.in_ok-image.image c.list-2.result.now _ c.in_err-points.field-0.0 (c.in_ok-image.ensures.image ∙ ap (image w.version) c.list.ensures) c.list-2.ensures c.in_err-points.ensures.err))

pub record_alone-requires-clause-due : goal.record_alone-requires-clause-due
record_alone-requires-clause-due g c = λ κs lives.
    let w = make_words c.args.words.now in
    task-due w c.in_ok-loaded.loaded c.in_ok-image.image c.list-2.result.now c.in_ok-points.points _ (subst (λ (bytes : List ℕ). first_fault bytes ≡ None) c.list.ensures c.in_ok-image.ensures.faultless)
    (c.in_ok-image.ensures.image ∙ ap (image w.version) c.list.ensures) c.list-2.ensures c.in_ok-points.ensures.ok c.new-task.ensures

pub returns-in_err-told-clause-performs : goal.returns-in_err-told-clause-performs
returns-in_err-told-clause-performs g c =
    let w = make_words c.args.words.now in
    rw (handed-on c.from_residual-in_err-told.result c.in_err-told.field-0.0 c.from_residual-in_err-told.ensures.1)
    (make-performs w _ _ _ c.in_ok-loaded.loaded (Err c.in_err-told.field-0.0) c.in_ok-loaded.ensures (subst (λ (bytes : List ℕ). first_fault bytes ≡ None) c.list.ensures c.in_ok-image.ensures.faultless) c.in_err-told.ensures.performs)

pub returns-clause-performs : goal.returns-clause-performs
returns-clause-performs g c =
    let w = make_words c.args.words.now in
    make-performs w _ _ _ c.in_ok-loaded.loaded (Ok c.in_ok-told.told) c.in_ok-loaded.ensures (subst (λ (bytes : List ℕ). first_fault bytes ≡ None) c.list.ensures c.in_ok-image.ensures.faultless) c.in_ok-told.ensures.performs

pub returns-clause-headline : goal.returns-clause-headline
returns-clause-headline g c = λ status. make-made (make_words c.args.words.now) _ _ _ c.in_ok-loaded.loaded c.in_ok-loaded.ensures c.in_ok-told.ensures.recorded
