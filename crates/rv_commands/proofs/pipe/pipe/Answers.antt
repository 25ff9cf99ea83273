use Rattle.std.proofs.Common.{◌≡◌, ◌∙◌, ap, subst, List, ℕ, Some, None, Ok, Err}
use Rattle.rv_elf.specs.Faults.{number_of}
use Rattle.rv_elf.specs.declared.fault.ElfFault.{ElfFault}
use Rattle.rv_spec.specs.Digest.{sha_lanes}
use Rattle.rv_spec.specs.Elf.{first_fault, image}
use Rattle.rv_pipe.specs.Whole.{IsPiped}
use Rattle.rv_plan.specs.declared.faults.Fault.TheVariants.{Elf}
use Rattle.rv_plan.proofs.Lemmas.{handed-on, image-refused}
use Rattle.rv_commands.specs.Commands.{make_words}
use Rattle.rv_commands.specs.Outcome.{make_plan}
use Rattle.rv_commands.proofs.Making.{make-made, make-performs, no-survey}
use Rattle.rv_commands.proofs.pipe.pipe.Goals as goal

pub returns-in_err-loaded-clause-performs : goal.returns-in_err-loaded-clause-performs
returns-in_err-loaded-clause-performs g c =
    rw (handed-on c.from_residual.result c.in_err-loaded.field-0.0 c.from_residual.ensures.1) (c.in_err-loaded.ensures (make_plan (make_words c.args.words.now.make)))

pub returns-in_err-image-clause-performs : goal.returns-in_err-image-clause-performs
returns-in_err-image-clause-performs g c =
    let w = make_words c.args.words.now.make in
    rw (handed-on c.from_residual-in_err-image.result c.in_err-image.field-0.0 c.from_residual-in_err-image.ensures.1)
    (image-refused w.elf w.input _ _ c.in_ok-loaded.loaded (make_plan w) c.in_err-image.field-0.0 c.in_ok-loaded.ensures
    (subst (λ (bytes : List ℕ). (e : ElfFault) × (c.in_err-image.field-0.0 ≡ Elf e) × (first_fault bytes ≡ Some (number_of e))) c.list.ensures c.in_err-image.ensures.fault))

pub returns-in_err-piped-clause-performs : goal.returns-in_err-piped-clause-performs
returns-in_err-piped-clause-performs g c =
    let w = make_words c.args.words.now.make in
    rw (handed-on c.from_residual-in_err-piped.result c.in_err-piped.field-0.0 c.from_residual-in_err-piped.ensures.1)
    (make-performs w _ _ _ c.in_ok-loaded.loaded (Err c.in_err-piped.field-0.0) c.in_ok-loaded.ensures (subst (λ (bytes : List ℕ). first_fault bytes ≡ None) c.list.ensures c.in_ok-image.ensures.faultless)
    (no-survey w c.in_ok-loaded.loaded c.in_ok-image.image c.list-2.result.now _ c.in_err-piped.field-0.0 (c.in_ok-image.ensures.image ∙ ap (image w.version) c.list.ensures) c.list-2.ensures c.in_err-piped.ensures.err))

pub record_piped-requires-clause-faultless : goal.record_piped-requires-clause-faultless
record_piped-requires-clause-faultless g c = subst (λ (bytes : List ℕ). first_fault bytes ≡ None) c.list.ensures c.in_ok-image.ensures.faultless

pub record_piped-requires-clause-piped : goal.record_piped-requires-clause-piped
record_piped-requires-clause-piped g c =
    let w = make_words c.args.words.now.make in
    subst (λ input. IsPiped sha_lanes (image w.version c.in_ok-loaded.loaded.elf) input w.shard w.budget c.in_ok-piped.piped) c.list-2.ensures
    (subst (λ i. IsPiped sha_lanes i c.list-2.result.now w.shard w.budget c.in_ok-piped.piped) (c.in_ok-image.ensures.image ∙ ap (image w.version) c.list.ensures) c.in_ok-piped.ensures.ok)

pub returns-in_err-told-clause-performs : goal.returns-in_err-told-clause-performs
returns-in_err-told-clause-performs g c =
    let w = make_words c.args.words.now.make in
    rw (handed-on c.from_residual-in_err-told.result c.in_err-told.field-0.0 c.from_residual-in_err-told.ensures.1)
    (make-performs w _ _ _ c.in_ok-loaded.loaded (Err c.in_err-told.field-0.0) c.in_ok-loaded.ensures (subst (λ (bytes : List ℕ). first_fault bytes ≡ None) c.list.ensures c.in_ok-image.ensures.faultless) c.in_err-told.ensures.performs)

pub returns-clause-performs : goal.returns-clause-performs
returns-clause-performs g c =
    let w = make_words c.args.words.now.make in
    make-performs w _ _ _ c.in_ok-loaded.loaded (Ok c.in_ok-told.told) c.in_ok-loaded.ensures (subst (λ (bytes : List ℕ). first_fault bytes ≡ None) c.list.ensures c.in_ok-image.ensures.faultless) c.in_ok-told.ensures.performs

pub returns-clause-headline : goal.returns-clause-headline
returns-clause-headline g c = λ status. make-made (make_words c.args.words.now.make) _ _ _ c.in_ok-loaded.loaded c.in_ok-loaded.ensures c.in_ok-told.ensures.recorded
