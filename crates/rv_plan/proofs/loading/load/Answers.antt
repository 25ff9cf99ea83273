use Rattle.std.proofs.lemmas.Result.{err_from_is_err_and}
use Rattle.rv_plan.proofs.Plans.{both-loaded, elf-refused, input-refused}
use Rattle.rv_plan.proofs.loading.load.Goals as goal

pub returns-in_err-elf : goal.returns-in_err-elf
returns-in_err-elf g c =
    let p = err_from_is_err_and c.from_residual.result c.from_residual.ensures.1 in
    rw (p.1, p.2) (elf-refused c.args.elf.now c.args.input.now _ _ c.in_err-elf.field-0.0 c.in_err-elf.ensures)

pub returns-in_err-input : goal.returns-in_err-input
returns-in_err-input g c =
    let p = err_from_is_err_and c.from_residual-in_err-input.result c.from_residual-in_err-input.ensures.1 in
    rw (p.1, p.2) (input-refused c.args.elf.now c.args.input.now _ _ _ _ c.in_err-input.field-0.0 c.in_ok-elf.ensures c.in_err-input.ensures)

pub returns : goal.returns
returns g c = both-loaded c.args.elf.now c.args.input.now _ _ _ _ c.in_ok-elf.ensures c.in_ok-input.ensures
