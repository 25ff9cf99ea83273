use Rattle.std.proofs.Common.{arith}
use Rattle.std.proofs.lemmas.Result.{err_from_is_err_and}
use Rattle.rv_rules.proofs.Lemmas.{bytes-are}
use Rattle.rv_file.proofs.ParseLaws.{form-err, form-ok, form-shows, form-only, err-only}
use Rattle.rv_file.proofs.parsing.parse.Goals as goal

pub returns-in_err-header-clause-exact : goal.returns-in_err-header-clause-exact
returns-in_err-header-clause-exact c =
    let p = err_from_is_err_and c.from_residual.result c.from_residual.ensures.1 in
    rw (p.1, p.2) (form-err c.args.file.now c.in_err-header.field-0.0 (bytes-are c.args.file.now (λ i. omega (arith, c.type_inv.file i))) c.in_err-header.ensures)

pub returns-in_err-header-clause-spelled : goal.returns-in_err-header-clause-spelled
returns-in_err-header-clause-spelled c =
    let p = err_from_is_err_and c.from_residual.result c.from_residual.ensures.1 in
    rw p.1 tt

pub returns-in_err-header-clause-only : goal.returns-in_err-header-clause-only
returns-in_err-header-clause-only c =
    let p = err_from_is_err_and c.from_residual.result c.from_residual.ensures.1 in
    rw p.1 (err-only c.args.file.now c.in_err-header.field-0.0 (bytes-are c.args.file.now (λ i. omega (arith, c.type_inv.file i))) c.in_err-header.ensures)

pub invariant_of-result : goal.invariant_of-result
invariant_of-result c = form-shows c.args.file.now c.in_ok-header.header c.in_ok-header.entries (bytes-are c.args.file.now (λ i. omega (arith, c.type_inv.file i))) c.in_ok-header.ensures

pub returns-clause-exact : goal.returns-clause-exact
returns-clause-exact c = form-ok c.args.file.now c.in_ok-header.header c.in_ok-header.entries (bytes-are c.args.file.now (λ i. omega (arith, c.type_inv.file i))) c.in_ok-header.ensures

pub returns-clause-spelled : goal.returns-clause-spelled
returns-clause-spelled c = (form-shows c.args.file.now c.in_ok-header.header c.in_ok-header.entries (bytes-are c.args.file.now (λ i. omega (arith, c.type_inv.file i))) c.in_ok-header.ensures).spells

pub returns-clause-only : goal.returns-clause-only
returns-clause-only c = form-only c.args.file.now c.in_ok-header.header c.in_ok-header.entries (bytes-are c.args.file.now (λ i. omega (arith, c.type_inv.file i))) c.in_ok-header.ensures
