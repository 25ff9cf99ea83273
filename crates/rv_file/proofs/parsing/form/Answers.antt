use Rattle.std.proofs.Common.{◌∷◌, [], Err, sym, ap, ◌∙◌}
use Rattle.std.proofs.lemmas.Result.{err_from_is_err_and}
use Rattle.rv_base.specs.declared.rules.TheConstants.{TRAILING}
use Rattle.rv_rules.specs.Checks.{unless_broken}
use Rattle.rv_file.proofs.FormSteps.{header-refused, shards-refused, count-refused, entries-refused, reaches-end}
use Rattle.rv_file.proofs.parsing.form.Goals as goal

pub returns-in_err-header : goal.returns-in_err-header
returns-in_err-header c =
    let p = err_from_is_err_and c.from_residual.result c.from_residual.ensures.1 in
    rw (p.1, p.2) (header-refused c.args.file.now c.in_err-header.field-0.0 c.in_err-header.ensures.exact)

pub returns-in_err-table : goal.returns-in_err-table
returns-in_err-table c =
    let p = err_from_is_err_and c.from_residual-in_err-table.result c.from_residual-in_err-table.ensures.1 in
    rw (p.1, p.2) (shards-refused c.args.file.now c.shards_of-shards.result.now c.in_ok-header.header c.in_err-table.field-0.0 c.in_ok-header.ensures.exact c.shards_of-shards.ensures c.in_err-table.ensures)

pub returns-in_err-entries : goal.returns-in_err-entries
returns-in_err-entries c =
    let p = err_from_is_err_and c.from_residual-in_err-entries.result c.from_residual-in_err-entries.ensures.1 in
    rw (p.1, p.2) (count-refused c.args.file.now c.shards_of-shards.result.now c.in_ok-table.table.now c.in_ok-header.header c.in_err-entries.field-0.0 c.in_ok-header.ensures.exact c.shards_of-shards.ensures c.in_ok-table.ensures c.in_err-entries.ensures.exact)

pub returns-in_err-rest : goal.returns-in_err-rest
returns-in_err-rest c =
    let p = err_from_is_err_and c.from_residual-in_err-rest.result c.from_residual-in_err-rest.ensures.1 in
    rw (p.1, p.2) (entries-refused c.args.file.now c.shards_of-shards.result.now c.in_ok-table.table.now c.in_ok-entries.entries.now c.in_ok-header.header c.get32-count.result c.in_err-rest.field-0.0
    c.in_ok-header.ensures.exact c.shards_of-shards.ensures c.in_ok-table.ensures c.in_ok-entries.ensures.exact c.get32-count.ensures c.in_err-rest.ensures)

pub returns-then-not-is_empty : goal.returns-then-not-is_empty
returns-then-not-is_empty c =
    let h = c.in_ok-header.header in
    let count = c.get32-count.result in
    reaches-end c.args.file.now c.shards_of-shards.result.now c.in_ok-table.table.now c.in_ok-entries.entries.now c.in_ok-rest.rest.now h count
    c.in_ok-header.ensures.exact c.shards_of-shards.ensures c.in_ok-table.ensures c.in_ok-entries.ensures.exact c.get32-count.ensures c.in_ok-rest.ensures
    ∙ ap (λ b. unless_broken h.shards count ((TRAILING, b) ∷ []) (h, count)) (sym c.is_empty.ensures ∙ c.if-not-is_empty.true) ∙ ap (λ r. Err r) (sym c.at.ensures)

pub returns : goal.returns
returns c =
    let h = c.in_ok-header.header in
    let count = c.get32-count.result in
    reaches-end c.args.file.now c.shards_of-shards.result.now c.in_ok-table.table.now c.in_ok-entries.entries.now c.in_ok-rest.rest.now h count
    c.in_ok-header.ensures.exact c.shards_of-shards.ensures c.in_ok-table.ensures c.in_ok-entries.ensures.exact c.get32-count.ensures c.in_ok-rest.ensures
    ∙ ap (λ b. unless_broken h.shards count ((TRAILING, b) ∷ []) (h, count)) (sym c.is_empty.ensures ∙ c.if-not-is_empty.false)
