use Rattle.std.proofs.Common.{◌-◌, arith}
use Rattle.std.proofs.lemmas.List.{get_or_default}
use Rattle.rv_elf.proofs.index.last_begun.Goals as goal

pub returns-in-0 : goal.returns-in-0
returns-in-0 c = (c.begun.result, c.begun.ensures, c.in-0.is)

pub returns-in_default : goal.returns-in_default
returns-in_default c =
    let bound = c.begun.ensures.bound in
    (c.begun.result, c.begun.ensures, ((omega arith), λ d. get_or_default c.args.index.now (c.begun.result - 1) d _ (omega arith)))
