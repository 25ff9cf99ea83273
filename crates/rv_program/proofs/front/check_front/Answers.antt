use Rattle.std.proofs.Common.{Ok, Err, sym, ap, ◌∙◌}
use Rattle.rv_rules.specs.Checks.{refused_by}
use Rattle.rv_rules.specs.Reading.{header_of}
use Rattle.rv_program.proofs.front.check_front.Goals as goal

pub returns-in-Ok-clause-exact : goal.returns-in-Ok-clause-exact
returns-in-Ok-clause-exact c lanes = ap (λ h. Ok h) c.in-Ok.ensures.value ∙ ap (λ o. refused_by 0 0 o (header_of c.args.file.now)) (sym (c.in-Ok.ensures.rule lanes))

pub returns-in-Err-clause-exact : goal.returns-in-Err-clause-exact
returns-in-Err-clause-exact c lanes = ap (λ r. Err r) c.at.ensures ∙ ap (λ o. refused_by 0 0 o (header_of c.args.file.now)) (sym (c.in-Err.ensures.rule lanes))
