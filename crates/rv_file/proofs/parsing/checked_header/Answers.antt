use Rattle.std.proofs.Common.{Ok, Err, sym, ap, ◌∙◌, arith}
use Rattle.rv_base.specs.declared.record.Header.{Header}
use Rattle.rv_rules.specs.Reading.{header_of}
use Rattle.rv_rules.specs.Checks.{refused_by}
use Rattle.rv_file.proofs.HeaderChecks.{room}
use Rattle.rv_file.proofs.parsing.checked_header.Goals as goal

pub header_fields-requires : goal.header_fields-requires
header_fields-requires c = (room c.args.file.now (sym c.in-None.ensures)).0

pub returns-in-Some-clause-exact : goal.returns-in-Some-clause-exact
returns-in-Some-clause-exact c = ap (λ o. refused_by 0 0 o (header_of c.args.file.now)) (sym c.in-Some.ensures) ∙ ap (λ r. Err r) (sym c.at.ensures)

pub returns-in-None-clause-exact : goal.returns-in-None-clause-exact
returns-in-None-clause-exact c = ap (λ o. refused_by 0 0 o (header_of c.args.file.now)) (sym c.in-None.ensures) ∙ (λ t. Ok (sym c.header_fields.ensures t))

pub returns-in-None-clause-room : goal.returns-in-None-clause-room
returns-in-None-clause-room c = omega (arith, (room c.args.file.now (sym c.in-None.ensures)).1, ap (λ (k : Header). k.length) c.header_fields.ensures)
