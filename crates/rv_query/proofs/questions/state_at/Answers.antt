use Rattle.std.proofs.Common.{◌<◌, subst, ◌∙◌, inl, inr}
use Rattle.rv_base.specs.declared.record.Header.{Header}
use Rattle.rv_spec.specs.Record.{all_rows}
use Rattle.rv_query.specs.Questions.{image_of}
use Rattle.rv_query.proofs.Answered.{state-answered, state-there}
use Rattle.rv_query.proofs.questions.state_at.Goals as goal

pub returns-clause-exact : goal.returns-clause-exact
returns-clause-exact c =
    let p = c.args.parsed.now in
    let elf = c.args.program.now.elf in
    let within : c.args.step < p.header.steps = subst (λ (h : Header). c.args.step < h.steps) c.header.ensures c.if-step-header.false in
    let begins = c.follow-row.ensures.row in
    state-there elf p c.args.step _ within
    (state-answered (image_of elf p) (all_rows p) c.args.step c.register_trails-trails.result c.follow-row.new.trails c.pc_of.result c.register_values.result
    (c.register_trails-trails.ensures.first p.header.version c.args.step) (c.follow-row.auto.trails ∙ c.register_trails-trails.ensures.count) c.follow-row.ensures.past c.register_values.ensures
    begins.row begins.at (c.pc_of.ensures begins.row begins.rest begins.fits begins.are))

pub returns-clause-of_run : goal.returns-clause-of_run
returns-clause-of_run c lanes file a =
    elim (c.of_run.ensures.states c.args.parsed.now c.args.step lanes file a) [ inl of ↦ inl (λ within. returns-clause-exact c ∙ of within) | inr col ↦ inr col ]
