use Rattle.std.proofs.Common.{◌<◌, [], ap, subst, ◌∙◌, inl, inr}
use Rattle.rv_base.specs.declared.record.Header.{Header}
use Rattle.rv_spec.specs.Record.{all_rows}
use Rattle.rv_query.specs.Questions.{image_of}
use Rattle.rv_query.specs.Following.{trail}
use Rattle.rv_query.proofs.Answered.{cell-answered, cell-there}
use Rattle.rv_query.proofs.questions.cell_at.Goals as goal

pub returns-clause-exact : goal.returns-clause-exact
returns-clause-exact c =
    let p = c.args.parsed.now in
    let elf = c.args.program.now.elf in
    let within : c.args.step < p.header.steps = subst (λ (h : Header). c.args.step < h.steps) c.header.ensures c.if-step-header.false in
    cell-there elf p c.args.cell c.args.step _ within
    (cell-answered (image_of elf p) (all_rows p) c.args.step c.args.cell c.of.result c.follow.new.trails _
    (c.of.ensures c.args.cell c.args.step ∙ ap (λ v. trail v [] c.args.cell c.args.step) (c.initial_value.ensures p.header.version))
    c.follow.auto.trails c.follow.ensures.past)

pub returns-clause-of_run : goal.returns-clause-of_run
returns-clause-of_run c lanes file a =
    elim (c.of_run.ensures.cells c.args.parsed.now c.args.cell c.args.step lanes file a) [ inl of ↦ inl (λ within. returns-clause-exact c ∙ of within) | inr col ↦ inr col ]
