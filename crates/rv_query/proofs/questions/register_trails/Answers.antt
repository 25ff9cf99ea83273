use Rattle.std.proofs.Common.{◌≡◌, ℕ, [], map, ap, sym, subst, ◌∙◌, refl, arith}
use Rattle.std.specs.List.{range_with_len}
use Rattle.rv_spec.specs.Cells.{initial_value, register_cell}
use Rattle.rv_spec.specs.Elf.{image}
use Rattle.rv_query.specs.Following.{trail}
use Rattle.rv_query.specs.declared.trail.Trail.{Trail}
use Rattle.rv_query.proofs.Trails.{no_trail}
use Rattle.rv_query.proofs.Filled.{filled-more, all-filled}
use Rattle.rv_query.proofs.questions.register_trails.Goals as goal

pub loop-r-init : goal.loop-r-init
loop-r-init c version until = record { long = refl; each = λ j less. absurd (omega (arith, less)) }

pub loop-r-preserved : goal.loop-r-preserved
loop-r-preserved c version until =
    let cell = register_cell c.loop-r.r in
    filled-more (λ r. trail (initial_value (image version c.args.program.now.elf) (register_cell r)) [] (register_cell r) until) no_trail 32 c.loop-r.r c.loop-r.trails c.of.result c.loop-r-test.true
    (c.of.ensures cell until ∙ ap (λ v. trail v [] cell until) (c.initial_value.ensures version)) (c.loop-r.invariant version until)

pub returns-clause-first : goal.returns-clause-first
returns-clause-first c version until =
    let here : ℕ → Trail = λ r. trail (initial_value (image version c.args.program.now.elf) (register_cell r)) [] (register_cell r) until in
    let filled = c.loop-r.invariant version until in
    subst (λ n. c.loop-r.trails ≡ map here (range_with_len 0 n)) (sym filled.long) (all-filled here no_trail 32 c.loop-r.r c.loop-r.trails c.loop-r-test.false filled)

pub returns-clause-count : goal.returns-clause-count
returns-clause-count c = (c.loop-r.invariant 1 0).long
