use Rattle.std.proofs.Common.{◌≡◌, ◌+◌, None, refl, sym, ◌∙◌, ap, subst}
use Rattle.std.proofs.lemmas.Bool.{ne_eqb}
use Rattle.rv_base.specs.declared.record.Place.{Place}
use Rattle.rv_base.specs.declared.record.Seen.{Seen}
use Rattle.rv_isa.specs.Represented.{RepresentsExpected}
use Rattle.rv_rules.specs.Expected.{expected}
use Rattle.rv_rules.specs.RowRules.{due, seen, row_checks, row_rule, place_after}
use Rattle.rv_row.specs.RowReading.{row_view}
use Rattle.rv_rowcheck.specs.RowChecking.{IsPlace}
use Rattle.rv_rowcheck.proofs.AfterRow.{next-place}
use Rattle.rv_rowcheck.proofs.checking.check_row.Goals as goal

pub returns-then-row-place-clause-answer : goal.returns-then-row-place-clause-answer
unfolding row_checks
returns-then-row-place-clause-answer c = rw (ne_eqb c.args.row.now.pc c.args.place.pc c.if-row-place.true) refl

module _ (c : goal.After-place_after) where
  -- what was expected is what is due
  as-due : RepresentsExpected (due c.args.version (row_view c.args.row.now) c.args.place c.args.input.now) c.expect-due.result
  as-due = subst (λ (v : Seen). RepresentsExpected (expected c.args.version c.args.row.now.pc v c.args.input.now c.args.place.input) c.expect-due.result)
      (c.seen-seen.ensures ∙ ap seen c.as_slice.ensures.value) c.expect-due.ensures

  none-broken : row_rule c.args.version (row_view c.args.row.now) c.args.step c.args.place c.args.last c.args.input.now c.args.output.now ≡ None
  none-broken = sym (c.broken.ensures c.args.version c.args.input.now c.if-row-place.false as-due) ∙ c.in-None.is

  is-after : c.place_after.result ≡ place_after c.args.version (row_view c.args.row.now) c.args.place c.args.input.now
  unfolding place_after
  is-after = c.place_after.ensures ∙ (λ i. record { pc = as-due.next i; input = c.args.place.input + as-due.took i; output = c.args.place.output + as-due.put i })

pub returns-in-None-clause-answer : goal.returns-in-None-clause-answer
returns-in-None-clause-answer c = (none-broken c, is-after c)

pub returns-in-None-clause-next : goal.returns-in-None-clause-next
returns-in-None-clause-next c =
    subst (λ (p : Place). IsPlace p c.args.input.now c.args.output.now) (sym (is-after c))
    (next-place c.args.version (row_view c.args.row.now) c.args.step c.args.place c.args.last c.args.input.now c.args.output.now (none-broken c) c.requires.place)
