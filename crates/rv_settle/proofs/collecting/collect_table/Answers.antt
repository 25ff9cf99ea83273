use Rattle.std.proofs.Common.{List, sym, subst, ◌∙◌, arith}
use Rattle.std.proofs.lemmas.List.{take_all}
use Rattle.rv_base.specs.declared.record.TableEntry.{TableEntry}
use Rattle.rv_spec.specs.Elf.{image}
use Rattle.rv_spec.specs.Cells.{initial_value}
use Rattle.rv_settle.specs.Collecting.{GainsEntries}
use Rattle.rv_settle.proofs.Places.{got-at}
use Rattle.rv_settle.proofs.Gaining.{entries-more}
use Rattle.rv_settle.proofs.collecting.collect_table.Goals as goal

pub loop-j-preserved : goal.loop-j-preserved
loop-j-preserved c version =
    let es = c.args.parsed.now.table in
    entries-more (initial_value (image version c.args.program.now.elf)) c.args.tuples.now c.loop-j.tuples c.collect_entry.new.tuples c.loop-j.j es c.in-Some.entry
    (got-at es c.loop-j.j c.in-Some.entry (sym c.entry.ensures ∙ c.in-Some.is))
    (c.loop-j.invariant version)
    (c.in_ok-collect_entry.ensures version)

pub returns : goal.returns
returns c version =
    let es = c.args.parsed.now.table in
    subst (λ (fs : List TableEntry). GainsEntries (initial_value (image version c.args.program.now.elf)) c.args.tuples.now c.loop-j.tuples fs)
    (take_all c.loop-j.j es (omega (arith, c.loop-j-test.false, c.entries-j-end.ensures)))
    (c.loop-j.invariant version)
