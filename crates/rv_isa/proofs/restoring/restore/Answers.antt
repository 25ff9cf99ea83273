use Rattle.std.proofs.Common.{ℕ, List, get_or, refl, sym, ◌∙◌, ap}
use Rattle.rv_base.specs.declared.record.TableEntry.{TableEntry}
use Rattle.rv_spec.specs.Elf.{Image}
use Rattle.rv_mem.specs.Contents.{value_at, time_at}
use Rattle.rv_isa.specs.Resumed.{IsKnown}
use Rattle.rv_isa.proofs.Restored.{value-more, time-more, value-first, time-first, none-listed, known-one, words-more}
use Rattle.rv_isa.proofs.restoring.restore.Goals as goal

no-entry : TableEntry
no-entry = record { cell = 0; value = 0; time = 0 }

pub loop-entry-init : goal.loop-entry-init
loop-entry-init c = record {
  image = refl;
  values = λ cell. (none-listed c.args.memory.now cell c.requires.unused).0;
  words = tt;
  times = λ cell. (none-listed c.args.memory.now cell c.requires.unused).1;
}

pub restore_cell-requires-clause-unused : goal.restore_cell-requires-clause-unused
unfolding no-entry
restore_cell-requires-clause-unused c =
    let es : List TableEntry = c.args.entries.now in
    let i : ℕ = c.loop-entry.entry-index in
    c.loop-entry.invariant.times (get_or es i no-entry).cell ∙ time-first c.args.memory.now.image es i no-entry c.loop-entry-test.true c.requires.rising

pub restore_cell-requires-clause-held : goal.restore_cell-requires-clause-held
unfolding no-entry
restore_cell-requires-clause-held c none =
    let es : List TableEntry = c.args.entries.now in
    let i : ℕ = c.loop-entry.entry-index in
    let known : IsKnown c.args.memory.now.image (get_or es i no-entry) = known-one c.args.memory.now.image es i no-entry c.loop-entry-test.true c.requires.known in
    known.unused none ∙ sym (c.loop-entry.invariant.values (get_or es i no-entry).cell ∙ value-first c.args.memory.now.image es i no-entry c.loop-entry-test.true c.requires.rising)

pub loop-entry-preserved : goal.loop-entry-preserved
unfolding no-entry
loop-entry-preserved c =
    let es : List TableEntry = c.args.entries.now in
    let i : ℕ = c.loop-entry.entry-index in
    let l = c.loop-entry.invariant in
    let im : Image = c.args.memory.now.image in
    let set = c.in_ok-restore_cell.ensures.set in
    record {
      image = c.restore_cell.ensures.image ∙ l.image;
      values = λ cell.
          value-more im es i no-entry c.loop-entry-test.true c.requires.rising cell _ _ (l.values cell) (λ same. (ap (value_at c.restore_cell.new.memory) same ∙ set.value_set)) (λ other. set.other_values cell other);
      words = words-more es i no-entry c.loop-entry-test.true l.words c.restore_cell.ensures.word;
      times = λ cell.
          time-more im es i no-entry c.loop-entry-test.true c.requires.rising cell _ _ (l.times cell) (λ same. (ap (time_at c.restore_cell.new.memory) same ∙ set.time_set)) (λ other. set.other_times cell other);
    }
