use Rattle.std.proofs.Common.{◌≡◌, ◌∙◌, ◌+◌, ◌-◌, [], ◌∷◌, true, Err, Ok, Some, None, ap, sym, refl, drop, arith}
use Rattle.rv_base.specs.declared.record.Refusal.{Refusal}
use Rattle.rv_base.specs.declared.record.TableEntry.{TableEntry}
use Rattle.rv_base.specs.declared.record.Tuple.{Tuple}
use Rattle.rv_rules.specs.Reading.{entry_of}
use Rattle.rv_spec.specs.Tuples.{tuple_last}
use Rattle.rv_reading.specs.Machine.{Sums, first_tuple, with_tuples}
use Rattle.rv_reading.specs.Machine.Phase.{Entries}
use Rattle.rv_judge.specs.Phases.{totals_of}
use Rattle.rv_judge.proofs.StepFound.{entry-short, entry-false, entry-went, entry-rule}
use Rattle.rv_judge.proofs.phases.Machine.entry.Goals as goal

pub returns-then-bytes-lt-ENTRY_BYTES : goal.returns-then-bytes-lt-ENTRY_BYTES
returns-then-bytes-lt-ENTRY_BYTES g c =
    let found = entry-short g.L.Lanes.lanes c.args.subject.now c.args.next c.args.before c.args.self.now.place (totals_of g.L.Lanes.lanes c.args.self.now.all) c.args.bytes.now c.args.left c.requires.some c.if-bytes-lt-ENTRY_BYTES.true in
    let is : record { shard = c.args.subject.now.header.shards; row = c.args.next; rule = 1 } ≡ c.at.result = cc in
    (found ∙ ap (λ (r : Refusal). Err r) is, refl)

pub returns-in-Some : goal.returns-in-Some
returns-in-Some g c =
    let m = c.args.self.now in
    let broken = entry-rule c.args.before c.header-header.result.now c.args.subject.now.header c.entry_at-entry.result (entry_of c.args.bytes.now) (Some c.in-Some.rule) c.header-header.ensures.value c.entry_at-entry.ensures (sym c.broken_entry.ensures ∙ c.in-Some.is) in
    let found =
    entry-false g.L.Lanes.lanes c.args.subject.now c.args.next c.args.before m.place (totals_of g.L.Lanes.lanes m.all) c.args.bytes.now c.args.left c.in-Some.rule c.requires.some c.if-bytes-lt-ENTRY_BYTES.false broken in
    let is : record { shard = c.args.subject.now.header.shards; row = c.args.next; rule = c.in-Some.rule } ≡ c.at-in-Some.result = cc in
    (found ∙ ap (λ (r : Refusal). Err r) is, refl)

pub returns : goal.returns
returns g c =
    let m = c.args.self.now in
    let s = c.args.subject.now in
    let e = entry_of c.args.bytes.now in
    let broken = entry-rule c.args.before c.header-header.result.now s.header c.entry_at-entry.result e None c.header-header.ensures.value c.entry_at-entry.ensures (sym c.broken_entry.ensures ∙ c.in_default.is) in
    let first : Tuple = first_tuple s.elf s.header c.entry_at-entry.result in
    let added : with_tuples true g.L.Lanes.lanes (totals_of g.L.Lanes.lanes m.all) (tuple_last c.entry_at-entry.result ∷ []) (first ∷ []) ≡ totals_of g.L.Lanes.lanes c.add.new.self =
    ap (λ (t : Tuple). with_tuples true g.L.Lanes.lanes (totals_of g.L.Lanes.lanes m.all) (tuple_last c.entry_at-entry.result ∷ []) (t ∷ [])) (sym c.first_tuple.ensures) ∙ sym c.add.ensures in
    record {
      found =
          entry-went g.L.Lanes.lanes s c.args.next c.args.before m.place (totals_of g.L.Lanes.lanes m.all) c.args.bytes.now c.args.left c.requires.some c.if-bytes-lt-ENTRY_BYTES.false broken
          ∙ ap (λ (z : TableEntry). Ok (Some (Entries (c.args.left - 1) (c.args.next + 1) (Some z.cell) m.place (with_tuples true g.L.Lanes.lanes (totals_of g.L.Lanes.lanes m.all) (tuple_last z ∷ []) (first_tuple s.elf s.header z ∷ [])), drop 16 c.args.bytes.now)))
          (sym c.entry_at-entry.ensures)
          ∙ ap (λ (z : Sums). Ok (Some (Entries (c.args.left - 1) (c.args.next + 1) (Some c.entry_at-entry.result.cell) m.place z, drop 16 c.args.bytes.now))) added;
      taken = c.if-bytes-lt-ENTRY_BYTES.false;
      fits = record { within = c.requires.fits.within; place = c.requires.fits.place; phase = omega (arith, c.requires.some, c.requires.fits.phase) };
    }
