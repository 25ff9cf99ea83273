use Rattle.std.proofs.Common.{◌≡◌, ◌∙◌, Err, Ok, Some, None, ap, sym, refl, drop, arith}
use Rattle.rv_base.specs.declared.record.Refusal.{Refusal}
use Rattle.rv_reading.specs.Machine.Phase.{Entries}
use Rattle.rv_judge.specs.Phases.{totals_of}
use Rattle.rv_judge.proofs.StepFound.{count-short, count-went}
use Rattle.rv_judge.proofs.phases.Machine.begin_table.Goals as goal

pub returns-then-bytes-lt-COUNT_BYTES : goal.returns-then-bytes-lt-COUNT_BYTES
returns-then-bytes-lt-COUNT_BYTES c = λ lanes.
    let found = count-short lanes c.args.subject.now c.args.next c.args.self.now.place (totals_of lanes c.args.self.now.all) c.args.bytes.now c.if-bytes-lt-COUNT_BYTES.true in
    let is : record { shard = c.args.subject.now.header.shards; row = 0; rule = 1 } ≡ c.at.result = cc in
    (found ∙ ap (λ (r : Refusal). Err r) is, refl)

pub returns : goal.returns
returns c = λ lanes. record {
  found =
      count-went lanes c.args.subject.now c.args.next c.args.self.now.place (totals_of lanes c.args.self.now.all) c.args.bytes.now c.if-bytes-lt-COUNT_BYTES.false
      ∙ ap (λ n. Ok (Some (Entries n 0 None c.args.self.now.place (totals_of lanes c.args.self.now.all), drop 4 c.args.bytes.now))) (sym c.get32.ensures);
  taken = c.if-bytes-lt-COUNT_BYTES.false;
  fits = record { within = c.requires.within; place = c.requires.place; phase = omega (arith, c.get32.type_inv) };
}
