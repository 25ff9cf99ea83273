use Rattle.std.proofs.Common.{◌∙◌, ◌-◌, Err, Ok, Some, ap, sym, refl, drop, arith}
use Rattle.rv_base.specs.declared.record.Refusal.{Refusal}
use Rattle.rv_reading.specs.Machine.{Sums}
use Rattle.rv_reading.specs.Machine.Phase.{Rows}
use Rattle.rv_judge.specs.Phases.{totals_of}
use Rattle.rv_judge.proofs.ShardSums.{nothing-taken}
use Rattle.rv_judge.proofs.StepFound.{head-short, head-other, head-went, rows-fit}
use Rattle.rv_judge.proofs.phases.Machine.begin_shard.Goals as goal

pub returns-in_default : goal.returns-in_default
returns-in_default c = λ lanes.
    let m = c.args.self.now in
    let found = head-short lanes c.args.subject.now c.args.left c.args.shard m.place (totals_of lanes m.all) c.args.bytes.now c.requires.some c.in_default.ensures in
    (found ∙ ap (λ (x : Refusal). Err x) (sym c.at.ensures), refl)

pub returns-then-not-is_head : goal.returns-then-not-is_head
returns-then-not-is_head c = λ lanes.
    let m = c.args.self.now in
    let found =
    head-other lanes c.args.subject.now c.args.left c.args.shard m.place (totals_of lanes m.all) c.args.bytes.now c.in-Some.head c.rows_of-rows.result c.requires.some c.in-Some.ensures.0 c.in-Some.ensures.1 c.rows_of-rows.ensures
    (sym c.is_head.ensures ∙ c.if-not-is_head.true) in
    (found ∙ ap (λ (x : Refusal). Err x) (sym c.at-then-not-is_head.ensures), refl)

pub returns : goal.returns
returns c = λ lanes.
    let m = c.args.self.now in
    record {
      found =
          head-went lanes c.args.subject.now c.args.left c.args.shard m.place (totals_of lanes m.all) c.args.bytes.now c.in-Some.head c.rows_of-rows.result c.requires.some c.in-Some.ensures.0 c.in-Some.ensures.1 c.rows_of-rows.ensures
          (sym c.is_head.ensures ∙ c.if-not-is_head.false)
          ∙ ap (λ (z : Sums). Ok (Some (Rows c.rows_of-rows.result 0 (c.args.left - 1) c.args.shard (record { head = c.in-Some.head; bytes = 0; sums = z }) m.place (totals_of lanes m.all), drop 32 c.args.bytes.now)))
          (nothing-taken lanes c.clear.new.self (c.clear.ensures lanes));
      taken = c.in-Some.ensures.0;
      fits = record {
        within = c.requires.fits.within;
        place = c.requires.fits.place;
        phase = record {
          shards = omega (arith, c.requires.some, c.requires.fits.phase);
          rows = omega (arith, c.rows_of-rows.ensures, rows-fit lanes c.args.subject.now c.args.shard);
          bytes = omega arith;
        };
      };
    }
