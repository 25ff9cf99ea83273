use Rattle.std.proofs.Common.{true, ◌∙◌, ◌+◌, Err, Ok, Some, ap, sym, refl, drop, arith}
use Rattle.std.proofs.lemmas.Bool.{eq-eqb, ne_eqb}
use Rattle.rv_base.specs.declared.record.Refusal.{Refusal}
use Rattle.rv_reading.specs.Machine.{Sums, with_sums}
use Rattle.rv_reading.specs.Machine.Phase.{Shards}
use Rattle.rv_judge.specs.Phases.{sums_in, totals_of, inside_of}
use Rattle.rv_judge.proofs.ShardSums.{are-stated}
use Rattle.rv_judge.proofs.StepFound.{digests-other, digests-short, digests-false, digests-went}
use Rattle.rv_judge.proofs.phases.Machine.end_shard.Goals as goal

pub returns-then-rows : goal.returns-then-rows
returns-then-rows g c =
    let lanes = g.L.Lanes.lanes in
    let r = c.args.rows in
    let m = c.args.self.now in
    let found = digests-other lanes c.args.subject.now r.left r.next r.behind r.shard (inside_of lanes r m.shard) m.place (totals_of lanes m.all) c.args.bytes.now c.requires.none (ne_eqb r.bytes r.head.bytes c.if-rows.true) in
    (found ∙ ap (λ (x : Refusal). Err x) (sym c.at.ensures), refl)

pub returns-then-bytes-lt-DIGESTS_BYTES : goal.returns-then-bytes-lt-DIGESTS_BYTES
returns-then-bytes-lt-DIGESTS_BYTES g c =
    let lanes = g.L.Lanes.lanes in
    let r = c.args.rows in
    let m = c.args.self.now in
    let found =
    digests-short lanes c.args.subject.now r.left r.next r.behind r.shard (inside_of lanes r m.shard) m.place (totals_of lanes m.all) c.args.bytes.now c.requires.none (eq-eqb r.bytes r.head.bytes c.if-rows.false)
    c.if-bytes-lt-DIGESTS_BYTES.true in
    (found ∙ ap (λ (x : Refusal). Err x) (sym c.at-then-bytes-lt-DIGESTS_BYTES.ensures), refl)

pub returns-then-not-are_stated : goal.returns-then-not-are_stated
returns-then-not-are_stated g c =
    let lanes = g.L.Lanes.lanes in
    let r = c.args.rows in
    let m = c.args.self.now in
    let stated = are-stated c.args.bytes.now c.of-shard.result (sums_in lanes m.shard) c.are_stated.result c.of-shard.ensures c.are_stated.ensures in
    let found =
    digests-false lanes c.args.subject.now r.left r.next r.behind r.shard (inside_of lanes r m.shard) m.place (totals_of lanes m.all) c.args.bytes.now c.requires.none (eq-eqb r.bytes r.head.bytes c.if-rows.false)
    c.if-bytes-lt-DIGESTS_BYTES.false (stated ∙ c.if-not-are_stated.true) in
    (found ∙ ap (λ (x : Refusal). Err x) (sym c.at-then-not-are_stated.ensures), refl)

pub overflow_add-self : goal.overflow_add-self
overflow_add-self g c = omega (arith, c.requires.fits.phase.shards, c.requires.fits.within.shards)

pub returns : goal.returns
returns g c =
    let lanes = g.L.Lanes.lanes in
    let r = c.args.rows in
    let m = c.args.self.now in
    let stated = are-stated c.args.bytes.now c.of-shard.result (sums_in lanes m.shard) c.are_stated.result c.of-shard.ensures c.are_stated.ensures in
    record {
      found =
          digests-went lanes c.args.subject.now r.left r.next r.behind r.shard (inside_of lanes r m.shard) m.place (totals_of lanes m.all) c.args.bytes.now c.requires.none (eq-eqb r.bytes r.head.bytes c.if-rows.false)
          c.if-bytes-lt-DIGESTS_BYTES.false (stated ∙ c.if-not-are_stated.false)
          ∙ ap (λ (z : Sums). Ok (Some (Shards r.behind (r.shard + 1) m.place z, drop 256 c.args.bytes.now))) (ap (λ (z : Sums). with_sums true lanes (totals_of lanes m.all) z) (sym c.of-shard.ensures) ∙ sym (c.join.ensures lanes));
      taken = c.if-bytes-lt-DIGESTS_BYTES.false;
      fits = record { within = c.requires.fits.within; place = c.requires.fits.place; phase = omega (arith, c.requires.fits.phase.shards) };
    }
