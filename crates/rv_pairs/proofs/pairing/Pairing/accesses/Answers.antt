use Rattle.std.proofs.Common.{◌≡◌, ◌∙◌, ◌+◌, ◌<◌, List, map, take, get_or, length, sym, refl, ap, arith}
use Rattle.std.proofs.lemmas.List.{take_all}
use Rattle.rv_base.specs.declared.record.Access.{Access}
use Rattle.rv_spec.specs.Tuples.{event, tuple_read, tuple_written}
use Rattle.rv_pairs.specs.Covers.{read_digest, with_tuples, written_digest}
use Rattle.rv_pairs.proofs.LaneSums.{covers-more, read-none, step-more, written-none}
use Rattle.rv_pairs.proofs.Waiting.{one-access}
use Rattle.rv_pairs.proofs.pairing.Pairing.accesses.Goals as goal

pub loop-access-init : goal.loop-access-init
loop-access-init g c = (sym (read-none g.L.Lanes.lanes c.args.self.now), sym (written-none g.L.Lanes.lanes c.args.self.now))

pub loop-access-preserved : goal.loop-access-preserved
loop-access-preserved g c =
    let lanes = g.L.Lanes.lanes in
    let j = c.loop-access.access-index in
    let all = c.args.accesses.now in
    let d : Access = record { slot = 0; cell = 0; old = 0; prev = 0; new = 0 } in
    let a = get_or all j d in
    let step = c.args.step in
    let there : j < length all = c.loop-access-test.true in
    let is : record { cell = a.cell; value = a.new; time = c.time_of.result } ≡ tuple_written (event step a) = λ i. record { cell = a.cell; value = a.new; time = c.time_of.ensures i } in (
      step-more lanes (read_digest lanes c.args.self.now) (read_digest lanes c.loop-access.self) (read_digest lanes c.access.new.self) (map tuple_read (map (event step) (take j all))) (map tuple_read (map (event step) (take (j + 1) all))) _
          c.loop-access.invariant.0 c.access.ensures.reads (one-access (event step) tuple_read all j d _ there refl),
      step-more lanes (written_digest lanes c.args.self.now) (written_digest lanes c.loop-access.self) (written_digest lanes c.access.new.self) (map tuple_written (map (event step) (take j all))) (map tuple_written (map (event step) (take (j + 1) all))) _
          c.loop-access.invariant.1 c.access.ensures.writes (one-access (event step) tuple_written all j d _ there is),
    )

pub returns-clause-covers : goal.returns-clause-covers
returns-clause-covers g c = λ rs ws covers.
    let lanes = g.L.Lanes.lanes in
    let all = c.args.accesses.now in
    let step = c.args.step in
    let whole = take_all c.loop-access.access-index all (omega arith) in
    record {
      reads = covers-more lanes (read_digest lanes c.args.self.now) (read_digest lanes c.loop-access.self) rs (map tuple_read (map (event step) all))
          (c.loop-access.invariant.0 ∙ ap (λ (z : List Access). with_tuples lanes (read_digest lanes c.args.self.now) (map tuple_read (map (event step) z))) whole) covers.reads;
      writes = covers-more lanes (written_digest lanes c.args.self.now) (written_digest lanes c.loop-access.self) ws (map tuple_written (map (event step) all))
          (c.loop-access.invariant.1 ∙ ap (λ (z : List Access). with_tuples lanes (written_digest lanes c.args.self.now) (map tuple_written (map (event step) z))) whole) covers.writes;
    }
