use Rattle.std.proofs.Common.{◌≡◌, ◌-◌, ◌+◌, ◌≤◌, ℕ, List, [], ◌++◌, length, map, Some, None, sym, ap, ◌∙◌, arith}
use Rattle.std.proofs.lemmas.Result.{err_from_is_err_and}
use Rattle.rv_spec.specs.Tuples.{tuple_read, tuple_written}
use Rattle.rv_file.specs.Parsing.{behind_shards}
use Rattle.rv_book.specs.Journal.{piece_at}
use Rattle.rv_judge.specs.Alone.{read_alone}
use Rattle.rv_panel.specs.Pieces.{piece_of}
use Rattle.rv_panel.specs.Chaining.{subject_of, verdict_from}
use Rattle.rv_panel.proofs.StartLaws.{behind-zero}
use Rattle.rv_panel.proofs.ChainLaws.{goes, piece-refuses, link-refuses, counted, counted-all, in-book, is-found, next-rest, digests-more}
use Rattle.rv_panel.proofs.chain.chain_shards.Goals as goal

pub loop-i-init : goal.loop-i-init
loop-i-init g c =
    let s = subject_of c.args.program.now c.args.header.now c.args.output.now in
    let n = c.args.header.now.shards in
    let all : n ≡ n - 0 = omega arith in
    record {
      at = sym (behind-zero c.args.shards.now);
      within = λ found next. omega arith;
      stands = c.requires.first;
      events = (
        [],
        record { reads_are = c.zero-reads.ensures.of_list g.L.Lanes.lanes; writes_are = c.zero-writes.ensures.of_list g.L.Lanes.lanes },
        ap (λ k. verdict_from g.L.Lanes.lanes s k 0 c.args.first [] c.args.shards.now) all,
      );
    }

pub returns-in_err-size : goal.returns-in_err-size
returns-in_err-size g c =
    let p = err_from_is_err_and c.from_residual.result c.from_residual.ensures.1 in
    let lanes = g.L.Lanes.lanes in
    let s = subject_of c.args.program.now c.args.header.now c.args.output.now in
    let n = c.args.header.now.shards in
    let i = c.loop-i.i in
    let rest = c.loop-i.rest.now in
    let es = c.loop-i.invariant.events.0 in
    rw (p.1, p.2)
    (counted lanes s _ n i c.loop-i.place es rest c.loop-i-test.true c.loop-i.invariant.events.2
    ∙ link-refuses lanes s i c.loop-i.place rest c.in_err-size.field-0.0 c.in_err-size.ensures (n - (i + 1)) es)

pub unreachable-requires : goal.unreachable-requires
unreachable-requires g c =
    let s = subject_of c.args.program.now c.args.header.now c.args.output.now in
    let k = c.requires.checked in
    let i = c.loop-i.i in
    let shards = c.args.shards.now in
    let at = c.loop-i.invariant.at in
    let there : 32 ≤ length (behind_shards i shards) = omega (arith, c.in_ok-size.ensures.0, ap length at) in
    let lt = is-found shards i k.found c.args.header.now.shards (c.loop-i.invariant.within k.found k.next) c.loop-i-test.true there k.next in
    let some = in-book g.L.Lanes.lanes s shards c.loop-i.rest.now i c.args.book.now k lt at in
    let none : piece_at c.args.book.now i ≡ None = c.in_default.ensures in
    cc

pub returns-in-Some-fault : goal.returns-in-Some-fault
returns-in-Some-fault g c =
    let lanes = g.L.Lanes.lanes in
    let s = subject_of c.args.program.now c.args.header.now c.args.output.now in
    let k = c.requires.checked in
    let n = c.args.header.now.shards in
    let i = c.loop-i.i in
    let shards = c.args.shards.now in
    let rest = c.loop-i.rest.now in
    let inv = c.loop-i.invariant in
    let there : 32 ≤ length (behind_shards i shards) = omega (arith, c.in_ok-size.ensures.0, ap length inv.at) in
    let lt = is-found shards i k.found n (inv.within k.found k.next) c.loop-i-test.true there k.next in
    let some = in-book lanes s shards rest i c.args.book.now k lt inv.at in
    let found : piece_at c.args.book.now i ≡ Some c.in-Some.piece.now = c.in-Some.ensures in
    let piece : c.in-Some.piece.now ≡ piece_of i (read_alone lanes s i rest) = cc in
    counted lanes s _ n i c.loop-i.place inv.events.0 rest c.loop-i-test.true inv.events.2
    ∙ piece-refuses lanes s i c.loop-i.place rest c.in-Some.piece.now c.in-Some-fault.refusal
    (record { long = c.in_ok-size.ensures.0; same = c.in_ok-size.ensures.1; stands = inv.stands; piece_is = piece })
    c.in-Some-fault.is
    (n - (i + 1))
    inv.events.0

pub loop-i-preserved : goal.loop-i-preserved
loop-i-preserved g c =
    let lanes = g.L.Lanes.lanes in
    let s = subject_of c.args.program.now c.args.header.now c.args.output.now in
    let k = c.requires.checked in
    let n = c.args.header.now.shards in
    let i = c.loop-i.i in
    let shards = c.args.shards.now in
    let rest = c.loop-i.rest.now in
    let inv = c.loop-i.invariant in
    let there : 32 ≤ length (behind_shards i shards) = omega (arith, c.in_ok-size.ensures.0, ap length inv.at) in
    let lt = is-found shards i k.found n (inv.within k.found k.next) c.loop-i-test.true there k.next in
    let some = in-book lanes s shards rest i c.args.book.now k lt inv.at in
    let found : piece_at c.args.book.now i ≡ Some c.in-Some.piece.now = c.in-Some.ensures in
    let piece : c.in-Some.piece.now ≡ piece_of i (read_alone lanes s i rest) = cc in
    let on = goes lanes s i c.loop-i.place rest c.in-Some.piece.now (record { long = c.in_ok-size.ensures.0; same = c.in_ok-size.ensures.1; stands = inv.stands; piece_is = piece }) c.in_default-fault.is in
    let es = inv.events.0 in
    let next = next-rest shards rest c.behind-rest.result.now i c.in_ok-size.size c.behind-rest.ensures c.in_ok-size.ensures.2 inv.at in
    record {
      at = next.1;
      within = λ found short. let above = is-found shards i found n (inv.within found short) c.loop-i-test.true there short in omega (arith, above);
      stands = on.stands;
      events = (
        es ++ on.events,
        digests-more lanes es on.events c.add.new.self.lanes c.add-in-loop-i.new.self.lanes
            (c.add.ensures.of_list lanes (map tuple_read es) (map tuple_read on.events) inv.events.1.reads_are on.digests.reads_are)
            (c.add-in-loop-i.ensures.of_list lanes (map tuple_written es) (map tuple_written on.events) inv.events.1.writes_are on.digests.writes_are),
        counted lanes s _ n i c.loop-i.place es rest c.loop-i-test.true inv.events.2
            ∙ on.verdict (n - (i + 1)) es
            ∙ ap (λ (xs : List ℕ). verdict_from lanes s (n - (i + 1)) (i + 1) c.in-Some.piece.now.place (es ++ on.events) xs) (sym next.0),
      );
    }

pub returns : goal.returns
returns g c =
    let s = subject_of c.args.program.now c.args.header.now c.args.output.now in
    let es = c.loop-i.invariant.events in (
      es.0,
      record {
        digests = es.1;
        verdict = counted-all g.L.Lanes.lanes s _ c.args.header.now.shards c.loop-i.i c.loop-i.place es.0 c.loop-i.rest.now c.loop-i-test.false c.loop-i.auto.i-end es.2;
      },
    )
