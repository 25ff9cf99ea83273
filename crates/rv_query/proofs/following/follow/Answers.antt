use Rattle.std.proofs.Common.{◌≡◌, ℕ, ◌+◌, ◌*◌, ◌/◌, ◌%◌, ◌<◌, ◌≤◌, List, ◌++◌, length, take, drop, ap, subst, ◌∙◌, arith}
use Rattle.std.specs.List.{flat_map, AllByRecursion}
use Rattle.rv_base.specs.declared.record.Header.{Header}
use Rattle.rv_spec.specs.Record.{Parts, Shard, all_rows, shard_bytes, table_bytes}
use Rattle.rv_spec.specs.Grammar.{PartsFit, RowFits}
use Rattle.rv_text.proofs.Lemmas.{rows_in, BeginsWith, next-shard, behind}
use Rattle.rv_query.specs.Accesses.{numbered}
use Rattle.rv_query.specs.Following.{BehindRows, BeginWithRow, GoPast}
use Rattle.rv_query.specs.declared.trail.Trail.{Trail}
use Rattle.rv_query.proofs.Trails.{past-none}
use Rattle.rv_query.proofs.Cuts.{past-shard, past-last, row-begins, row-there, shard-there, whole-before}
use Rattle.rv_query.proofs.following.follow.Goals as goal

pub loop-i-init : goal.loop-i-init
loop-i-init c = record {
  past = past-none c.args.first c.args.until c.args.trails.now;
  left = c.body-rest.ensures.spelled;
}

-- a shard before that of the step, at the front of the bytes
before : (p : Parts) (h : Header) (until i : ℕ) (rest : List ℕ) → PartsFit p → until < p.header.steps → h ≡ p.header → i < until / h.size → rest ≡ flat_map shard_bytes (drop i p.shards) ++ table_bytes p.table
    → (i < until / p.header.size) × ((s : Shard) × BeginsWith p i rest s)
before p h until i rest fit there same lt left =
    let less : i < until / p.header.size = subst (λ (k : Header). i < until / k.size) same lt in
    (less, next-shard p i rest fit (omega (arith, less, shard-there p fit until there)) left)

-- the shard of the step, at the front of the bytes behind the loop
last : (p : Parts) (h : Header) (until i : ℕ) (rest : List ℕ) → PartsFit p → until < p.header.steps → h ≡ p.header → i ≡ until / h.size → rest ≡ flat_map shard_bytes (drop i p.shards) ++ table_bytes p.table
    → (i ≡ until / p.header.size) × ((s : Shard) × BeginsWith p (until / p.header.size) rest s)
last p h until i rest fit there same end left =
    let is : i ≡ until / p.header.size = end ∙ ap (λ (k : Header). until / k.size) same in
    (is, next-shard p (until / p.header.size) rest fit (shard-there p fit until there) (subst (λ k. rest ≡ flat_map shard_bytes (drop k p.shards) ++ table_bytes p.table) is left))

pub follow_shard-requires-clause-head : goal.follow_shard-requires-clause-head
follow_shard-requires-clause-head c =
    let at = before c.args.parsed.now c.header-size.result c.args.until c.loop-i.i c.loop-i.rest.now c.body-rest.ensures.fit c.requires c.header-size.ensures c.loop-i-test.true c.loop-i.invariant.left in
    omega (arith, at.1.1.room)

pub behind_shard-rest-requires : goal.behind_shard-rest-requires
behind_shard-rest-requires c = (before c.args.parsed.now c.header-size.result c.args.until c.loop-i.i c.loop-i.rest.now c.body-rest.ensures.fit c.requires c.header-size.ensures c.loop-i-test.true c.loop-i.invariant.left).1.1.room

pub follow_shard-requires-2-clause-head : goal.follow_shard-requires-2-clause-head
follow_shard-requires-2-clause-head c =
    let at = last c.args.parsed.now c.header-size.result c.args.until c.loop-i.i c.loop-i.rest.now c.body-rest.ensures.fit c.requires c.header-size.ensures (omega (arith, c.loop-i.auto.i-end, c.loop-i-test.false)) c.loop-i.invariant.left in
    omega (arith, at.1.1.room)

pub loop-i-preserved : goal.loop-i-preserved
loop-i-preserved c =
    let p = c.args.parsed.now in
    let fit = c.body-rest.ensures.fit in
    let i = c.loop-i.i in
    let size : c.header-size.result.size ≡ p.header.size = ap (λ (h : Header). h.size) c.header-size.ensures in
    let at = before p c.header-size.result c.args.until i c.loop-i.rest.now fit c.requires c.header-size.ensures c.loop-i-test.true c.loop-i.invariant.left in
    let full : (i + 1) * p.header.size ≤ c.args.until = whole-before p fit c.args.until c.requires i at.0 in
    let s : Shard = at.1.0 in
    record {
      past =
          past-shard p fit c.args.first c.args.until i c.args.trails.now c.loop-i.trails c.follow_shard.new.trails c.loop-i.rest.now s
          (omega (arith, at.0, shard-there p fit c.args.until c.requires)) (omega (arith, full, c.requires)) at.1.1 c.loop-i.invariant.past
          (λ count.
          subst (λ z. GoPast c.args.first c.args.until c.loop-i.trails c.follow_shard.new.trails (numbered (i * z) (take z s.rows))) size
          (c.follow_shard.ensures s (behind p i) at.1.1.fits.each (omega (arith, count, size)) at.1.1.begins).1);
      left = c.behind_shard-rest.ensures ∙ at.1.1.next;
    }

-- past the rows of the shard of the step before it
ended : (p : Parts) (h : Header) (first until i : ℕ) (rest bytes : List ℕ) (ts us vs : List Trail) → PartsFit p → until < p.header.steps → h ≡ p.header → i ≡ until / h.size → rest ≡ flat_map shard_bytes (drop i p.shards) ++ table_bytes p.table
    → GoPast first until ts us (numbered 0 (rows_in (take i p.shards)))
    → ((s : Shard) (tail : List ℕ) → AllByRecursion RowFits s.rows → until % h.size ≤ length s.rows → rest ≡ shard_bytes s ++ tail
    → BehindRows s.rows (until % h.size) bytes × GoPast first until us vs (numbered (until / h.size * h.size) (take (until % h.size) s.rows)))
    → GoPast first until ts vs (numbered 0 (take until (all_rows p))) × BeginWithRow (all_rows p) until bytes
ended p h first until i rest bytes ts us vs fit within same end left before here =
    let size : h.size ≡ p.header.size = ap (λ (k : Header). k.size) same in
    let at = last p h until i rest fit within same end left in
    let s : Shard = at.1.0 in
    let there : until % p.header.size < length s.rows = row-there p fit until within rest s at.1.1 in
    let both =
    subst (λ z. until % z ≤ length s.rows → BehindRows s.rows (until % z) bytes × GoPast first until us vs (numbered (until / z * z) (take (until % z) s.rows))) size
    (λ count. here s (behind p (until / p.header.size)) at.1.1.fits.each count at.1.1.begins) (omega (arith, there)) in (
      past-last p fit until within rest s at.1.1 first until ts us vs (subst (λ k. GoPast first until ts us (numbered 0 (rows_in (take k p.shards)))) at.0 before) both.1,
      row-begins p fit until within rest s at.1.1 bytes both.0,
    )

pub returns-clause-past : goal.returns-clause-past
returns-clause-past c =
    (ended c.args.parsed.now c.header-size.result c.args.first c.args.until c.loop-i.i c.loop-i.rest.now c.follow_shard-2.result.now c.args.trails.now c.loop-i.trails c.follow_shard-2.new.trails
    c.body-rest.ensures.fit c.requires c.header-size.ensures (omega (arith, c.loop-i.auto.i-end, c.loop-i-test.false)) c.loop-i.invariant.left c.loop-i.invariant.past c.follow_shard-2.ensures).0

pub returns-clause-row : goal.returns-clause-row
returns-clause-row c =
    (ended c.args.parsed.now c.header-size.result c.args.first c.args.until c.loop-i.i c.loop-i.rest.now c.follow_shard-2.result.now c.args.trails.now c.loop-i.trails c.follow_shard-2.new.trails
    c.body-rest.ensures.fit c.requires c.header-size.ensures (omega (arith, c.loop-i.auto.i-end, c.loop-i-test.false)) c.loop-i.invariant.left c.loop-i.invariant.past c.follow_shard-2.ensures).1
