use Rattle.std.proofs.Common.{◌≡◌, ◌<◌, ◌+◌, ◌-◌, ◌++◌, ℕ, drop, length, ap, ◌∙◌, arith}
use Rattle.std.specs.List.{flat_map}
use Rattle.rv_base.specs.declared.record.Header.{Header}
use Rattle.rv_spec.specs.Grammar.{PartsFit}
use Rattle.rv_spec.specs.Record.{Parts, shard_bytes, table_bytes}
use Rattle.rv_text.proofs.Lemmas.{next-shard}
use Rattle.rv_upgrade.proofs.LastRow.{some-shard, begin-with-last}
use Rattle.rv_upgrade.proofs.blocking.last_shard.Goals as goal

-- the shard before the counter is there
there : (p : Parts) (h : Header) (counter : ℕ) → PartsFit p → h ≡ p.header → 0 < counter → counter < h.shards → counter - 1 < length p.shards
there p h counter fit same some less = omega (arith, fit.count, some, less, ap (λ (k : Header). k.shards) same)

pub loop-init : goal.loop-init
loop-init c = record {
  some = omega arith;
  within = (let some = some-shard c.args.parsed.now c.body-rest.ensures.fit in omega (arith, some));
  left = c.body-rest.ensures.spelled;
}

pub behind_shard-rest-requires : goal.behind_shard-rest-requires
behind_shard-rest-requires c =
    let fit = c.body-rest.ensures.fit in
    let i = c.loop.invariant in
    (next-shard c.args.parsed.now (c.loop.counter - 1) c.loop.rest.now fit (there c.args.parsed.now c.header-shards.result c.loop.counter fit c.header-shards.ensures i.some c.loop-test.true) i.left).1.room

pub loop-preserved : goal.loop-preserved
loop-preserved c =
    let p = c.args.parsed.now in
    let fit = c.body-rest.ensures.fit in
    let i = c.loop.invariant in
    let at = next-shard p (c.loop.counter - 1) c.loop.rest.now fit (there p c.header-shards.result c.loop.counter fit c.header-shards.ensures i.some c.loop-test.true) i.left in
    let next : c.loop.counter - 1 + 1 ≡ c.loop.counter + 1 - 1 = omega (arith, i.some) in
    record {
      some = omega arith;
      within = omega (arith, c.loop-test.true, ap (λ (k : Header). k.shards) c.header-shards.ensures);
      left = c.behind_shard-rest.ensures ∙ at.1.next ∙ ap (λ k. flat_map shard_bytes (drop k p.shards) ++ table_bytes p.table) next;
    }

pub returns : goal.returns
returns c =
    let p = c.args.parsed.now in
    let i = c.loop.invariant in
    let end : c.loop.counter ≡ p.header.shards = omega (arith, i.within, c.loop-test.false, ap (λ (k : Header). k.shards) c.header-shards.ensures) in
    begin-with-last p c.loop.rest.now c.body-rest.ensures.fit (i.left ∙ ap (λ k. flat_map shard_bytes (drop (k - 1) p.shards) ++ table_bytes p.table) end)
