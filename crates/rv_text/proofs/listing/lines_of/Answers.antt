use Rattle.std.proofs.Common.{◌≡◌, ◌≤◌, ◌<◌, ◌+◌, ◌*◌, ◌++◌, ℕ, List, min, length, subst, sym, ap, ◌∙◌, string_bytes, arith}
use Rattle.std.specs.Int.{div_ceil}
use Rattle.rv_base.specs.declared.record.Header.{Header}
use Rattle.rv_spec.specs.Grammar.{PartsFit, ShardFits}
use Rattle.rv_spec.specs.Record.{Parts, Shard, shard_bytes}
use Rattle.rv_text.specs.Within.{lines_within}
use Rattle.rv_text.proofs.Shards.{BeginsWith, next-shard, behind}
use Rattle.rv_text.proofs.ShardSteps.{nothing-listed, shard-step, last-listed, all-within}
use Rattle.rv_text.proofs.listing.lines_of.Goals as goal

pub returns-then-from-header : goal.returns-then-from-header
returns-then-from-header c =
    let past : c.args.parsed.now.header.steps ≤ c.args.from = omega (arith, c.if-from-header.true, ap (λ (h : Header). h.steps) c.header-header.ensures) in
    c.new-text.ensures.bytes ∙ sym (nothing-listed c.args.parsed.now c.body-rest.ensures.fit c.args.from c.args.count past)

pub loop-i-init : goal.loop-i-init
unfolding lines_within
loop-i-init c = record {
  written = c.new-text.ensures.bytes;
  left = c.body-rest.ensures.spelled;
}

-- the loop goes no further than the shards
there : (p : Parts) (h : Header) (i asked shards : ℕ) → PartsFit p → h ≡ p.header → shards ≡ min asked h.shards → i < shards → i < length p.shards
there p h i asked shards fit same least lt = omega (arith, fit.count, least, lt, ap (λ (k : Header). k.shards) same)

pub push_shard-requires-clause-head : goal.push_shard-requires-clause-head
push_shard-requires-clause-head c =
    let fit = c.body-rest.ensures.fit in
    let lt = there c.args.parsed.now c.header-header.result c.loop-i.i _ c.min-shards.result fit c.header-header.ensures c.min-shards.ensures c.loop-i-test.true in
    let room = (next-shard c.args.parsed.now c.loop-i.i c.loop-i.rest.now fit lt c.loop-i.invariant.left).1.room in
    omega (arith, room)

pub behind_shard-rest-requires : goal.behind_shard-rest-requires
behind_shard-rest-requires c =
    let fit = c.body-rest.ensures.fit in
    let lt = there c.args.parsed.now c.header-header.result c.loop-i.i _ c.min-shards.result fit c.header-header.ensures c.min-shards.ensures c.loop-i-test.true in
    (next-shard c.args.parsed.now c.loop-i.i c.loop-i.rest.now fit lt c.loop-i.invariant.left).1.room

-- what was written for a shard, by the header that was shown
put : (p : Parts) (h : Header) (from until i : ℕ) (rest text text' : List ℕ) (s : Shard) → h ≡ p.header → BeginsWith p i rest s
    → ((s : Shard) (tail : List ℕ) → ShardFits h i s → rest ≡ shard_bytes s ++ tail → text' ≡ text ++ lines_within h.version from until (i * h.size) s.rows)
    → text' ≡ text ++ lines_within p.header.version from until (i * p.header.size) s.rows
put p h from until i rest text text' s same at more =
    subst (λ (k : Header). text' ≡ text ++ lines_within k.version from until (i * k.size) s.rows) same (more s (behind p i) (subst (λ (k : Header). ShardFits k i s) (sym same) at.fits) at.begins)

pub loop-i-preserved : goal.loop-i-preserved
loop-i-preserved c =
    let p = c.args.parsed.now in
    let h = c.header-header.result in
    let i = c.loop-i.i in
    let rest = c.loop-i.rest.now in
    let text = string_bytes c.loop-i.text in
    let after = string_bytes c.push_shard.new.text in
    let until = c.args.from + c.args.count in
    let fit = c.body-rest.ensures.fit in
    let lt = there p h i _ c.min-shards.result fit c.header-header.ensures c.min-shards.ensures c.loop-i-test.true in
    let next = next-shard p i rest fit lt c.loop-i.invariant.left in
    record {
      written =
          shard-step p fit c.args.from until i rest text after next.0 lt next.1 c.loop-i.invariant.written
          (put p h c.args.from until i rest text after next.0 c.header-header.ensures next.1 c.in_ok-push_shard.ensures);
      left = c.behind_shard-rest.ensures ∙ next.1.next;
    }

pub returns : goal.returns
returns c =
    let p = c.args.parsed.now in
    let until = c.args.from + c.args.count in
    let last = c.min-shards.ensures ∙ ap (λ n. min n c.header-header.result.shards) c.div_ceil.ensures ∙ ap (λ (h : Header). min (div_ceil until h.size) h.shards) c.header-header.ensures in
    c.loop-i.invariant.written ∙ last-listed p c.body-rest.ensures.fit c.args.from until c.loop-i.i (omega (arith, last, c.loop-i-test.false)) ∙ all-within p c.args.from c.args.count
