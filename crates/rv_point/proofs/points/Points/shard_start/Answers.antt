use Rattle.std.proofs.Common.{◌≡◌, ℕ, ◌*◌, ◌<◌, ◌≤◌, List, length, map, ◌∙◌, ap, subst, arith, Option, Some, None, MatchOption, IfSome, HoldsAt, Bor}
use Rattle.std.specs.Int.{div_ceil, IsInRange}
use Rattle.std.specs.List.{range_with_len}
use Rattle.std.proofs.lemmas.List.FromFn.{length-map-range_with_len, get_or-map-range_with_len}
use Rattle.rv_point.specs.declared.start.ShardStart.{ShardStart}
use Rattle.rv_base.specs.declared.limits.TheConstants.{SHARD_SIZE_LIMIT, SHARDS_LIMIT}
use Rattle.rv_spec.specs.Run.{EndsIn}
use Rattle.rv_point.specs.Start.{IsStart, shard_start}
use Rattle.rv_point.proofs.PieceLaws.{begins-within}
use Rattle.rv_point.specs.PointsState.{PointsState}
use Rattle.rv_point.specs.PointsView.{points_view}
use Rattle.rv_point.proofs.points.Points.shard_start.Goals as goal

-- an element of a list that a function of the place makes
found : (f : ℕ → ShardStart) (n i : ℕ) (xs : List ShardStart) (o : Option (Bor ShardStart)) → xs ≡ map f (range_with_len 0 n) → MatchOption o (length xs ≤ i) (λ x. (i < length xs) × HoldsAt (λ y. x.now ≡ y) xs i)
    → MatchOption o (n ≤ i) (λ s. (i < n) × (s.now ≡ f i))
found f n i xs None is h = (let size : length xs ≡ n = ap length is ∙ length-map-range_with_len f 0 n in omega arith)
found f n i xs (Some x) is h =
    let size : length xs ≡ n = ap length is ∙ length-map-range_with_len f 0 n in
    let less : i < length xs = h.0 in
    let at : HoldsAt (λ y. x.now ≡ y) (map f (range_with_len 0 n)) i = subst (λ (ys : List ShardStart). HoldsAt (λ y. x.now ≡ y) ys i) is h.1 in
    (omega arith, at x.now ∙ get_or-map-range_with_len f 0 n i i x.now (omega arith) (omega arith))

pub returns-clause-start : goal.returns-clause-start
returns-clause-start c =
    let p = c.self.inside in
    let i = c.args.i in
    let o = c.get.result in
    let starts = c.deref.ensures.value ∙ c.self.invariant.starts in
    let by : (q : PointsState) → points_view p ≡ q → MatchOption o (div_ceil q.steps q.size ≤ i) (λ s. (i < div_ceil q.steps q.size) × (s.now ≡ shard_start q.image q.input q.size i)) = λ q same.
    subst (λ (q : PointsState). MatchOption o (div_ceil q.steps q.size ≤ i) (λ s. (i < div_ceil q.steps q.size) × (s.now ≡ shard_start q.image q.input q.size i))) same
    (subst (λ n. MatchOption o (n ≤ i) (λ s. (i < n) × (s.now ≡ shard_start p.image p.input.now p.size i))) c.self.invariant.shards
    (found (shard_start p.image p.input.now p.size) p.whole.shards i c.deref.result.now o starts c.get.ensures.lookup.3)) in
    by c.args.self.now c.self.view_is

-- a start that is there may be replayed
replayed : (q : PointsState) (i : ℕ) (o : Option (Bor ShardStart)) → EndsIn q.image q.input q.steps q.end → IsInRange 1 SHARD_SIZE_LIMIT q.size → div_ceil q.steps q.size ≤ SHARDS_LIMIT
    → MatchOption o (div_ceil q.steps q.size ≤ i) (λ s. (i < div_ceil q.steps q.size) × (s.now ≡ shard_start q.image q.input q.size i)) → IfSome o (λ s. IsStart q.image q.input s.now)
replayed q i None ends size few h = tt
replayed q i (Some x) ends size few h =
    let begins : i * q.size < q.steps = begins-within q.steps q.size i (omega (arith, size.0)) h.0 in
    (q.size, i, size, (let less : i < div_ceil q.steps q.size = h.0 in omega arith), (λ k less. ends.before k (omega arith)), h.1)

pub returns-clause-replayed : goal.returns-clause-replayed
returns-clause-replayed c =
    let p = c.self.inside in
    let v = c.self.invariant in
    let q = c.args.self.now in
    let at : (r : PointsState) → points_view p ≡ r → EndsIn r.image r.input r.steps r.end × IsInRange 1 SHARD_SIZE_LIMIT r.size × (div_ceil r.steps r.size ≤ SHARDS_LIMIT) = λ r same.
    subst (λ (r : PointsState). EndsIn r.image r.input r.steps r.end × IsInRange 1 SHARD_SIZE_LIMIT r.size × (div_ceil r.steps r.size ≤ SHARDS_LIMIT)) same (v.ends, v.size_within, subst (λ n. n ≤ SHARDS_LIMIT) v.shards v.few) in
    let all = at q c.self.view_is in
    replayed q c.args.i c.get.result all.0 all.1 all.2 (returns-clause-start c)
