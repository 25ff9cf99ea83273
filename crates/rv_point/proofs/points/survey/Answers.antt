use Rattle.std.proofs.Common.{◌≡◌, ◌+◌, ◌++◌, [], ◌∷◌, map, Some, sym, ◌∙◌, ap, subst, arith}
use Rattle.std.specs.List.{range_with_len}
use Rattle.std.proofs.lemmas.List.FromFn.{map-range_with_len_more}
use Rattle.rv_point.specs.Start.{shard_start}
use Rattle.rv_point.specs.Walk.{GivesNext}
use Rattle.rv_point.proofs.points.survey.Goals as goal

pub loop-starts-preserved : goal.loop-starts-preserved
loop-starts-preserved c =
    let l = c.loop-starts.invariant in
    let old = c.loop-starts.walk in
    let new = c.next_shard.new.self in
    let same = c.next_shard.ensures.same in
    let f = shard_start c.args.image.now c.args.input.now c.args.size in
    let gives : GivesNext old new (Some c.in-Some.start) = subst (λ o. GivesNext old new o) c.in-Some.is c.in_ok-start.ensures.ok in
    let start : c.in-Some.start ≡ f old.given = gives.0.is ∙ (λ t. shard_start (l.image t) (l.input t) (l.size t) old.given) in
    let more : map f (range_with_len 0 (old.given + 1)) ≡ map f (range_with_len 0 old.given) ++ f old.given ∷ [] = map-range_with_len_more f 0 old.given old.given (omega arith) in
    record {
      image = same.image ∙ l.image;
      input = same.input ∙ l.input;
      size = same.size ∙ l.size;
      budget = same.budget ∙ l.budget;
      starts = c.in_ok-push.ensures.items ∙ (λ t. l.starts t ++ start t ∷ []) ∙ sym more ∙ ap (λ n. map f (range_with_len 0 n)) (sym gives.1);
    }
