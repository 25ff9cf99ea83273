use Rattle.std.proofs.Common.{◌≡◌, List, ℕ, ◌+◌, ◌∷◌, [], length, drop, refl, sym, ap, ◌∙◌, arith}
use Rattle.std.proofs.lemmas.List.{length-append, drop-drop}
use Rattle.rv_base.specs.declared.record.ShardHead.{ShardHead}
use Rattle.rv_file.specs.Parsing.{shard_size}
use Rattle.rv_panel.proofs.StartLaws.{behind-more, behind-zero, starts-more}
use Rattle.rv_panel.proofs.starts.find_starts.Goals as goal

pub loop-init : goal.loop-init
loop-init c = record {
  count = ap length c.new-starts.ensures.items;
  at = sym (behind-zero c.args.bytes.now);
  suffix = (0, refl);
  each = λ i lt. absurd (omega (arith, lt));
}

pub loop-preserved : goal.loop-preserved
loop-preserved c =
    let bytes = c.args.bytes.now in
    let rest = c.loop.rest.now in
    let size : c.shard_size.result ≡ shard_size rest = c.shard_size.ensures ∙ ap (λ (h : ShardHead). 288 + h.bytes) c.in-Some.ensures.1 in
    record {
      count = ap length c.in_ok-push.ensures.items ∙ length-append c.loop.starts.items (_ ∷ []) ∙ ap (λ n. n + 1) c.loop.invariant.count;
      at =
          c.behind-rest.ensures
          ∙ ap (λ n. drop n rest) size
          ∙ ap (λ (xs : List ℕ). drop (shard_size xs) xs) c.loop.invariant.at
          ∙ sym (behind-more c.loop.counter bytes);
      suffix = (
        c.loop.invariant.suffix.0 + c.shard_size.result,
        c.behind-rest.ensures ∙ ap (λ (xs : List ℕ). drop c.shard_size.result xs) c.loop.invariant.suffix.1 ∙ drop-drop c.shard_size.result c.loop.invariant.suffix.0 bytes,
      );
      each = starts-more bytes rest c.loop.starts.items c.push.new.self.items c.loop.counter c.loop.invariant.suffix.0 c.in_ok-push.ensures.items c.loop.invariant.count c.loop.invariant.suffix.1 c.loop.invariant.at c.loop.invariant.each;
    }
