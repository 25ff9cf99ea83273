use Rattle.std.proofs.Common.{◌≡◌, ℕ, ◌++◌, List, length, take, drop, ◌∙◌, ap, arith}
use Rattle.std.proofs.lemmas.Grind.{common_steps}
use Rattle.rv_base.specs.declared.layout.TheConstants.{HEAD_BYTES}
use Rattle.rv_spec.specs.Record.{head_bytes}
use Rattle.rv_spec.specs.Digest.{set_digest_bytes}
use Rattle.rv_replay.proofs.shard.spell.Goals as goal

-- what is written in place of a list of the same length
whole : (n : ℕ) (xs ys : List ℕ) → n ≡ length ys → length xs ≡ length ys → take n (xs ++ drop (length xs) ys) ≡ xs
whole n xs ys full same = grind (arith, common_steps)

pub returns : goal.returns
returns c =
    let old = c.args.bytes.items in
    let new = c.set_head.new.bytes in
    let full = c.args.bytes.ok.0 in
    let head : new ≡ head_bytes c.args.head.now ++ drop HEAD_BYTES old = c.set_head.ensures ∙ (λ t. c.write_head.ensures t ++ drop HEAD_BYTES (c.deref_mut.ensures.value t)) in
    let size : length new ≡ length old = c.set_head.auto.bytes ∙ ap length c.deref_mut.ensures.value in
    let front : take c.args.bytes.len (new ++ drop (length new) old) ≡ head_bytes c.args.head.now ++ drop HEAD_BYTES old = whole c.args.bytes.len new old full size ∙ head in
    c.in_ok-extend_from_slice-2.ensures.items ∙ (λ t. c.in_ok-extend_from_slice.ensures.items t ++ c.to_bytes-2.ensures.bytes t) ∙ (λ t. front t ++ c.to_bytes.ensures.bytes t ++ set_digest_bytes c.args.writes.now.lanes)
