use Rattle.std.proofs.Common.{rules, ◌≡◌, ℕ, ◌<◌, ◌^◌, ◌*◌, length, get_or, sym, ◌∙◌, ap, arith}
use Rattle.std.proofs.lemmas.List.{take_all}
use Rattle.rv_spec.specs.Digest.{set_digest_bytes}
use Rattle.rv_digest.proofs.Numbers.{numbers, read-back}
use Rattle.rv_digest.proofs.words.bytes_of.Goals as goal

pub returns-clause-bytes : goal.returns-clause-bytes
returns-clause-bytes c =
    let size : length c.args.words.now ≡ 16 = search rules in
    sym (take_all (8 * c.loop-i.i) c.loop-i.bytes (omega (arith, c.loop-i.invariant.0)))
    ∙ c.loop-i.invariant.1
    ∙ ap set_digest_bytes (take_all c.loop-i.i c.args.words.now (omega (arith, size)))

pub returns-clause-inverse : goal.returns-clause-inverse
returns-clause-inverse c =
    let size : length c.args.words.now ≡ 16 = search rules in
    let fit : (k : ℕ) → get_or c.args.words.now k 0 < 2 ^ 64 = λ k. search rules in
    ap (λ bytes. numbers bytes 16) (returns-clause-bytes c) ∙ (rw size at (read-back c.args.words.now fit))
