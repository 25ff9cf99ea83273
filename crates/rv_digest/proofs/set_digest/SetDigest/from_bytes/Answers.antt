use Rattle.std.proofs.Common.{rules, ◌≡◌, ℕ, ◌<◌, length, get_or, ◌∙◌, ap, arith}
use Rattle.std.proofs.lemmas.List.{take_all}
use Rattle.rv_spec.specs.Digest.{set_digest_bytes}
use Rattle.rv_digest.proofs.Numbers.{written-back}
use Rattle.rv_digest.proofs.set_digest.SetDigest.from_bytes.Goals as goal

pub returns-clause-inverse : goal.returns-clause-inverse
returns-clause-inverse c =
    let size : length c.args.bytes.now ≡ 128 = search rules in
    let fit : (k : ℕ) → get_or c.args.bytes.now k 0 < 256 = λ k. search rules in
    ap set_digest_bytes c.words.ensures ∙ written-back c.args.bytes.now 16 (omega (arith, size)) fit ∙ take_all 128 c.args.bytes.now (omega (arith, size))
