use Rattle.std.proofs.Common.{◌≡◌, ◌*◌, length, take}
use Rattle.rv_spec.specs.Digest.{set_digest_bytes}
use Rattle.rv_digest.proofs.words.bytes_of.Given as goal

abbrev pub invariant-loop-i : goal.invariant-loop-i
invariant-loop-i l = (length l.bytes ≡ 128) × (take (8 * l.i) l.bytes ≡ set_digest_bytes (take l.i l.words))
