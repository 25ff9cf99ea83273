use Rattle.std.proofs.Common.{◌∷◌, [], length, drop, Ok, refl, sym, ◌∙◌, arith}
use Rattle.std.specs.Prelude.{nat_le, ◌==◌}
use Rattle.std.proofs.lemmas.Bool.{le-leb, eq-eqb}
use Rattle.std.proofs.lemmas.List.{take_rest}
use Rattle.rv_row.proofs.Lemmas.{hold}
use Rattle.rv_file.proofs.Steps.{unless-holds}
use Rattle.rv_file.proofs.skipping.skip_digests.Goals as goal

pub returns : goal.returns
returns c =
    let bytes = c.args.bytes.now in
    let size = c.args.size == c.args.head.now.bytes in
    let there = nat_le 256 (length bytes) in
    unless-holds c.args.shard c.args.rows ((20, size) ∷ (1, there) ∷ []) (drop 256 bytes)
    (hold (20, size) ((1, there) ∷ []) (eq-eqb c.args.size c.args.head.now.bytes (omega arith)) (hold (1, there) [] (le-leb 256 (length bytes) (omega arith)) refl))
    ∙ (λ t. Ok (sym (take_rest bytes 256) t))
