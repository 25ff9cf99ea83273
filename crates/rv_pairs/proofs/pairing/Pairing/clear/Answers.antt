use Rattle.rv_pairs.specs.Covers.{read_digest, written_digest}
use Rattle.rv_pairs.proofs.LaneSums.{no-tuples, nothing-joined}
use Rattle.rv_pairs.proofs.pairing.Pairing.clear.Goals as goal

pub returns : goal.returns
unfolding read_digest written_digest
returns c = λ lanes. record {
  reads = nothing-joined lanes _ _ (c.clear.ensures lanes) (c.clear-3.ensures lanes);
  writes = no-tuples lanes _ (nothing-joined lanes _ _ (c.clear-2.ensures lanes) (c.clear-3.ensures lanes));
}
