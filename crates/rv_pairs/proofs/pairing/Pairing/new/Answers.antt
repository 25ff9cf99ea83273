use Rattle.rv_pairs.specs.Covers.{read_digest, written_digest}
use Rattle.rv_pairs.proofs.LaneSums.{no-tuples, nothing-joined}
use Rattle.rv_pairs.proofs.pairing.Pairing.new.Goals as goal

pub returns : goal.returns
unfolding read_digest written_digest
returns c = λ lanes. record {
  reads = nothing-joined lanes _ _ (c.new.ensures lanes) (c.new-3.ensures lanes);
  writes = no-tuples lanes _ (nothing-joined lanes _ _ (c.new-2.ensures lanes) (c.new-3.ensures lanes));
}
