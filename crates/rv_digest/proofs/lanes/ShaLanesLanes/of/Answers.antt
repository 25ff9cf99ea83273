use Rattle.std.proofs.Common.{refl}
use Rattle.rv_spec.specs.Digest.{sha_lanes}
use Rattle.rv_digest.proofs.lanes.ShaLanesLanes.of.Goals as goal

pub returns : goal.returns
unfolding sha_lanes
returns c =
    rw (
      c.copy_from_slice.ensures.after,
      c.copy_from_slice-2.ensures.after,
      c.words.ensures,
      c.words-2.ensures,
      c.digest.ensures,
      c.digest-2.ensures,
      c.message.ensures,
      c.message-2.ensures,
    ) refl
