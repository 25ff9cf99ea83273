-- Tuples read and written, some of them paired.
use Rattle.std.specs.Prelude.{◌≡◌, ℕ, List, take}
use Rattle.rv_base.specs.declared.record.Tuple.{Tuple}
use Rattle.rv_spec.specs.Digest.{Lanes, digest}
use Rattle.rv_rules.specs.Sums.{add_lanes}
use Rattle.rv_pairs.specs.declared.adder.Adder.{Adder}
use Rattle.rv_pairs.specs.declared.pairing.Pairing.{Pairing}

-- a sum, with tuples more
unfoldable pub with_tuples : Lanes → List ℕ → List Tuple → List ℕ
with_tuples lanes sum ts = add_lanes sum (digest lanes ts)

-- a sum of two lists
unfoldable pub joined : List ℕ → List ℕ → List ℕ
joined sum other = add_lanes sum other

-- what the sum will be, once the tuples in the buffer are added
unfoldable pub total : Lanes → Adder → List ℕ
total lanes adder = with_tuples lanes adder.sum.lanes (take adder.count adder.buffer)

-- The digest of the tuples read: of those only read and of those read as they were written.
unfoldable pub read_digest : Lanes → Pairing → List ℕ
read_digest lanes p = joined (total lanes p.reads) (total lanes p.both)

-- The digest of the tuples written: of those only written, of those read as they were written, and of those that wait.
unfoldable pub written_digest : Lanes → Pairing → List ℕ
written_digest lanes p = with_tuples lanes (joined (total lanes p.writes) (total lanes p.both)) (take p.count p.waiting)

-- These tuples were read, and these were written, as far as the digests tell.
pub record Covers (lanes : Lanes) (p : Pairing) (rs ws : List Tuple) : Type 0 where
  pub reads : read_digest lanes p ≡ digest lanes rs
  pub writes : written_digest lanes p ≡ digest lanes ws
