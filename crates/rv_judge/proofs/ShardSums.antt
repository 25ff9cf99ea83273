-- The digests of a shard, of which a part still waits to be hashed.
use Rattle.std.proofs.Common.{◌≡◌, ◌∙◌, ℕ, Bool, ◌&&◌, bytes_eq, true, List, [], map, drop, sym, ap}
use Rattle.rv_base.specs.declared.record.Access.{Access}
use Rattle.rv_spec.specs.Digest.{Lanes, digest_lane}
use Rattle.rv_spec.specs.Tuples.{event, tuple_read, tuple_written}
use Rattle.rv_rules.specs.Reading.{digest_of}
use Rattle.rv_pairs.specs.declared.pairing.Pairing.{Pairing}
use Rattle.rv_pairs.specs.Covers as pairs
use Rattle.rv_pairs.specs.Covers.{Covers, read_digest, written_digest}
use Rattle.rv_reading.specs.Machine.{Sums, no_sums, with_events}
use Rattle.rv_judge.specs.declared.sums.Sums as held
use Rattle.rv_judge.specs.Phases.{sums_in, sums_of}

-- before the first row
pub nothing-taken : (lanes : Lanes) (p : Pairing) → Covers lanes p [] [] → no_sums ≡ sums_in lanes p
unfolding digest_lane
nothing-taken lanes p none = λ i. record { reads = sym none.reads i; writes = sym none.writes i }

-- behind the accesses of a step
pub events-added : (lanes : Lanes) (old new : Pairing) (step : ℕ) (accesses : List Access)
    → read_digest lanes new ≡ pairs.with_tuples lanes (read_digest lanes old) (map tuple_read (map (event step) accesses))
    → written_digest lanes new ≡ pairs.with_tuples lanes (written_digest lanes old) (map tuple_written (map (event step) accesses))
    → sums_in lanes new ≡ with_events true lanes (sums_in lanes old) (map (event step) accesses)
unfolding pairs.with_tuples
events-added lanes old new step accesses reads writes = λ i. record { reads = reads i; writes = writes i }

-- whether the bytes state them
pub are-stated : (bytes : List ℕ) (s : held.Sums) (sums : Sums) (answer : Bool) → sums_of s ≡ sums → answer ≡ (bytes_eq (digest_of bytes) s.reads.lanes && bytes_eq (digest_of (drop 128 bytes)) s.writes.lanes)
    → (bytes_eq (digest_of bytes) sums.reads && bytes_eq (digest_of (drop 128 bytes)) sums.writes) ≡ answer
are-stated bytes s sums answer is found = ap (λ (z : Sums). bytes_eq (digest_of bytes) z.reads && bytes_eq (digest_of (drop 128 bytes)) z.writes) (sym is) ∙ sym found
