-- The lemmas about runs and their records that other crates cite.

-- the rows of some steps, in two halves
pub use Rattle.rv_sound.proofs.ListLemmas.{rows-split}
-- each shard of a run has a first step, and together they hold all steps
pub use Rattle.rv_sound.proofs.Shards.{shard-starts, shards-suffice}
-- the record of a run spells the parts of the run
pub use Rattle.rv_sound.proofs.RecordAccepted.{record-spells}
