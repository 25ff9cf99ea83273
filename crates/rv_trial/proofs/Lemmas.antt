-- The lemmas that other crates cite.

-- the end of a run within a budget: none where the run goes on, and else the one that the run has
pub use Rattle.rv_trial.proofs.Ends.{none-within, found-within}
-- the trial of each number and size within its range is told
pub use Rattle.rv_trial.proofs.AllTold.{trials-are-told}
