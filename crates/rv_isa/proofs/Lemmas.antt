-- The lemmas about the machine and the expected step that other crates cite.

-- the expected step by a step's own old values is the machine's step
pub use Rattle.rv_isa.proofs.Agreement.{steps-agree}
-- old values that are the state's in the slots of the expected accesses make the expected step the machine's step
pub use Rattle.rv_isa.proofs.ExpectedCovers.{seen-follows}
-- the slots of an expected step rise within 1 to 8, each with a cell of its kind, and slots 1 to 5 leave what they find
pub use Rattle.rv_isa.proofs.ExpectedShape.{expected-shaped}
-- a run goes from state to state, and reads no byte past the end of its input
pub use Rattle.rv_isa.proofs.States.{runs-are-states}
-- a cell holds what its last use left there, or its initial value
pub use Rattle.rv_isa.proofs.LastUses.{holds-last-uses}
-- a run keeps the version of its image
pub use Rattle.rv_isa.proofs.RunRanges.{run-version}
-- each step of a run has the ranges of what it holds, uses, takes, puts and ends with
pub use Rattle.rv_isa.proofs.RunRanges.{runs-fit}
-- the slots of a step rise from 1 to 8
pub use Rattle.rv_isa.proofs.RunRanges.{step-slots-rise}
-- so each of them is 1 to 8
pub use Rattle.rv_isa.proofs.Slots.{all-within}
-- what a row shows in a slot is the old value of its first access there, or 0
pub use Rattle.rv_isa.proofs.Slots.{slot-seen}
-- the cells that a hart has used are the table of the run
pub use Rattle.rv_isa.proofs.TableOfRun.{touched-table}
-- such cells are known, so that a hart may go on from them
pub use Rattle.rv_isa.proofs.TableOfRun.{table-known}
-- a step leaves each cell as it was that it doesn't write
pub use Rattle.rv_isa.proofs.Frame.{Spares, Keeps, step-keeps}
