-- The lemmas that the crates above cite.

-- Some is injective, and is not None
pub use Rattle.rv_book.proofs.Entering.{some-inj, some-not-none}
-- the first n pieces have that of each index below n
pub use Rattle.rv_book.proofs.Whole.{piece-below}
-- a number more at the end of numbers in a row
pub use Rattle.rv_book.proofs.Whole.{range-snoc}
-- a deposit of an index that isn't in the book enters it
pub use Rattle.rv_book.proofs.Whole.{enters-new}
-- a book of the first n pieces whose journal names their indices in rising order is whole
pub use Rattle.rv_book.proofs.Whole.{whole}
-- one permitted event more, and what a draw does to the lists
pub use Rattle.rv_book.proofs.BoardSteps.{leads-more, drawn-here, drawn-else}
pub use Rattle.rv_book.proofs.BoardLaws.{length-draw}
