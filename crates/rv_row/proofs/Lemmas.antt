-- The lemmas of this crate that others cite.
pub use Rattle.rv_row.proofs.Filling.{fills}
pub use Rattle.rv_row.proofs.Numbers.{below32, below64, byte-at-front, field32, field64, wide32, wide64}
pub use Rattle.rv_row.proofs.RowLaws.{all-hold, form-holds, good-again, good-form, hold, length-row_bytes, row-again, row-fits, row-takes}
