-- The lemmas of this crate that others cite.
pub use Rattle.rv_host.proofs.FileLaws.{file-with_file, found-with_file-other, with_added-with_file}
