-- The lemmas of this crate that others cite.
pub use Rattle.rv_plan.proofs.Answering.{at-most-8, listed-answer, listed-if, listed-program, listed-read, listed-within, nothing-written, reaches-told, refusal-listed, success-listed}
pub use Rattle.rv_plan.proofs.Plans.{handed-on, image-refused, left, performs-behind, performs-loaded, performs-read, reaches-program, read-stops, writes-fail}
pub use Rattle.rv_plan.proofs.Running.{performs-done, performs-torn}
pub use Rattle.rv_plan.proofs.Fronts.{front-more, front-whole}
