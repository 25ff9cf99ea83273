-- The lemmas about executables that other crates cite.

-- the image of a file of bytes without a fault is a program
pub use Rattle.rv_elf.proofs.ProgramLaws.{image-is as image-is-program}
-- the file of writable parts: its size, that it has no fault, and that its image has their bytes
pub use Rattle.rv_elf.proofs.WrittenLaws.{IsWritable, bodies_of, size as written-size, no-fault as written-faultless, whole-image as written-image}
