-- What a record is judged for.
use Rattle.std.specs.Prelude.{ℕ, List}

-- the bytes of an ELF file, and those of the input
pub record Files : Type 0 where
  pub elf : List ℕ
  pub input : List ℕ
