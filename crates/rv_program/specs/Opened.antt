-- What is known of a program and its input once they are opened.
use Rattle.std.specs.Prelude.{◌≡◌, ℕ, ◌≤◌, List, length, None}
use Rattle.sha2.specs.Sha512.{sha512}
use Rattle.rv_base.specs.declared.limits.TheConstants.{ELF_LIMIT, INPUT_LIMIT}
use Rattle.rv_spec.specs.Words.{AreBytes}
use Rattle.rv_spec.specs.Elf.{Image, first_fault, image}

-- Both files are within their limits, the ELF file has no fault, and what is kept beside them is its image at version 1 and both hashes.
pub record IsOpened (elf input : List ℕ) (loaded : Image) (elf_hash input_hash : List ℕ) : Type 0 where
  pub elf_within : length elf ≤ ELF_LIMIT
  pub input_within : length input ≤ INPUT_LIMIT
  pub elf_bytes : AreBytes elf
  pub input_bytes : AreBytes input
  pub faultless : first_fault elf ≡ None
  pub loaded_is : loaded ≡ image 1 elf
  pub elf_hash_is : elf_hash ≡ sha512 elf
  pub input_hash_is : input_hash ≡ sha512 input
