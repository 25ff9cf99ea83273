-- The executable of a source's words, and what its image has (this project's own).
use Rattle.std.specs.Prelude.{◌≡◌, ℕ, ◌<◌, List, [], ◌∷◌, length, slice_index}
use Rattle.std.specs.Int.{w32, from_le_bytes}
use Rattle.rv_spec.specs.Words.{bytes_from}
use Rattle.rv_spec.specs.Elf.{Image}
use Rattle.rv_elf.specs.ElfFile.{PartBytes, elf_file}
use Rattle.rv_elf.specs.Loaded.{loaded}
use Rattle.rv_elf.specs.Written.{words_bytes}
use Rattle.rv_asm.specs.declared.limits.TheConstants.{CODE_START}
use Rattle.rv_asm.specs.Symbols.{address_of}

-- its one part
abbrev pub part_of : List ℕ → PartBytes
part_of words = record { address = CODE_START; bytes = words_bytes words; size = length (words_bytes words) }

-- which begins at the first word
unfoldable pub executable : List ℕ → List ℕ
executable words = elf_file CODE_START (part_of words ∷ [])

-- each word stands at its statement's address
abbrev pub HoldsWords : List ℕ → Image → Type 0
HoldsWords words i = (k : ℕ) → k < length words → from_le_bytes w32 (bytes_from (loaded i) (address_of k) 4) ≡ slice_index words k
