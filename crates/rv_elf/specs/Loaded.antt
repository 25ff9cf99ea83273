-- Memory before the first step.
use Rattle.std.specs.Prelude.{[]}
use Rattle.rv_spec.specs.Words.{Memory}
use Rattle.rv_spec.specs.Elf.{Image}

-- the memory that an image loads
abbrev pub loaded : Image → Memory
loaded i = record { blocks = i.blocks; written = [] }
