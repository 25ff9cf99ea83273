use Rattle.std.proofs.Common.{◌≡◌, take}
use Rattle.rv_elf.specs.Written.{words_bytes}
use Rattle.rv_asm.proofs.executables.bytes_of.Given as goal

abbrev pub invariant-loop-word : goal.invariant-loop-word
invariant-loop-word l = l.bytes.items ≡ words_bytes (take l.word-index l.words)
