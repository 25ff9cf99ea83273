-- What a file without a fault loads has the ranges of a program.
use Rattle.std.proofs.Common.{◌≡◌, ℕ, ◌^◌, ◌<◌, List, [], ◌∷◌, drop, map, None, arith}
use Rattle.std.specs.List.{AllByRecursion}
use Rattle.std.specs.Int.{w32, from_le_bytes}
use Rattle.rv_spec.specs.Words.{AreBytes}
use Rattle.rv_spec.specs.Elf.{Segment, first_fault, load_segments, block_of, image}
use Rattle.rv_rules.specs.Agreement.{IsProgram}
use Rattle.rv_rules.proofs.Lemmas.{byte-fits, take-bytes, drop-bytes}
use Rattle.rv_elf.proofs.HeaderLaws.{entry-aligned}

number-fits : (bytes : List ℕ) → AreBytes bytes → from_le_bytes w32 bytes < 2 ^ 32
number-fits bytes h = omega (arith, byte-fits bytes 0 h, byte-fits bytes 1 h, byte-fits bytes 2 h, byte-fits bytes 3 h)

blocks-are : (file : List ℕ) (ss : List Segment) → AreBytes file → AllByRecursion (λ b. AreBytes b.bytes) (map (block_of file) ss)
blocks-are file [] h = tt
blocks-are file (s ∷ ss) h = (take-bytes s.file_size (drop s.offset file) (drop-bytes s.offset file h), blocks-are file ss h)

pub image-is : (version : ℕ) (file : List ℕ) → AreBytes file → first_fault file ≡ None → IsProgram (image version file)
image-is version file h faultless = record {
  entry = number-fits (drop 24 file) (drop-bytes 24 file h);
  aligned = entry-aligned file faultless;
  bytes = blocks-are file (load_segments file) h;
}
