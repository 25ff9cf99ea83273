-- The record of a run: its header, its output, its shards and its table.
use Rattle.std.proofs.Common.{◌≡◌, ℕ, List, ◌++◌, length, arith, length-append}
use Rattle.std.specs.List.{flat_map}
use Rattle.std.specs.Int.{div_ceil}
use Rattle.sha2.proofs.Facts512.{length-sha512}
use Rattle.rv_base.specs.declared.record.End.{End}
use Rattle.rv_base.specs.declared.record.Header.{Header}
use Rattle.rv_spec.specs.Elf.{Image, image}
use Rattle.rv_spec.specs.Run.{run}
use Rattle.rv_spec.specs.Digest.{Lanes}
use Rattle.rv_spec.specs.Trace.{table}
use Rattle.rv_spec.specs.Record.{header_bytes, shard_bytes, table_bytes, header, file_bytes}
use Rattle.rv_rules.specs.Agreement.{IsProgram}
use Rattle.rv_elf.proofs.Lemmas.{image-is-program}
use Rattle.rv_isa.proofs.Lemmas.{runs-fit}
use Rattle.rv_length.specs.Lengths.{IsWithinBound, IsWithinLimit}
use Rattle.rv_length.proofs.TableOfRun.{table-at-most}
use Rattle.rv_length.proofs.ShardsOfRun.{shards_from, shards-at-most}

header-length : (h : Header) → length h.elf ≡ 64 → length h.input ≡ 64 → length (header_bytes h) ≡ 173
unfolding header_bytes
header-length h elf input = simp (length-append, elf, input) (omega arith)

pub within-bound : (lanes : Lanes) (version : ℕ) (elf input : List ℕ) (size n : ℕ) (e : End) → IsWithinBound lanes version elf input size n e
unfolding file_bytes
within-bound lanes version elf input size n e elf_bytes input_bytes faultless =
    let i : Image = image version elf in
    let program : IsProgram i = image-is-program version elf elf_bytes faultless in
    let h : Header = header version elf input size n e in
    let output : List ℕ = (run i input n).output in
    let shards : List ℕ = flat_map shard_bytes (shards_from lanes i input size n 0 (div_ceil n size)) in
    let entries : List ℕ = table_bytes (table i input n) in
    omega (
      arith,
      length-append (header_bytes h) output,
      length-append (header_bytes h ++ output) shards,
      length-append (header_bytes h ++ output ++ shards) entries,
      header-length h (length-sha512 elf) (length-sha512 input),
      shards-at-most lanes i input size n (div_ceil n size),
      table-at-most i input (runs-fit i input program input_bytes) n,
    )

pub within-limit : (lanes : Lanes) (version : ℕ) (elf input : List ℕ) (size n : ℕ) (e : End) → IsWithinLimit lanes version elf input size n e
within-limit lanes version elf input size n e elf_bytes input_bytes faultless within few =
    let program : IsProgram (image version elf) = image-is-program version elf elf_bytes faultless in
    omega (arith, within-bound lanes version elf input size n e elf_bytes input_bytes faultless, (runs-fit (image version elf) input program input_bytes n).put_most, within, few)
