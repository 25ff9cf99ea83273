-- The front of a record file: its header and the output behind it.
use Rattle.std.specs.Prelude.{ℕ, ◌+◌, Bool, ◌&&◌, ◌||◌, List, ◌∷◌, ◌++◌, take, Option, Some, None, bytes_eq, nat_le, if◌then◌else◌}
use Rattle.std.specs.Int.{w32, w64, to_le_bytes}
use Rattle.rv_base.specs.declared.layout.TheConstants.{HEADER_BYTES}
use Rattle.rv_base.specs.declared.limits.TheConstants.{OUTPUT_LIMIT}
use Rattle.rv_base.specs.declared.record.Header.{Header}
use Rattle.rv_spec.specs.Record.{magic}
use Rattle.rv_rules.specs.Reading.{header_of}

-- the numbers of a header behind some bytes
abbrev pub with_numbers : List ℕ → Header → List ℕ
with_numbers front h =
    front ++ to_le_bytes w32 h.size ++ to_le_bytes w64 h.steps ++ to_le_bytes w32 h.shards
    ++ h.end.kind ∷ to_le_bytes w32 h.end.code ++ to_le_bytes w64 h.consumed ++ to_le_bytes w64 h.length

-- the file begins as one of a version that is known
abbrev pub is_record : List ℕ → Bool
is_record bytes = bytes_eq (take 8 bytes) (magic 1) || bytes_eq (take 8 bytes) (magic 2)

-- the header, if its magic is right
abbrev pub header_in : List ℕ → Option Header
header_in bytes = if is_record bytes then Some (header_of bytes) else None

-- the bytes up to the end of the output, if the header tells where that is
abbrev pub front_length : List ℕ → ℕ
front_length bytes = if is_record bytes && nat_le (header_of bytes).length OUTPUT_LIMIT then HEADER_BYTES + (header_of bytes).length else HEADER_BYTES
