-- What a call reads, and what it adds.
use Rattle.std.specs.Prelude.{◌≡◌, ◌⊎◌, ℕ, ◌-◌, ◌≤◌, min, List, ◌++◌, length, take, drop, Option}
use Rattle.std.specs.Option.{option_map}
use Rattle.rv_host.specs.Files.{Files, with_added}

-- the number of bytes that a read takes: the bytes left from a place on, as far as they fit and as a cap allows
abbrev pub read_count : List ℕ → ℕ → ℕ → ℕ → ℕ
read_count file at size most = min (min (length file - at) size) most

-- a buffer after such a read
abbrev pub read_into : List ℕ → ℕ → ℕ → List ℕ → List ℕ
read_into file at most into =
    let count = read_count file at (length into) most in take count (drop at file) ++ drop count into

-- The first bytes of a buffer are those of a file from a place on. There are none only where the
-- buffer is empty, or no bytes are left.
pub record Reads (file : List ℕ) (at count : ℕ) (old new : List ℕ) : Type 0 where
  pub bytes : take count new ≡ take count (drop at file)
  pub none : count ≡ 0 → (length old ≡ 0) ⊎ (length file ≤ at)

-- a prefix of some bytes is added at the end of a file
abbrev pub AddsPrefix : Option Files → Option Files → List ℕ → List ℕ → Type 0
AddsPrefix old new name bytes =
    (new ≡ old) ⊎ ((taken : ℕ) × (new ≡ option_map (λ told. with_added told name (take taken bytes)) old))

-- a prefix of some bytes is put at the end of others
abbrev pub PutsPrefix : Option (List ℕ) → Option (List ℕ) → List ℕ → Type 0
PutsPrefix old new bytes = (taken : ℕ) × (new ≡ option_map (λ told. told ++ take taken bytes) old)
