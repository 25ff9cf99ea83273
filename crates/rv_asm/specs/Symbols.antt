-- The symbols of a source: its labels with their lines and addresses (this project's own).
use Rattle.std.specs.Prelude.{ℕ, ◌+◌, ◌*◌, Bool, false, nat_lt, ℤ, pos, ◌-ℤ◌, List, [], ◌∷◌, ◌++◌, Option, Some, None, String, bytes_eq, string_bytes}
use Rattle.std.specs.declared.alloc.Global.{Global}
use Rattle.std.specs.List.{find}
use Rattle.std.specs.Option.{option_map}
use Rattle.rv_asm.specs.declared.limits.TheConstants.{CODE_START}
use Rattle.rv_asm.specs.declared.symbols.Place.{Place}

-- a label, the number of its line, counted from 1, and its address
pub record Symbol : Type 0 where
  pub name : List ℕ
  pub line : ℕ
  pub address : ℕ

abbrev pub symbol_named : List Symbol → List ℕ → Option Symbol
symbol_named symbols name = find (λ s. bytes_eq name s.name) symbols

-- the symbols with a further label, unless there is one of its name
abbrev pub with_name : List Symbol → ℕ → ℕ → List ℕ → Option Symbol → List Symbol
with_name symbols line address name (Some earlier) = symbols
with_name symbols line address name None = symbols ++ record { name = name; line = line; address = address } ∷ []

-- the address of statement k, counted from 0
abbrev pub address_of : ℕ → ℕ
address_of k = CODE_START + 4 * k

-- a name means its address less the statement's own
abbrev pub distance : List Symbol → ℕ → List ℕ → Option ℤ
distance symbols k name = option_map (λ s. pos s.address -ℤ pos (address_of k)) (symbol_named symbols name)

-- whether a symbol stands on an earlier line than n
abbrev pub is_before : ℕ → Option Symbol → Bool
is_before n (Some s) = nat_lt s.line n
is_before n None = false

-- ---- how they are kept

abbrev pub place_of : Symbol → Place
place_of s = record { line = s.line; address = s.address }

abbrev pub symbol_of : String Global × Place → Symbol
symbol_of e = record { name = string_bytes e.0; line = e.1.line; address = e.1.address }
