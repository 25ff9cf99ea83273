-- Numbers, names and registers as a source spells them (this project's own; of registers, the RISC-V Assembly Programmer's Handbook).
use Rattle.std.specs.Prelude.{ℕ, Bool, not, ◌&&◌, ◌||◌, List, length, drop, ℤ, pos, neg_ℤ, Option, Some, None, nat_lt, ◌==◌, slice_index, if◌then◌else◌}
use Rattle.std.specs.Char.{is_digit}
use Rattle.std.specs.Int.{is_in_range}
use Rattle.std.specs.List.{list_all}
use Rattle.std.specs.Option.{option_map}
use Rattle.std.specs.Str.Parse.{digits_value}

abbrev pub are_digits : ℕ → List ℕ → Bool
are_digits base text = list_all (λ c. is_digit c base) text

-- 0, or 1 to 20 digits of which the first isn't 0
abbrev pub is_decimal : List ℕ → Bool
is_decimal text = is_in_range 1 20 (length text) && are_digits 10 text && (length text == 1 || not (slice_index text 0 == 48))

-- 1 to 8 hexadecimal digits of either case
abbrev pub is_hexadecimal : List ℕ → Bool
is_hexadecimal text = is_in_range 1 8 (length text) && are_digits 16 text

-- a number without a sign: decimal, or hexadecimal behind `0x`
abbrev pub decimal_number : List ℕ → Option ℕ
decimal_number text = if is_decimal text then Some (digits_value 10 text) else None

abbrev pub hexadecimal_number : List ℕ → Option ℕ
hexadecimal_number text = if is_hexadecimal text then Some (digits_value 16 text) else None

unfoldable pub magnitude : List ℕ → Option ℕ
magnitude text = if slice_index text 0 == 48 && slice_index text 1 == 120 then hexadecimal_number (drop 2 text) else decimal_number text

-- a number: a magnitude, and before it `-` or nothing
unfoldable pub number : List ℕ → Option ℤ
number text = if slice_index text 0 == 45 then option_map (λ n. neg_ℤ (pos n)) (magnitude (drop 1 text)) else option_map pos (magnitude text)

-- a register: x0 to x31
abbrev pub register_numbered : Option ℕ → Option ℕ
register_numbered (Some n) = if nat_lt n 32 then Some n else None
register_numbered None = None

unfoldable pub register : List ℕ → Option ℕ
register text = if slice_index text 0 == 120 then register_numbered (decimal_number (drop 1 text)) else None

-- a name: a letter or `_`, then up to 63 letters, digits or `_`
abbrev pub is_letter : ℕ → Bool
is_letter c = is_in_range 65 90 c || is_in_range 97 122 c || c == 95

abbrev pub is_name_byte : ℕ → Bool
is_name_byte c = is_letter c || is_in_range 48 57 c

abbrev pub are_name_bytes : List ℕ → Bool
are_name_bytes text = list_all is_name_byte text

abbrev pub is_name : List ℕ → Bool
is_name text = is_in_range 1 64 (length text) && is_letter (slice_index text 0) && are_name_bytes text
