-- Names are text.
use Rattle.std.proofs.Common.{◌≡◌, ℕ, ◌<◌, true, cond, List, [], ◌∷◌, Option, Some, None, Result, Ok, Err, Bor, MatchResult, ap, arith}
use Rattle.std.specs.Option.{option_map}
use Rattle.std.specs.Result.{result_ok}
use Rattle.std.specs.Str.{IsAscii, IsUtf8}
use Rattle.std.proofs.lemmas.Bool.{and_parts}
use Rattle.std.proofs.lemmas.Bool.Decides.{nat_tests}
use Rattle.std.proofs.lemmas.Str.{IsUtf8-from_ascii}
use Rattle.std.proofs.lemmas.Str.Ascii.{IsAscii-nil, IsAscii-cons}
use Rattle.rv_asm.specs.Numbers.{is_name_byte, are_name_bytes, is_name}

byte-ascii : (b : ℕ) → is_name_byte b ≡ true → b < 128
byte-ascii b h = grind (arith, nat_tests)

bytes-ascii : (text : List ℕ) → are_name_bytes text ≡ true → IsAscii text
bytes-ascii [] h = IsAscii-nil
bytes-ascii (b ∷ bs) h =
    let both = and_parts (is_name_byte b) (are_name_bytes bs) h in
    IsAscii-cons b bs (byte-ascii b both.0) (bytes-ascii bs both.1)

pub name-text : (text : List ℕ) → is_name text ≡ true → IsUtf8 text
name-text text h = IsUtf8-from_ascii text (bytes-ascii text (and_parts _ (are_name_bytes text) h).1)

-- what is read of a name is its text
pub name-read : {E : Type 0} (P : E → Type 0) (text : List ℕ) (r : Result (Bor (List ℕ)) E) (o : Option (Bor (List ℕ))) → is_name text ≡ true → MatchResult r (λ s. (s.now ≡ text) × IsUtf8 text) (λ e. ¬ (IsUtf8 text) × P e) → o ≡ result_ok r → option_map (λ s. s.now) o ≡ cond (is_name text) (Some text) None
name-read P text (Ok s) o named cases same = rw (same, named) (ap (λ (t : List ℕ). Some t) cases.0)
name-read P text (Err e) o named cases same = absurd (cases.0 (name-text text named))
