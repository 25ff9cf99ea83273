-- Decimal and hexadecimal digits, one more at the end.
use Rattle.std.proofs.Common.{◌≡◌, ℕ, zero, suc, ◌+◌, ◌/◌, ◌%◌, ◌^◌, ◌<◌, ◌≤◌, Bool, false, cond, List, [], ◌∷◌, ◌++◌, length, decimal, refl, sym, ap, ◌∙◌, append_assoc, ⊎_elim, lt-ltb, eq-eqb, ne_eqb, arith}
use Rattle.std.specs.Fmt.{digit_glyph, digits_onto, digits}
use Rattle.std.proofs.lemmas.List.{length-append}
use Rattle.std.proofs.lemmas.Fmt.{decimal_digit, decimal_step}
use Rattle.std.proofs.lemmas.Bool.{cases_lt}
use Rattle.rv_text.specs.Syntax.{hex}

abbrev spell : ℕ → ℕ → List ℕ → List ℕ
spell k n acc = digits_onto k 16 false n acc

abbrev last : ℕ → ℕ
last n = digit_glyph false (n % 16)

spell-last : (k n : ℕ) (acc : List ℕ) → n < 16 → spell (suc k) n acc ≡ last n ∷ acc
spell-last k n acc h = ap (λ t. cond t (last n ∷ acc) (spell k (n / 16) (last n ∷ acc))) (eq-eqb (n / 16) 0 (omega arith))

spell-next : (k n : ℕ) (acc : List ℕ) → 16 ≤ n → spell (suc k) n acc ≡ spell k (n / 16) (last n ∷ acc)
spell-next k n acc h = ap (λ t. cond t (last n ∷ acc) (spell k (n / 16) (last n ∷ acc))) (ne_eqb (n / 16) 0 (λ e. omega arith))

spell-append : (k n : ℕ) (acc : List ℕ) → spell k n acc ≡ spell k n [] ++ acc
spell-append zero n acc = refl
spell-append (suc k) n acc = ⊎_elim
    (λ l. spell-last k n acc l ∙ ap (λ x. x ++ acc) (sym (spell-last k n [] l)))
    (λ l. spell-next k n acc l ∙ spell-append k (n / 16) (last n ∷ acc) ∙ sym (append_assoc (spell k (n / 16) []) (last n ∷ []) acc) ∙ ap (λ x. x ++ acc) (sym (spell-next k n [] l ∙ spell-append k (n / 16) (last n ∷ []))))
    (cases_lt n 16)

-- the limit of digits doesn't matter once it is large enough
spell-enough : (j k n : ℕ) (acc : List ℕ) → n < 16 ^ suc j → n < 16 ^ suc k → spell (suc j) n acc ≡ spell (suc k) n acc
spell-enough zero k n acc p q = spell-last zero n acc (omega arith) ∙ sym (spell-last k n acc (omega arith))
spell-enough (suc j) zero n acc p q = spell-last (suc j) n acc (omega arith) ∙ sym (spell-last zero n acc (omega arith))
spell-enough (suc j) (suc k) n acc p q = ⊎_elim
    (λ l. spell-last (suc j) n acc l ∙ sym (spell-last (suc k) n acc l))
    (λ l. spell-next (suc j) n acc l ∙ spell-enough j k (n / 16) (last n ∷ acc) (omega arith) (omega arith) ∙ sym (spell-next (suc k) n acc l))
    (cases_lt n 16)

hex-is : (n : ℕ) → hex n ≡ spell 64 n []
unfolding digits
hex-is n = refl

pub hex-one : (n : ℕ) → n < 16 → hex n ≡ digit_glyph false (n % 16) ∷ []
hex-one n small = hex-is n ∙ spell-last 63 n [] small

pub hex-more : (n : ℕ) → 16 ≤ n → n < 2 ^ 32 → hex n ≡ hex (n / 16) ++ digit_glyph false (n % 16) ∷ []
hex-more n h small =
    hex-is n ∙ spell-next 63 n [] h ∙ spell-enough 62 63 (n / 16) (last n ∷ []) (omega arith) (omega arith) ∙ spell-append 64 (n / 16) (last n ∷ [])
    ∙ ap (λ x. x ++ last n ∷ []) (sym (hex-is (n / 16)))

pub length-hex : (k n : ℕ) → n < 16 ^ suc k → n < 2 ^ 32 → length (hex n) ≤ suc k
length-hex zero n small within = omega (arith, ap length (hex-one n (omega arith)))
length-hex (suc k) n small within = ⊎_elim
    (λ l. omega (arith, ap length (hex-one n l)))
    (λ l. omega (arith, ap length (hex-more n l within), length-append (hex (n / 16)) (last n ∷ []), length-hex k (n / 16) (omega arith) (omega arith)))
    (cases_lt n 16)

glyph-below-ten : (d : ℕ) → d < 10 → digit_glyph false d ≡ 48 + d
glyph-below-ten d small = ap (λ (t : Bool). cond t (48 + d) (87 + d)) (lt-ltb d 10 small)

pub decimal-one : (n : ℕ) → n < 10 → decimal n ≡ digit_glyph false (n % 10) ∷ []
decimal-one n small =
    let same : n ≡ n % 10 = omega arith in
    decimal_digit n small ∙ ap (λ d. d ∷ []) (ap (λ k. 48 + k) same ∙ sym (glyph-below-ten (n % 10) (omega arith)))

pub decimal-more : (n : ℕ) → 10 ≤ n → n < 2 ^ 32 → decimal n ≡ decimal (n / 10) ++ digit_glyph false (n % 10) ∷ []
decimal-more n h small =
    decimal_step n h (omega arith) ∙ ap (λ d. decimal (n / 10) ++ d ∷ []) (sym (glyph-below-ten (n % 10) (omega arith)))

-- ---- a number whose front was written is written whole by its last digit

pub after-digit : (before text new front whole : List ℕ) (d : ℕ) → text ≡ before ++ front → new ≡ text ++ d ∷ [] → whole ≡ front ++ d ∷ [] → new ≡ before ++ whole
after-digit before text new front whole d e f g = f ∙ ap (λ x. x ++ d ∷ []) e ∙ append_assoc before front (d ∷ []) ∙ ap (λ x. before ++ x) (sym g)

pub room-for-digit : (before text front whole : List ℕ) (d most : ℕ) → text ≡ before ++ front → whole ≡ front ++ d ∷ [] → length before + length whole ≤ most → length text + 1 ≤ most
room-for-digit before text front whole d most e g le =
    omega (arith, ap length e, ap length g, length-append before front, length-append front (d ∷ []))
