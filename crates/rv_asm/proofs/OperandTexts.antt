-- The texts of operands, cut at commas and blanks.
use Rattle.std.proofs.Common.{◌≡◌, ℕ, suc, ◌+◌, ◌-◌, ◌^◌, ◌<◌, ◌≤◌, ℤ, pos, negsuc, Bool, true, false, cond, not, ◌||◌, ◌==◌, List, [], ◌∷◌, ◌++◌, length, take, drop, reverse, slice_index, Some, decimal, refl, ap, ◌∙◌, arith, append_assoc, length-append}
use Rattle.std.specs.Char.{digit_value}
use Rattle.std.specs.Fmt.{signed_decimal}
use Rattle.std.specs.Int.{is_in_range}
use Rattle.std.specs.List.{list_all, before_first, after_first, position_or_len, prefix_len, suffix_len}
use Rattle.std.specs.Str.Parse.{AllDigits}
use Rattle.std.proofs.lemmas.Bool.{and_parts}
use Rattle.std.proofs.lemmas.Bool.Decides.{nat_tests}
use Rattle.std.proofs.lemmas.Fmt.{decimal_is_IsNumeral, digits_is_IsNumeral}
use Rattle.std.proofs.lemmas.List.{take_all, take_at, get_or_at, reverse-append}
use Rattle.std.proofs.lemmas.List.Folds.{list_all-append}
use Rattle.rv_text.specs.Syntax.{hex}
use Rattle.rv_asm.specs.Lines.{is_blank, without_leading_blanks, without_trailing_blanks, trimmed, before, behind}
use Rattle.rv_asm.specs.Numbers.{register}
use Rattle.rv_asm.specs.Statements.{first, second, second_of_two, third_of_three, offset, base, parenthesized_register}
use Rattle.rv_asm.proofs.Spelling.{register-read, number-small}

-- ---- bytes

-- of mnemonics, registers and numbers; of operands; of whole texts
abbrev pub is_word_byte : ℕ → Bool
is_word_byte c = is_in_range 48 57 c || is_in_range 65 90 c || is_in_range 97 122 c || c == 45

abbrev pub is_operand_byte : ℕ → Bool
is_operand_byte c = is_word_byte c || is_in_range 40 41 c

abbrev pub is_text_byte : ℕ → Bool
is_text_byte c = is_operand_byte c || c == 32 || c == 44

abbrev pub Words : List ℕ → Type 0
Words xs = list_all is_word_byte xs ≡ true

abbrev pub Operand : List ℕ → Type 0
Operand xs = list_all is_operand_byte xs ≡ true

pub all-imply : (p q : ℕ → Bool) → ((b : ℕ) → p b ≡ true → q b ≡ true) → (xs : List ℕ) → list_all p xs ≡ true → list_all q xs ≡ true
all-imply p q f [] h = refl
all-imply p q f (x ∷ xs) h = let both = and_parts (p x) (list_all p xs) h in rw (f x both.0) (all-imply p q f xs both.1)

pub all-join : (p : ℕ → Bool) (xs ys : List ℕ) → list_all p xs ≡ true → list_all p ys ≡ true → list_all p (xs ++ ys) ≡ true
all-join p xs ys a b = list_all-append p xs ys ∙ rw (a, b) refl

word-operand : (b : ℕ) → is_word_byte b ≡ true → is_operand_byte b ≡ true
word-operand b h = rw h refl

pub words-operand : (xs : List ℕ) → Words xs → Operand xs
words-operand xs h = all-imply is_word_byte is_operand_byte word-operand xs h

-- bytes that pass one test fail another
abbrev Fails : (ℕ → Bool) → List ℕ → Type 0
Fails p xs = list_all (λ b. not (p b)) xs ≡ true

operand-visible : (b : ℕ) → is_operand_byte b ≡ true → not (is_blank b) ≡ true
operand-visible b h = grind (arith, nat_tests)

operand-no-comma : (b : ℕ) → is_operand_byte b ≡ true → not (b == 44) ≡ true
operand-no-comma b h = grind (arith, nat_tests)

word-no-parenthesis : (b : ℕ) → is_word_byte b ≡ true → not (b == 40) ≡ true
word-no-parenthesis b h = grind (arith, nat_tests)

visible : (xs : List ℕ) → Operand xs → Fails is_blank xs
visible xs h = all-imply is_operand_byte (λ b. not (is_blank b)) operand-visible xs h

no-comma : (xs : List ℕ) → Operand xs → Fails (λ b. b == 44) xs
no-comma xs h = all-imply is_operand_byte (λ b. not (b == 44)) operand-no-comma xs h

no-parenthesis : (xs : List ℕ) → Words xs → Fails (λ b. b == 40) xs
no-parenthesis xs h = all-imply is_word_byte (λ b. not (b == 40)) word-no-parenthesis xs h

digit-word : (b : ℕ) → digit_value b < 16 → is_word_byte b ≡ true
digit-word b h = grind (arith, nat_tests)

digits-words : (base : ℕ) (ds : List ℕ) → base ≤ 16 → AllDigits base ds → Words ds
digits-words base [] low all = refl
digits-words base (c ∷ cs) low all = rw (digit-word c (omega (arith, all.0))) (digits-words base cs low all.1)

pub decimal-words : (n : ℕ) → n < 2 ^ 63 → Words (decimal n)
decimal-words n small = digits-words 10 (decimal n) (omega arith) (decimal_is_IsNumeral n (omega arith)).0.1

pub signed-words : (z : ℤ) → number-small z → Words (signed_decimal z)
signed-words (pos n) small = decimal-words n small
signed-words (negsuc n) small = decimal-words (suc n) small

pub hex-words : (u : ℕ) → u < 2 ^ 20 → Words (48 ∷ 120 ∷ hex u)
hex-words u small = digits-words 16 (hex u) (omega arith) (digits_is_IsNumeral 16 false (omega arith) (omega arith) u (omega arith)).0.1

pub register-words : (r : ℕ) → r < 32 → Words (120 ∷ decimal r)
register-words r small = decimal-words r (omega arith)

-- ---- cuts

skip : (p : ℕ → Bool) (xs ys : List ℕ) → Fails p xs → position_or_len p (xs ++ ys) ≡ length xs + position_or_len p ys
skip p [] ys h = omega arith
skip p (x ∷ xs) ys h =
    let both = and_parts (not (p x)) (list_all (λ b. not (p b)) xs) h in
    rw (both.0) (let later = skip p xs ys both.1 in omega arith)

-- at the first byte that passes
pub cut-before : (p : ℕ → Bool) (xs ys : List ℕ) (c : ℕ) → Fails p xs → p c ≡ true → before_first p (xs ++ c ∷ ys) ≡ xs
cut-before p xs ys c h here =
    let at : position_or_len p (xs ++ c ∷ ys) ≡ length xs = skip p xs (c ∷ ys) h ∙ (rw here (omega arith)) in
    ap (λ (n : ℕ). take n (xs ++ c ∷ ys)) at ∙ take_at xs (c ∷ ys) (length xs) refl

drop-behind : (xs ys : List ℕ) (c : ℕ) → drop (length xs + 1) (xs ++ c ∷ ys) ≡ ys
drop-behind [] ys c = let one : 0 + 1 ≡ 1 = omega arith in ap (λ (n : ℕ). drop n (c ∷ ys)) one
drop-behind (x ∷ xs) ys c = let next : suc (length xs) + 1 ≡ suc (length xs + 1) = omega arith in ap (λ (n : ℕ). drop n (x ∷ (xs ++ c ∷ ys))) next ∙ drop-behind xs ys c

pub cut-behind : (p : ℕ → Bool) (xs ys : List ℕ) (c : ℕ) → Fails p xs → p c ≡ true → after_first p (xs ++ c ∷ ys) ≡ ys
cut-behind p xs ys c h here =
    let at : position_or_len p (xs ++ c ∷ ys) ≡ length xs = skip p xs (c ∷ ys) h ∙ (rw here (omega arith)) in
    ap (λ (n : ℕ). drop (n + 1) (xs ++ c ∷ ys)) at ∙ drop-behind xs ys c

-- where none passes
pub none-at : (p : ℕ → Bool) (xs : List ℕ) → Fails p xs → position_or_len p xs ≡ length xs
none-at p [] h = refl
none-at p (x ∷ xs) h =
    let both = and_parts (not (p x)) (list_all (λ b. not (p b)) xs) h in
    rw (both.0) (let later = none-at p xs both.1 in omega arith)

-- ---- blanks

no-blank-first : (xs : List ℕ) → Fails is_blank xs → prefix_len is_blank xs ≡ 0
no-blank-first [] h = refl
no-blank-first (x ∷ xs) h = by-test (is_blank x) (and_parts (not (is_blank x)) (list_all (λ b. not (is_blank b)) xs) h).0
  where
    by-test : (b : Bool) → not b ≡ true → cond b (1 + prefix_len is_blank xs) 0 ≡ 0
    by-test true e = absurd (cc)
    by-test false e = refl

all-reverse : (p : ℕ → Bool) (xs : List ℕ) → list_all p xs ≡ true → list_all p (reverse xs) ≡ true
all-reverse p [] h = refl
all-reverse p (x ∷ xs) h =
    let both = and_parts (p x) (list_all p xs) h in
    ap (list_all p) (reverse-append (x ∷ []) xs) ∙ all-join p (reverse xs) (x ∷ []) (all-reverse p xs both.1) (rw both.0 refl)

pub trailing : (xs : List ℕ) → Fails is_blank xs → without_trailing_blanks xs ≡ xs
trailing xs h =
    let none : suffix_len is_blank xs ≡ 0 = no-blank-first (reverse xs) (all-reverse (λ b. not (is_blank b)) xs h) in
    take_all (length xs - suffix_len is_blank xs) xs (omega arith)

pub leading : (xs : List ℕ) → Fails is_blank xs → without_leading_blanks xs ≡ xs
leading xs h = ap (λ (n : ℕ). drop n xs) (no-blank-first xs h)

pub trimmed-word : (xs : List ℕ) → Operand xs → trimmed xs ≡ xs
unfolding trimmed
trimmed-word xs h = ap without_trailing_blanks (leading xs (visible xs h)) ∙ trailing xs (visible xs h)

pub trimmed-blank : (xs : List ℕ) → Operand xs → trimmed (32 ∷ xs) ≡ xs
unfolding trimmed
trimmed-blank xs h =
    let one : prefix_len is_blank (32 ∷ xs) ≡ 1 = let zero-more = no-blank-first xs (visible xs h) in omega arith in
    ap (λ (n : ℕ). without_trailing_blanks (drop n (32 ∷ xs))) one ∙ trailing xs (visible xs h)

-- ---- operands between commas

abbrev pub comma : List ℕ
comma = 44 ∷ 32 ∷ []

pub two-texts : (a b : List ℕ) → Operand a → Operand b → (first (a ++ comma ++ b) ≡ a) × (second_of_two (a ++ comma ++ b) ≡ b)
unfolding before behind
two-texts a b ha hb =
    let whole : a ++ comma ++ b ≡ a ++ (44 ∷ 32 ∷ b) = append_assoc a comma b in (
      ap first whole ∙ ap trimmed (cut-before (λ c. c == 44) a (32 ∷ b) 44 (no-comma a ha) refl) ∙ trimmed-word a ha,
      ap second_of_two whole ∙ ap trimmed (cut-behind (λ c. c == 44) a (32 ∷ b) 44 (no-comma a ha) refl) ∙ trimmed-blank b hb,
    )

pub three-texts : (a b c : List ℕ) → Operand a → Operand b → Operand c → (first (a ++ comma ++ b ++ comma ++ c) ≡ a) × (second (a ++ comma ++ b ++ comma ++ c) ≡ b) × (third_of_three (a ++ comma ++ b ++ comma ++ c) ≡ c)
unfolding before behind
three-texts a b c ha hb hc =
    let whole : a ++ comma ++ b ++ comma ++ c ≡ a ++ (44 ∷ (32 ∷ (b ++ (44 ∷ 32 ∷ c)))) = simp append_assoc in
    let cut : after_first (λ x. x == 44) (a ++ (44 ∷ (32 ∷ (b ++ (44 ∷ 32 ∷ c))))) ≡ 32 ∷ (b ++ (44 ∷ 32 ∷ c)) = cut-behind (λ x. x == 44) a (32 ∷ (b ++ (44 ∷ 32 ∷ c))) 44 (no-comma a ha) refl in
    let blank-b : Fails (λ x. x == 44) (32 ∷ b) = no-comma b hb in (
      ap first whole ∙ ap trimmed (cut-before (λ x. x == 44) a (32 ∷ (b ++ (44 ∷ 32 ∷ c))) 44 (no-comma a ha) refl) ∙ trimmed-word a ha,
      ap second whole ∙ ap (λ (t : List ℕ). trimmed (before_first (λ x. x == 44) t)) cut ∙ ap trimmed (cut-before (λ x. x == 44) (32 ∷ b) (32 ∷ c) 44 blank-b refl) ∙ trimmed-blank b hb,
      ap third_of_three whole ∙ ap (λ (t : List ℕ). trimmed (after_first (λ x. x == 44) t)) cut ∙ ap trimmed (cut-behind (λ x. x == 44) (32 ∷ b) (32 ∷ c) 44 blank-b refl) ∙ trimmed-blank c hc,
    )

-- an offset and a base
abbrev pub indexed : List ℕ → ℕ → List ℕ
indexed s r = s ++ (40 ∷ ((120 ∷ decimal r) ++ 41 ∷ []))

pub offset-text : (s : List ℕ) (r : ℕ) → Words s → offset (indexed s r) ≡ s
unfolding before
offset-text s r h = cut-before (λ c. c == 40) s ((120 ∷ decimal r) ++ 41 ∷ []) 40 (no-parenthesis s h) refl

inside : (t : List ℕ) (r : List ℕ) → t ≡ r ++ 41 ∷ [] → parenthesized_register t ≡ register r
inside t r is =
    let long : length t - 1 ≡ length r = let e = ap length is ∙ length-append r (41 ∷ []) in omega arith in
    let last : slice_index t (length t - 1) ≡ 41 = ap (λ (n : ℕ). slice_index t n) long ∙ ap (λ (u : List ℕ). slice_index u (length r)) is ∙ get_or_at r 41 [] 0 (length r) refl in
    let front : take (length t - 1) t ≡ r = ap (λ (n : ℕ). take n t) long ∙ ap (take (length r)) is ∙ take_at r (41 ∷ []) (length r) refl in
    rw (last, front) refl

pub base-text : (s : List ℕ) (r : ℕ) → Words s → r < 32 → base (indexed s r) ≡ Some r
unfolding behind
base-text s r h small = inside (after_first (λ c. c == 40) (indexed s r)) (120 ∷ decimal r) (cut-behind (λ c. c == 40) s ((120 ∷ decimal r) ++ 41 ∷ []) 40 (no-parenthesis s h) refl) ∙ register-read r small
