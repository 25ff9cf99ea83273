-- The first line of a source, and those behind it.
use Rattle.std.proofs.Common.{◌≡◌, ℕ, ◌+◌, ◌<◌, ◌≤◌, Bool, true, false, not, cond, List, [], ◌∷◌, length, take, drop, position, Some, None, nat_lt, ◌==◌, suc, refl, ap, ◌∙◌, subst, ne_eqb, arith}
use Rattle.std.proofs.lemmas.Bool.{ltb-true, ltb-false}
use Rattle.std.specs.List.{slice_split, onto_first, position_or_len}
use Rattle.std.specs.Str.Lines.{lines, lines_of_parts, strip_carriage_return}
use Rattle.std.proofs.lemmas.List.Splits.{slice_split_first, length-slice_split}
use Rattle.std.proofs.lemmas.List.Sums.{prefix_len-le-length}

abbrev is_newline : ℕ → Bool
is_newline b = b == 10

-- parts with one before them
part-line : (x : List ℕ) (parts : List (List ℕ)) → 0 < length parts → lines_of_parts (x ∷ parts) ≡ strip_carriage_return x ∷ lines_of_parts parts
part-line x [] h = absurd (omega arith)
part-line x (y ∷ more) h = refl

line-before : (source : List ℕ) → position_or_len is_newline source < length source → lines source ≡ strip_carriage_return (take (position_or_len is_newline source) source) ∷ lines (drop (position_or_len is_newline source + 1) source)
line-before source within =
    let rest : List ℕ = drop (position_or_len is_newline source + 1) source in
    let some : 0 < length (slice_split is_newline rest) = omega (arith, length-slice_split is_newline rest) in
    ap lines_of_parts (slice_split_first is_newline source 0 within) ∙ part-line (take (position_or_len is_newline source) source) (slice_split is_newline rest) some

-- a line that a newline ends
pub line-first : (source : List ℕ) (at : ℕ) → position is_newline source ≡ Some at → lines source ≡ strip_carriage_return (take at source) ∷ lines (drop (at + 1) source)
line-first source at found = by-test (nat_lt (position_or_len is_newline source) (length source)) refl found
  where
    by-test : (b : Bool) → nat_lt (position_or_len is_newline source) (length source) ≡ b → cond b (Some (position_or_len is_newline source)) None ≡ Some at → lines source ≡ strip_carriage_return (take at source) ∷ lines (drop (at + 1) source)
    by-test true less same =
        let is : position_or_len is_newline source ≡ at = cc in
        subst (λ (k : ℕ). lines source ≡ strip_carriage_return (take k source) ∷ lines (drop (k + 1) source)) is (line-before source (ltb-true (position_or_len is_newline source) (length source) less))
    by-test false past same = absurd (cc)

-- a source without a newline is one part
whole-part : (xs : List ℕ) → position_or_len is_newline xs ≡ length xs → slice_split is_newline xs ≡ xs ∷ []
whole-part [] all = refl
whole-part (x ∷ xs) all = by-test (is_newline x) (whole-part xs) all
  where
    by-test : (b : Bool) → (position_or_len is_newline xs ≡ length xs → slice_split is_newline xs ≡ xs ∷ []) → cond (not b) (1 + position_or_len is_newline xs) 0 ≡ suc (length xs) → cond b ([] ∷ slice_split is_newline xs) (onto_first x (slice_split is_newline xs)) ≡ (x ∷ xs) ∷ []
    by-test true later h = absurd (omega arith)
    by-test false later h = ap (onto_first x) (later (omega arith))

pub line-last : (source : List ℕ) → 0 < length source → position is_newline source ≡ None → lines source ≡ source ∷ lines []
line-last source some none = by-test (nat_lt (position_or_len is_newline source) (length source)) refl none
  where
    by-test : (b : Bool) → nat_lt (position_or_len is_newline source) (length source) ≡ b → cond b (Some (position_or_len is_newline source)) None ≡ None → lines source ≡ source ∷ []
    by-test true less same = absurd (cc)
    by-test false past same =
        let high : length source ≤ position_or_len is_newline source = ltb-false (position_or_len is_newline source) (length source) past in
        let low : position_or_len is_newline source ≤ length source = prefix_len-le-length (λ x. not (is_newline x)) source in
        let all : position_or_len is_newline source ≡ length source = omega arith in
        ap lines_of_parts (whole-part source all) ∙ ap (λ (b : Bool). cond b [] (source ∷ [])) (ne_eqb (length source) 0 (λ e. let bad : ⊥ = omega arith in bad))
