-- What stands on a line of a source: a label, a statement, a comment (this project's own).
use Rattle.std.specs.Prelude.{ℕ, ◌+◌, ◌-◌, Bool, ◌||◌, List, length, take, drop, Option, Some, None, position, ◌==◌}
use Rattle.std.specs.Int.{is_in_range}
use Rattle.std.specs.List.{prefix_len, suffix_len, before_first, after_first}

-- ---- texts

-- a space or a tab
abbrev pub is_blank : ℕ → Bool
is_blank c = c == 32 || c == 9

abbrev pub without_leading_blanks : List ℕ → List ℕ
without_leading_blanks text = drop (prefix_len is_blank text) text

abbrev pub without_trailing_blanks : List ℕ → List ℕ
without_trailing_blanks text = take (length text - suffix_len is_blank text) text

unfoldable pub trimmed : List ℕ → List ℕ
trimmed text = without_trailing_blanks (without_leading_blanks text)

-- what stands before the first byte c, or all, and what stands behind it, or nothing
unfoldable pub before : ℕ → List ℕ → List ℕ
before c text = before_first (λ b. b == c) text

unfoldable pub behind : ℕ → List ℕ → List ℕ
behind c text = after_first (λ b. b == c) text

-- ---- lines

-- what a comment leaves, which `#` begins
abbrev pub code : List ℕ → List ℕ
code line = before 35 line

-- a byte that may stand in it: of printable ASCII, or a tab
abbrev pub is_plain : ℕ → Bool
is_plain c = is_in_range 0x20 0x7E c || c == 9

-- a label ends at the first colon, and a statement follows it, or is all where there is no colon; without leading blanks
abbrev pub colon : List ℕ → Option ℕ
colon text = position (λ b. b == 58) text

abbrev pub label_before : List ℕ → Option ℕ → Option (List ℕ)
label_before text (Some at) = Some (without_leading_blanks (take at text))
label_before text None = None

abbrev pub statement_behind : List ℕ → Option ℕ → List ℕ
statement_behind text (Some at) = without_leading_blanks (drop (at + 1) text)
statement_behind text None = without_leading_blanks text

unfoldable pub label_text : List ℕ → Option (List ℕ)
label_text line = label_before (code line) (colon (code line))

unfoldable pub statement_text : List ℕ → List ℕ
statement_text line = statement_behind (code line) (colon (code line))

-- a statement's mnemonic ends at the first blank, and its operands follow
unfoldable pub mnemonic_text : List ℕ → List ℕ
mnemonic_text statement = before_first is_blank statement

unfoldable pub operands_text : List ℕ → List ℕ
operands_text statement = after_first is_blank statement
