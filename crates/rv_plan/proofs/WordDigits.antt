-- What a format writes of a word in eight hexadecimal digits.
use Rattle.std.proofs.Common.{◌≡◌, ℕ, ◌-◌, ◌^◌, false, [], ◌++◌, length, replicate, ap, ◌∙◌, append-nil, arith}
use Rattle.std.specs.Fmt.{padded_integral, format_spec, char_count, digits}
use Rattle.rv_plan.specs.Lines.{hex8}

pub padded : (n : ℕ) → padded_integral (format_spec 32 0 4 8 (2 ^ 64 - 1)) false [] (digits 16 false n) ≡ hex8 n
unfolding padded_integral char_count
padded n =
    let short : 8 - length (digits 16 false n) - 0 - 0 ≡ 8 - length (digits 16 false n) = omega arith in
    ap (λ k. replicate k 48 ++ (digits 16 false n ++ [])) short ∙ ap (λ d. replicate (8 - length (digits 16 false n)) 48 ++ d) (append-nil (digits 16 false n))
