-- What a format writes of a number of eight hexadecimal digits, and what stands after a text was written.
use Rattle.std.proofs.Common.{◌≡◌, ℕ, ◌-◌, ◌^◌, false, [], ◌++◌, length, replicate, ap, ◌∙◌, arith, Result, Ok, Err, OnOk}
use Rattle.std.proofs.lemmas.List.{append-nil}
use Rattle.std.specs.Fmt.{padded_integral, format_spec, char_count}
use Rattle.rv_text.specs.Syntax.{hex}
use Rattle.rv_text.specs.Listing.{hex8}

pub padded : (n : ℕ) → padded_integral (format_spec 32 0 4 8 (2 ^ 64 - 1)) false [] (hex n) ≡ hex8 n
unfolding padded_integral char_count hex8
padded n =
    let short : 8 - length (hex n) - 0 - 0 ≡ 8 - length (hex n) = omega arith in
    ap (λ k. replicate k 48 ++ (hex n ++ [])) short ∙ ap (λ d. replicate (8 - length (hex n)) 48 ++ d) (append-nil (hex n))

pub on-ok : {P Q E : Type 0} (r : Result (Unit {0}) E) → (P → Q) → OnOk r P → OnOk r Q
on-ok (Ok x) f h = f h
on-ok (Err e) f h = h
