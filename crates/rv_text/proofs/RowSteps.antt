-- One row more of those that are listed.
use Rattle.std.proofs.Common.{◌≡◌, ℕ, ◌+◌, ◌-◌, ◌<◌, List, [], ◌∷◌, ◌++◌, length, take, drop, refl, sym, ap, ◌∙◌, append_assoc, arith}
use Rattle.std.specs.List.{flat_map, AllByRecursion}
use Rattle.std.proofs.lemmas.List.{append-nil, drop_at, take_all, length-drop}
use Rattle.rv_spec.specs.Trace.{Row}
use Rattle.rv_spec.specs.Record.{row_bytes, row_length}
use Rattle.rv_spec.specs.Grammar.{RowFits}
use Rattle.rv_row.specs.RowReading.{IsRow}
use Rattle.rv_row.specs.declared.rows.Row.{Row as RowOfCode}
use Rattle.rv_row.specs.declared.rows.RowRead.{RowRead}
use Rattle.rv_row.specs.declared.rows.RowRead.TheVariants as read
use Rattle.rv_row.proofs.Lemmas.{length-row_bytes}
use Rattle.rv_text.specs.Within.{here, lines_within}
use Rattle.rv_text.proofs.Within.{at-place, within-append, within-one}

pub take-rest : (n : ℕ) (xs : List ℕ) → take (length xs - n) (drop n xs) ≡ drop n xs
take-rest n xs = take_all (length xs - n) (drop n xs) (omega (arith, length-drop n xs))

-- what isn't a row is no row
pub not-row : (result : RowRead) (x : Row) (k : ℕ) → ((r : RowOfCode) (n : ℕ) → result ≡ read.Row r n → ⊥) → IsRow result x k → ⊥
not-row (read.Row r n) x k other is = other r n refl
not-row read.Short x k other is = is
not-row read.Shape x k other is = is

pub row-there : (r : ℕ) (rs : List Row) (tail rest : List ℕ) → AllByRecursion RowFits rs → r < length rs → rest ≡ flat_map row_bytes (drop r rs) ++ tail
    → (x : Row) × (more : List ℕ) × RowFits x × (rest ≡ row_bytes x ++ more)
row-there r rs tail rest fit lt e =
    let at = at-place RowFits rs r lt fit in
    (at.0, flat_map row_bytes at.1 ++ tail, at.2.holds, e ∙ ap (λ l. flat_map row_bytes l ++ tail) at.2.from ∙ append_assoc (row_bytes at.0) (flat_map row_bytes at.1) tail)

pub row-step : (version from until first r : ℕ) (rs : List Row) (tail rest old text text' : List ℕ) (row : Row) (n : ℕ)
    → AllByRecursion RowFits rs → r < length rs
    → rest ≡ flat_map row_bytes (drop r rs) ++ tail
    → text ≡ old ++ lines_within version from until first (take r rs)
    → ((x : Row) (more : List ℕ) → RowFits x → rest ≡ row_bytes x ++ more → (row ≡ x) × (n ≡ row_length x))
    → text' ≡ text ++ here version from until (first + r) row
    → (drop n rest ≡ flat_map row_bytes (drop (r + 1) rs) ++ tail) × (text' ≡ old ++ lines_within version from until first (take (r + 1) rs))
row-step version from until first r rs tail rest old text text' row n fit lt e e-text only e-new =
    let at = at-place RowFits rs r lt fit in
    let x : Row = at.0 in
    let more : List ℕ = flat_map row_bytes at.1 ++ tail in
    let begins : rest ≡ row_bytes x ++ more = e ∙ ap (λ l. flat_map row_bytes l ++ tail) at.2.from ∙ append_assoc (row_bytes x) (flat_map row_bytes at.1) tail in
    let known : (row ≡ x) × (n ≡ row_length x) = only x more at.2.holds begins in
    let before : List ℕ = lines_within version from until first (take r rs) in
    let place : first + length (take r rs) ≡ first + r = ap (λ k. first + k) at.2.count in
    let joined : lines_within version from until first (take (r + 1) rs) ≡ before ++ here version from until (first + r) x =
    ap (λ l. lines_within version from until first l) at.2.front
    ∙ within-append version from until first (take r rs) (x ∷ [])
    ∙ ap (λ k. before ++ lines_within version from until k (x ∷ [])) place
    ∙ ap (λ t. before ++ t) (within-one version from until (first + r) x ∙ append-nil (here version from until (first + r) x)) in (
      ap (λ (l : List ℕ). drop n l) begins ∙ drop_at (row_bytes x) more n (length-row_bytes x ∙ sym known.1) ∙ ap (λ l. flat_map row_bytes l ++ tail) (sym at.2.behind),
      e-new ∙ ap (λ t. t ++ here version from until (first + r) row) e-text ∙ ap (λ y. (old ++ before) ++ here version from until (first + r) y) known.0
          ∙ append_assoc old before (here version from until (first + r) x) ∙ ap (λ t. old ++ t) (sym joined),
    )
