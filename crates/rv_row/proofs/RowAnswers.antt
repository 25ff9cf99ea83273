-- What the laws of rows say of an answer.
use Rattle.std.proofs.Common.{◌≡◌, ℕ, ◌+◌, ◌*◌, List, ◌++◌, length, get_or, None, refl, sym, ap, ◌∙◌}
use Rattle.std.proofs.lemmas.List.{append_cancel_left}
use Rattle.rv_spec.specs.Trace.{Row as Traced}
use Rattle.rv_spec.specs.Record.{row_bytes, row_length}
use Rattle.rv_spec.specs.Grammar.{RowFits}
use Rattle.rv_rules.specs.Reading.{row_of, row_form}
use Rattle.rv_rules.specs.Checks.{first_broken}
use Rattle.rv_row.specs.declared.rows.RowRead.{RowRead}
use Rattle.rv_row.specs.declared.rows.RowRead.TheVariants as read
use Rattle.rv_row.specs.RowReading.{ReadsRow, SpellsRow, IsRow, OneRow}
use Rattle.rv_spec.specs.Words.{AreBytes}
use Rattle.rv_row.proofs.RowLaws.{row-takes, row-fits, row-again, good-form, form-holds, good-again}

pub is-spelled : (bytes : List ℕ) (answer : RowRead) → AreBytes bytes → ReadsRow bytes answer → SpellsRow bytes answer
is-spelled bytes (read.Row r n) fits exact =
    let good = good-form bytes exact.0 in
    (rw exact.1 (row-fits bytes fits good.count), rw (exact.1, exact.2) (sym (row-takes bytes fits good.room)))
is-spelled bytes read.Short fits exact = tt
is-spelled bytes read.Shape fits exact = tt

is-read : (r : Traced) (bytes rest : List ℕ) → RowFits r → bytes ≡ row_bytes r ++ rest → (first_broken (row_form bytes) ≡ None) × (row_of bytes ≡ r)
is-read r bytes rest fits is = rw is (form-holds (row_bytes r ++ rest) (good-again r rest fits), row-again r rest fits)

count-again : (r : Traced) (rest : List ℕ) → get_or (row_bytes r ++ rest) 8 0 ≡ length r.accesses
unfolding row_bytes
count-again r rest = refl

pub is-only : (bytes : List ℕ) (answer : RowRead) → ReadsRow bytes answer → (r : Traced) (rest : List ℕ) → RowFits r → bytes ≡ row_bytes r ++ rest → IsRow answer r (row_length r)
is-only bytes (read.Row s n) exact r rest fits is =
    (exact.1 ∙ (is-read r bytes rest fits is).1, exact.2 ∙ ap (λ xs. 9 + 21 * get_or xs 8 0) is ∙ ap (λ k. 9 + 21 * k) (count-again r rest))
is-only bytes read.Short exact r rest fits is = let good = (is-read r bytes rest fits is).0 in absurd cc
is-only bytes read.Shape exact r rest fits is = let good = (is-read r bytes rest fits is).0 in absurd cc

pub is-one : OneRow
is-one r s x y r_fits s_fits same =
    let rows : r ≡ s = sym (row-again r x r_fits) ∙ ap row_of same ∙ row-again s y s_fits in
    (rows, append_cancel_left (row_bytes r) x y (same ∙ ap (λ t. row_bytes t ++ y) (sym rows)))
