-- Rows one after another: what is read is spelled so, and what is spelled so is read.
use Rattle.std.proofs.Common.{◌≡◌, ℕ, zero, suc, ◌+◌, ◌*◌, false, List, [], ◌∷◌, ◌++◌, length, get_or, drop, Result, Ok, refl, sym, ap, subst, ◌∙◌, append_assoc, arith}
use Rattle.std.specs.List.{flat_map, AllByRecursion}
use Rattle.std.proofs.lemmas.List.{length-append, drop_at}
use Rattle.rv_base.specs.declared.record.Header.{Header}
use Rattle.rv_base.specs.declared.record.Place.{Place}
use Rattle.rv_base.specs.declared.record.Refusal.{Refusal}
use Rattle.rv_spec.specs.Trace.{Row}
use Rattle.rv_rules.specs.Sums.{tiny_lanes}
use Rattle.rv_spec.specs.Record.{row_bytes, rows_length}
use Rattle.rv_spec.specs.Grammar.{RowFits}
use Rattle.rv_rules.specs.Reading.{Reading, row_of, row_form, read_row, read_rows}
use Rattle.rv_rules.specs.Checks.{◌>>=◌}
use Rattle.rv_rules.proofs.Lemmas.{drop-bytes}
use Rattle.rv_spec.specs.Words.{AreBytes}
use Rattle.rv_row.proofs.Lemmas.{row-takes, row-fits, row-again, good-form, form-holds, good-again, length-row_bytes}
use Rattle.rv_file.proofs.Steps.{bind-ok, unless-ok, unless-holds, ok-is}

abbrev pub row_in : Header → List ℕ → ℕ → ℕ → Place → List ℕ → Result (Reading Row) Refusal
row_in h output i r p bytes = read_row false tiny_lanes [] [] h output i r p bytes

abbrev pub rows_in : ℕ → Header → List ℕ → ℕ → ℕ → Place → List ℕ → Result (Reading (List Row)) Refusal
rows_in n h output i r p bytes = read_rows false tiny_lanes [] [] n h output i r p bytes

record RowTaken (bytes : List ℕ) (x : Reading Row) : Type 0 where
  pub spelled : bytes ≡ row_bytes x.part ++ x.left
  pub fits : RowFits x.part
  pub rest : AreBytes x.left

row-taken : (h : Header) (output : List ℕ) (i r : ℕ) (p : Place) (bytes : List ℕ) (x : Reading Row) → AreBytes bytes → row_in h output i r p bytes ≡ Ok x → RowTaken bytes x
unfolding read_row
row-taken h output i r p bytes x fits e =
    let n = 9 + 21 * get_or bytes 8 0 in
    let made : Reading Row = record { part = row_of bytes; place = p; left = drop n bytes } in
    let u = unless-ok i r (row_form bytes) made x e in
    let good = good-form bytes u.0 in
    subst (λ (y : Reading Row). RowTaken bytes y) u.1 (record {
      spelled = sym (row-takes bytes fits good.room);
      fits = row-fits bytes fits good.count;
      rest = drop-bytes n bytes fits;
    })

pub record RowsTaken (n : ℕ) (bytes : List ℕ) (x : Reading (List Row)) : Type 0 where
  pub spelled : bytes ≡ flat_map row_bytes x.part ++ x.left
  pub fits : AllByRecursion RowFits x.part
  pub count : length x.part ≡ n
  pub rest : AreBytes x.left

abbrev pub with_row : Reading Row → Reading (List Row) → Reading (List Row)
with_row first others = record { part = first.part ∷ others.part; place = others.place; left = others.left }

pub rows-taken : (n : ℕ) (h : Header) (output : List ℕ) (i r : ℕ) (p : Place) (bytes : List ℕ) (x : Reading (List Row)) → AreBytes bytes → rows_in n h output i r p bytes ≡ Ok x → RowsTaken n bytes x
unfolding read_rows
rows-taken zero h output i r p bytes x fits e =
    let none : Reading (List Row) = record { part = []; place = p; left = bytes } in
    subst (λ (y : Reading (List Row)). RowsTaken zero bytes y) (ok-is none x e) (record { spelled = refl; fits = tt; count = refl; rest = fits })
rows-taken (suc n) h output i r p bytes x fits e =
    let a = bind-ok (row_in h output i r p bytes) (λ first. rows_in n h output i (r + 1) first.place first.left >>= λ others. Ok (with_row first others)) x e in
    let one = row-taken h output i r p bytes a.0 fits a.1 in
    let b = bind-ok (rows_in n h output i (r + 1) a.0.place a.0.left) (λ others. Ok (with_row a.0 others)) x a.2 in
    let more = rows-taken n h output i (r + 1) a.0.place a.0.left b.0 one.rest b.1 in
    subst (λ (y : Reading (List Row)). RowsTaken (suc n) bytes y) (ok-is (with_row a.0 b.0) x b.2) (record {
      spelled =
          one.spelled ∙ ap (λ (xs : List ℕ). row_bytes a.0.part ++ xs) more.spelled
          ∙ sym (append_assoc (row_bytes a.0.part) (flat_map row_bytes b.0.part) b.0.left);
      fits = (one.fits, more.fits);
      count = ap suc more.count;
      rest = more.rest;
    })

count-again : (r : Row) (rest : List ℕ) → get_or (row_bytes r ++ rest) 8 0 ≡ length r.accesses
unfolding row_bytes
count-again r rest = refl

row-read : (row : Row) (h : Header) (output : List ℕ) (i r : ℕ) (p : Place) (rest : List ℕ) → RowFits row → row_in h output i r p (row_bytes row ++ rest) ≡ Ok (record { part = row; place = p; left = rest })
unfolding read_row
row-read row h output i r p rest fits =
    let bytes = row_bytes row ++ rest in
    let n = 9 + 21 * get_or bytes 8 0 in
    let size : length (row_bytes row) ≡ n = length-row_bytes row ∙ ap (λ k. 9 + 21 * k) (sym (count-again row rest)) in
    let made : Reading Row = record { part = row_of bytes; place = p; left = drop n bytes } in
    let row_is = row-again row rest fits in
    let left_is = drop_at (row_bytes row) rest n size in
    unless-holds i r (row_form bytes) made (form-holds bytes (good-again row rest fits))
    ∙ (λ t. Ok (record { part = row_is t; place = p; left = left_is t }))

pub rows-read : (rs : List Row) (h : Header) (output : List ℕ) (i r : ℕ) (p : Place) (rest : List ℕ) → AllByRecursion RowFits rs
    → rows_in (length rs) h output i r p (flat_map row_bytes rs ++ rest) ≡ Ok (record { part = rs; place = p; left = rest })
unfolding read_rows
rows-read [] h output i r p rest fits = refl
rows-read (row ∷ rs) h output i r p rest fits =
    ap (λ bytes. rows_in (suc (length rs)) h output i r p bytes) (append_assoc (row_bytes row) (flat_map row_bytes rs) rest)
    ∙ rw (row-read row h output i r p (flat_map row_bytes rs ++ rest) fits.0, rows-read rs h output i (r + 1) p rest fits.1) refl

pub length-rows : (rs : List Row) → length (flat_map row_bytes rs) ≡ rows_length rs
length-rows [] = refl
length-rows (r ∷ rs) = length-append (row_bytes r) (flat_map row_bytes rs) ∙ omega (arith, length-row_bytes r, length-rows rs)
