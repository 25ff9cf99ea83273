-- The machine reads the rows that the definition by whole parts reads.
use Rattle.std.proofs.Common.{◌≡◌, ℕ, zero, suc, ◌+◌, ◌*◌, Bool, List, ◌∷◌, ◌++◌, get_or, map, drop, Some, Result, Ok, refl, sym, ap, ◌∙◌, append_assoc, arith}
use Rattle.std.proofs.lemmas.List.{append-nil}
use Rattle.rv_base.specs.declared.record.Header.{Header}
use Rattle.rv_base.specs.declared.record.Place.{Place}
use Rattle.rv_base.specs.declared.record.Refusal.{Refusal}
use Rattle.rv_base.specs.declared.record.ShardHead.{ShardHead}
use Rattle.rv_spec.specs.Trace.{Row}
use Rattle.rv_spec.specs.Digest.{Lanes}
use Rattle.rv_spec.specs.Tuples.{Event, event, events}
use Rattle.rv_spec.specs.Record.{row_length, rows_length}
use Rattle.rv_rules.specs.Checks.{unless_broken, ◌>>=◌}
use Rattle.rv_rules.specs.Reading.{Reading, row_of, row_form, row_checks_when_complete, next_place, read_row, read_rows}
use Rattle.rv_reading.specs.Stream.{State, onwards}
use Rattle.rv_reading.specs.Machine.{Sums, Inside, Phase, Extent, on_if, with_row, step}
use Rattle.rv_reading.specs.Machine.Phase.{Rows}
use Rattle.rv_reading.specs.Parts.{runs, inside, RowsAreRead}
use Rattle.rv_reading.proofs.StepStream.{runs-step}
use Rattle.rv_reading.proofs.Binding.{bind-assoc, bind-same, checks-bind}
use Rattle.rv_reading.proofs.RunningSums.{with_events-sums}

module _ (complete : Bool) (lanes : Lanes) (elf input : List ℕ) (h : Header) (output : List ℕ) (extent : Extent) where
  abbrev run : Phase → List ℕ → State Phase
  run p bytes = runs complete lanes elf input h output extent p bytes

  abbrev pub behind_rows : ℕ → ℕ → ℕ → ℕ → ShardHead → ℕ → List Event → Sums → Reading (List Row) → State Phase
  behind_rows k total m i head size es all x = run (Rows zero total m i (inside complete lanes elf input h output head (size + rows_length x.part) (es ++ events k x.part)) x.place all) x.left

  abbrev put_row : Reading Row → Reading (List Row) → Reading (List Row)
  put_row first others = record { part = first.part ∷ others.part; place = others.place; left = others.left }

  row-step : (n r m i : ℕ) (s : Inside) (p : Place) (all : Sums) (bytes : List ℕ)
      → run (Rows (suc n) r m i s p all) bytes
      ≡ (on_if i r (row_form bytes ++ row_checks_when_complete complete lanes elf input h output (row_of bytes) (i * h.size + r) p)
      (Rows n (r + 1) m i (with_row complete lanes s (i * h.size + r) (row_of bytes)) (next_place complete lanes elf input h (row_of bytes) p) all) (drop (9 + 21 * get_or bytes 8 0) bytes)
      >>= onwards run (Rows (suc n) r m i s p all, bytes))
  unfolding step
  row-step n r m i s p all bytes = runs-step complete lanes elf input h output extent (Rows (suc n) r m i s p all) bytes

  row-is : (i r : ℕ) (p : Place) (bytes : List ℕ)
      → read_row complete lanes elf input h output i r p bytes
      ≡ unless_broken i r (row_form bytes ++ row_checks_when_complete complete lanes elf input h output (row_of bytes) (i * h.size + r) p)
      (record { part = row_of bytes; place = next_place complete lanes elf input h (row_of bytes) p; left = drop (9 + 21 * get_or bytes 8 0) bytes })
  unfolding read_row
  row-is i r p bytes = refl

  pub rows-read : (n r m i total : ℕ) (head : ShardHead) (size : ℕ) (es : List Event) (p : Place) (all : Sums) (bytes : List ℕ) → r + n ≡ total
      → run (Rows n r m i (inside complete lanes elf input h output head size es) p all) bytes ≡ (read_rows complete lanes elf input n h output i r p bytes >>= behind_rows (i * h.size + r) total m i head size es all)
  unfolding read_rows
  rows-read zero r m i total head size es p all bytes sum =
      let at : r ≡ total = omega (arith, sum) in
      let same : size ≡ size + 0 = omega arith in
      λ t. run (Rows zero (at t) m i (inside complete lanes elf input h output head (same t) (sym (append-nil es) t)) p all) bytes
  rows-read (suc n) r m i total head size es p all bytes sum =
      let k = i * h.size + r in
      let row = row_of bytes in
      let cs = row_form bytes ++ row_checks_when_complete complete lanes elf input h output row k p in
      let after = next_place complete lanes elf input h row p in
      let rest = drop (9 + 21 * get_or bytes 8 0) bytes in
      let ev = map (event k) row.accesses in
      let before = inside complete lanes elf input h output head size es in
      let one : Reading Row = record { part = row; place = after; left = rest } in
      let rows_from : Reading Row → Result (Reading (List Row)) Refusal = λ first. read_rows complete lanes elf input n h output i (r + 1) first.place first.left in
      let whole : Reading Row → Result (Reading (List Row)) Refusal = λ first. rows_from first >>= λ others. Ok (put_row first others) in
      let next : Reading (List Row) → State Phase = behind_rows k total m i head size es all in
      let with : with_row complete lanes before k row ≡ inside complete lanes elf input h output head (size + row_length row) (es ++ ev) =
      λ t. record { head = head; bytes = size + row_length row; sums = with_events-sums complete lanes es ev t } in
      let later : (x : Reading (List Row)) → rows_from one ≡ Ok x → behind_rows (i * h.size + (r + 1)) total m i head (size + row_length row) (es ++ ev) all x ≡ next (put_row one x) = λ x ok.
      let step_is : i * h.size + (r + 1) ≡ k + 1 = omega arith in
      let sizes : size + row_length row + rows_length x.part ≡ size + (row_length row + rows_length x.part) = omega arith in
      let list : (es ++ ev) ++ events (i * h.size + (r + 1)) x.part ≡ es ++ (ev ++ events (k + 1) x.part) =
      append_assoc es ev (events (i * h.size + (r + 1)) x.part) ∙ ap (λ z. es ++ (ev ++ events z x.part)) step_is in
      λ t. run (Rows zero total m i (inside complete lanes elf input h output head (sizes t) (list t)) x.place all) x.left in
      let inner : run (Rows n (r + 1) m i (with_row complete lanes before k row) after all) rest ≡ (whole one >>= next) =
      ap (λ z. run (Rows n (r + 1) m i z after all) rest) with
      ∙ rows-read n (r + 1) m i total head (size + row_length row) (es ++ ev) after all rest (omega (arith, sum))
      ∙ bind-same (rows_from one) (behind_rows (i * h.size + (r + 1)) total m i head (size + row_length row) (es ++ ev) all) (λ x. next (put_row one x)) later
      ∙ sym (bind-assoc (rows_from one) (λ others. Ok (put_row one others)) next) in
      row-step n r m i before p all bytes
      ∙ checks-bind i r cs (Some (Rows n (r + 1) m i (with_row complete lanes before k row) after all, rest)) one (onwards run (Rows (suc n) r m i before p all, bytes)) (λ first. whole first >>= next) inner
      ∙ sym (bind-assoc (unless_broken i r cs one) whole next)
      ∙ sym (ap (λ z. (z >>= whole) >>= next) (row-is i r p bytes))

-- The law of rows.
pub rows-are-read : (complete : Bool) (lanes : Lanes) (elf input : List ℕ) (h : Header) (output : List ℕ) → RowsAreRead complete lanes elf input h output
rows-are-read complete lanes elf input h output extent n r m i head size es p all bytes = rows-read complete lanes elf input h output extent n r m i (r + n) head size es p all bytes refl
