-- Going over parts one after another, as loops do.
use Rattle.std.proofs.Common.{◌≡◌, ℕ, suc, ◌+◌, ◌-◌, ◌<◌, ◌≤◌, List, Option, Some, Result, Ok, Err, sym, ap, ◌∙◌, arith}
use Rattle.rv_base.specs.declared.record.Header.{Header}
use Rattle.rv_base.specs.declared.record.Refusal.{Refusal}
use Rattle.rv_base.specs.declared.record.TableEntry.{TableEntry}
use Rattle.rv_rules.specs.Reading.{read_entry}
use Rattle.rv_rules.specs.Checks.{◌>>=◌}
use Rattle.rv_file.specs.Skipping.{row_left, rows_left, shard_left, shards_left, entries_left}

pub rows-more : (n i r : ℕ) (bytes left : List ℕ) (total : Result (List ℕ) Refusal) → r < n → row_left i r bytes ≡ Ok left → rows_left (n - r) i r bytes ≡ total → rows_left (n - (r + 1)) i (r + 1) left ≡ total
unfolding rows_left
rows-more n i r bytes left total lt one so_far =
    let k : n - r ≡ suc (n - (r + 1)) = omega arith in
    sym (ap (λ m. rows_left m i r bytes) k ∙ ap (λ x. x >>= λ y. rows_left (n - (r + 1)) i (r + 1) y) one) ∙ so_far

pub rows-end : (n i r : ℕ) (bytes : List ℕ) (e : Refusal) (total : Result (List ℕ) Refusal) → r < n → row_left i r bytes ≡ Err e → rows_left (n - r) i r bytes ≡ total → total ≡ Err e
unfolding rows_left
rows-end n i r bytes e total lt one so_far =
    let k : n - r ≡ suc (n - (r + 1)) = omega arith in
    sym so_far ∙ ap (λ m. rows_left m i r bytes) k ∙ ap (λ x. x >>= λ y. rows_left (n - (r + 1)) i (r + 1) y) one

pub rows-done : (n i r : ℕ) (bytes : List ℕ) (total : Result (List ℕ) Refusal) → n ≤ r → rows_left (n - r) i r bytes ≡ total → total ≡ Ok bytes
unfolding rows_left
rows-done n i r bytes total le so_far =
    let k : n - r ≡ 0 = omega arith in
    sym so_far ∙ ap (λ m. rows_left m i r bytes) k

pub shards-more : (n : ℕ) (h : Header) (i : ℕ) (bytes left : List ℕ) (total : Result (List ℕ) Refusal) → i < n → shard_left h i bytes ≡ Ok left → shards_left (n - i) h i bytes ≡ total → shards_left (n - (i + 1)) h (i + 1) left ≡ total
unfolding shards_left
shards-more n h i bytes left total lt one so_far =
    let k : n - i ≡ suc (n - (i + 1)) = omega arith in
    sym (ap (λ m. shards_left m h i bytes) k ∙ ap (λ x. x >>= λ y. shards_left (n - (i + 1)) h (i + 1) y) one) ∙ so_far

pub shards-end : (n : ℕ) (h : Header) (i : ℕ) (bytes : List ℕ) (e : Refusal) (total : Result (List ℕ) Refusal) → i < n → shard_left h i bytes ≡ Err e → shards_left (n - i) h i bytes ≡ total → total ≡ Err e
unfolding shards_left
shards-end n h i bytes e total lt one so_far =
    let k : n - i ≡ suc (n - (i + 1)) = omega arith in
    sym so_far ∙ ap (λ m. shards_left m h i bytes) k ∙ ap (λ x. x >>= λ y. shards_left (n - (i + 1)) h (i + 1) y) one

pub shards-done : (n : ℕ) (h : Header) (i : ℕ) (bytes : List ℕ) (total : Result (List ℕ) Refusal) → n ≤ i → shards_left (n - i) h i bytes ≡ total → total ≡ Ok bytes
unfolding shards_left
shards-done n h i bytes total le so_far =
    let k : n - i ≡ 0 = omega arith in
    sym so_far ∙ ap (λ m. shards_left m h i bytes) k

pub entries-more : (n : ℕ) (h : Header) (j : ℕ) (before : Option ℕ) (bytes : List ℕ) (e : TableEntry) (left : List ℕ) (total : Result (List ℕ) Refusal) → j < n → read_entry h j before bytes ≡ Ok (e, left)
    → entries_left (n - j) h j before bytes ≡ total → entries_left (n - (j + 1)) h (j + 1) (Some e.cell) left ≡ total
unfolding entries_left
entries-more n h j before bytes e left total lt one so_far =
    let k : n - j ≡ suc (n - (j + 1)) = omega arith in
    let next : TableEntry × List ℕ → Result (List ℕ) Refusal = λ f. entries_left (n - (j + 1)) h (j + 1) (Some (f.0).cell) f.1 in
    sym (ap (λ m. entries_left m h j before bytes) k ∙ ap (λ x. x >>= next) one) ∙ so_far

pub entries-end : (n : ℕ) (h : Header) (j : ℕ) (before : Option ℕ) (bytes : List ℕ) (e : Refusal) (total : Result (List ℕ) Refusal) → j < n → read_entry h j before bytes ≡ Err e
    → entries_left (n - j) h j before bytes ≡ total → total ≡ Err e
unfolding entries_left
entries-end n h j before bytes e total lt one so_far =
    let k : n - j ≡ suc (n - (j + 1)) = omega arith in
    let next : TableEntry × List ℕ → Result (List ℕ) Refusal = λ f. entries_left (n - (j + 1)) h (j + 1) (Some (f.0).cell) f.1 in
    sym so_far ∙ ap (λ m. entries_left m h j before bytes) k ∙ ap (λ x. x >>= next) one

pub entries-done : (n : ℕ) (h : Header) (j : ℕ) (before : Option ℕ) (bytes : List ℕ) (total : Result (List ℕ) Refusal) → n ≤ j → entries_left (n - j) h j before bytes ≡ total → total ≡ Ok bytes
unfolding entries_left
entries-done n h j before bytes total le so_far =
    let k : n - j ≡ 0 = omega arith in
    sym so_far ∙ ap (λ m. entries_left m h j before bytes) k
