-- The events of a file's shards, each counted from the first step that is due in it, are those of all its rows.
use Rattle.std.proofs.Common.{◌≡◌, ℕ, zero, suc, ◌+◌, ◌*◌, ◌<◌, ◌≤◌, Bool, ◌&&◌, ◌==◌, nat_le, List, [], ◌∷◌, ◌++◌, length, map, drop, Result, Ok, refl, sym, ap, subst, ◌∙◌, append_assoc, arith}
use Rattle.std.specs.List.{flat_map}
use Rattle.rv_base.specs.declared.record.Header.{Header}
use Rattle.rv_base.specs.declared.record.Place.{Place}
use Rattle.rv_base.specs.declared.record.Refusal.{Refusal}
use Rattle.rv_spec.specs.Trace.{Row}
use Rattle.rv_spec.specs.Digest.{Lanes}
use Rattle.rv_spec.specs.Tuples.{event, events}
use Rattle.rv_spec.specs.Record.{Shard, shard_rows, rows_length}
use Rattle.rv_rules.specs.Checks.{Check, first_broken, unless_broken, ◌>>=◌}
use Rattle.rv_rules.specs.Reading.{Reading, head_of, same_place, when_complete, read_row, read_rows, read_shard, read_shards}
use Rattle.rv_reading.specs.Machine.{shards_events}
use Rattle.rv_reading.proofs.CheckLists.{refused-by-ok}
use Rattle.rv_reading.proofs.Binding.{bind-ok}
use Rattle.rv_reading.proofs.ShardsRead.{digest_checks, shard_read}

abbrev done : {A : Type 0} → A → Result A Refusal
done x = Ok x

ok-is : {A : Type 0} (x y : A) → done x ≡ done y → x ≡ y
ok-is x y e = cc

events-append : (k : ℕ) (xs ys : List Row) → events k (xs ++ ys) ≡ events k xs ++ events (k + length xs) ys
events-append k [] ys = ap (λ z. events z ys) (let e : k ≡ k + 0 = omega arith in e)
events-append k (r ∷ rs) ys =
    let at : k + 1 + length rs ≡ k + suc (length rs) = omega arith in
    let first = map (event k) r.accesses in
    ap (λ z. first ++ z) (events-append (k + 1) rs ys ∙ ap (λ z. events (k + 1) rs ++ events z ys) at) ∙ sym (append_assoc first (events (k + 1) rs) (events (k + suc (length rs)) ys))

-- each shard but the last is full
abbrev pub FullShards : Header → Type 0
FullShards h = (i : ℕ) → i + 1 < h.shards → i * h.size + h.size ≤ h.steps

module _ (complete : Bool) (lanes : Lanes) (elf input : List ℕ) (h : Header) (output : List ℕ) where
  rows-count : (n : ℕ) (i r : ℕ) (p : Place) (bytes : List ℕ) (x : Reading (List Row)) → read_rows complete lanes elf input n h output i r p bytes ≡ Ok x → length x.part ≡ n
  unfolding read_rows
  rows-count zero i r p bytes x e =
      let none : Reading (List Row) = record { part = []; place = p; left = bytes } in
      ap (λ (z : Reading (List Row)). length z.part) (sym (ok-is none x e))
  rows-count (suc n) i r p bytes x e =
      let put : Reading Row → Reading (List Row) → Reading (List Row) = λ first others. record { part = first.part ∷ others.part; place = others.place; left = others.left } in
      let a = bind-ok (read_row complete lanes elf input h output i r p bytes) (λ first. read_rows complete lanes elf input n h output i (r + 1) first.place first.left >>= λ others. Ok (put first others)) x e in
      let b = bind-ok (read_rows complete lanes elf input n h output i (r + 1) a.0.place a.0.left) (λ others. Ok (put a.0 others)) x a.2 in
      let count : length b.0.part ≡ n = rows-count n i (r + 1) a.0.place a.0.left b.0 b.1 in
      subst (λ (z : Reading (List Row)). length z.part ≡ suc n) (ok-is (put a.0 b.0) x b.2) (ap suc count)

  shard-count : (i : ℕ) (p : Place) (bytes : List ℕ) (x : Reading Shard) → read_shard complete lanes elf input h output i p bytes ≡ Ok x → length x.part.rows ≡ shard_rows h.size h.steps i
  unfolding read_shard
  shard-count i p bytes x e =
      let n = shard_rows h.size h.steps i in
      let head = head_of bytes in
      let cs : List Check = (1, nat_le 32 (length bytes)) ∷ (9, head.index == i && head.rows == n && when_complete complete lanes elf input (same_place head p)) ∷ [] in
      let rows_from : List ℕ → Result (Reading (List Row)) Refusal = λ z. read_rows complete lanes elf input n h output i 0 p z in
      let checked : Reading (List Row) → List Check = λ y. digest_checks complete lanes (rows_length y.part) head (events (i * h.size) y.part) y.left in
      let made : Reading (List Row) → Reading Shard = λ y. shard_read head y in
      let closed : Reading (List Row) → Result (Reading Shard) Refusal = λ y. unless_broken i n (checked y) (made y) in
      let a = bind-ok (unless_broken i 0 cs (drop 32 bytes)) (λ z. rows_from z >>= closed) x e in
      let b = bind-ok (rows_from a.0) closed x a.2 in
      ap (λ (z : Reading Shard). length z.part.rows) (sym (refused-by-ok i n (first_broken (checked b.0)) (made b.0) x b.2).1) ∙ rows-count n i 0 p a.0 b.0 b.1

  pub events-are : (n : ℕ) (i : ℕ) (p : Place) (bytes : List ℕ) (x : Reading (List Shard)) → FullShards h → i + n ≡ h.shards → read_shards complete lanes elf input n h output i p bytes ≡ Ok x
      → shards_events h i x.part ≡ events (i * h.size) (flat_map (λ s. s.rows) x.part)
  unfolding read_shards
  events-are zero i p bytes x full_shards sum e =
      let none : Reading (List Shard) = record { part = []; place = p; left = bytes } in
      subst (λ (z : Reading (List Shard)). shards_events h i z.part ≡ events (i * h.size) (flat_map (λ s. s.rows) z.part)) (ok-is none x e) refl
  events-are (suc n) i p bytes x full_shards sum e =
      let put : Reading Shard → Reading (List Shard) → Reading (List Shard) = λ first others. record { part = first.part ∷ others.part; place = others.place; left = others.left } in
      let a = bind-ok (read_shard complete lanes elf input h output i p bytes) (λ first. read_shards complete lanes elf input n h output (i + 1) first.place first.left >>= λ others. Ok (put first others)) x e in
      let b = bind-ok (read_shards complete lanes elf input n h output (i + 1) a.0.place a.0.left) (λ others. Ok (put a.0 others)) x a.2 in
      let later = events-are n (i + 1) a.0.place a.0.left b.0 full_shards (omega (arith, sum)) b.1 in
      let count = shard-count i p bytes a.0 a.1 in
      let rows = a.0.part.rows in
      let more = flat_map (λ (s : Shard). s.rows) b.0.part in
      let joined = joins n i a.0.place a.0.left b.0 rows full_shards sum count b.1 in
      subst (λ (z : Reading (List Shard)). shards_events h i z.part ≡ events (i * h.size) (flat_map (λ s. s.rows) z.part)) (ok-is (put a.0 b.0) x b.2)
      (ap (λ z. events (i * h.size) rows ++ z) (later ∙ joined) ∙ sym (events-append (i * h.size) rows more))
    where
      joins : (n : ℕ) (i : ℕ) (p : Place) (bytes : List ℕ) (y : Reading (List Shard)) (rows : List Row) → FullShards h → i + suc n ≡ h.shards → length rows ≡ shard_rows h.size h.steps i
          → read_shards complete lanes elf input n h output (i + 1) p bytes ≡ Ok y
          → events ((i + 1) * h.size) (flat_map (λ s. s.rows) y.part) ≡ events (i * h.size + length rows) (flat_map (λ s. s.rows) y.part)
      joins zero i p bytes y rows full_shards sum count e =
          let none : Reading (List Shard) = record { part = []; place = p; left = bytes } in
          subst (λ (z : Reading (List Shard)). events ((i + 1) * h.size) (flat_map (λ s. s.rows) z.part) ≡ events (i * h.size + length rows) (flat_map (λ s. s.rows) z.part)) (ok-is none y e) refl
      joins (suc n) i p bytes y rows full_shards sum count e =
          let fits = full_shards i (omega (arith, sum)) in
          let is : length rows ≡ h.size = omega (arith, count, fits) in
          let at : (i + 1) * h.size ≡ i * h.size + length rows = omega (arith, is) in
          ap (λ z. events z (flat_map (λ s. s.rows) y.part)) at
