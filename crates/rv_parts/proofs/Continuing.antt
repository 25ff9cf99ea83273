-- Shards that were read alone are read so where more bytes follow.
use Rattle.std.proofs.Common.{◌≡◌, ℕ, zero, suc, ◌+◌, ◌<◌, true, List, ◌∷◌, ◌++◌, length, None, Some, Result, Ok, Err, refl, sym, ap, ◌∙◌, append_assoc, arith}
use Rattle.std.proofs.lemmas.List.{append-nil}
use Rattle.rv_base.specs.declared.record.Place.{Place}
use Rattle.rv_base.specs.declared.record.Refusal.{Refusal}
use Rattle.rv_spec.specs.Digest.{Lanes}
use Rattle.rv_spec.specs.Record.{Shard}
use Rattle.rv_spec.specs.Tuples.{Event}
use Rattle.rv_rules.specs.Checks.{◌>>=◌}
use Rattle.rv_rules.specs.Reading.{Reading, read_shards}
use Rattle.rv_reading.specs.Stream.{Found, IsStream, State, StepOf, onwards, reads}
use Rattle.rv_reading.specs.Machine.{Phase, Sums, event_sums, no_sums, shards_events, step_to}
use Rattle.rv_reading.specs.Machine.Phase.{Shards, Rows, Entries}
use Rattle.rv_reading.specs.Machine.Extent.{ShardsAlone}
use Rattle.rv_reading.specs.Parts.{runs}
use Rattle.rv_reading.proofs.Lemmas.{extents-are-streams, reads-goes, reads-step, shards-alone-are-read, state-refuses, state-tells, bind-assoc, bind-same}
use Rattle.rv_file.proofs.Lemmas.{bind-ok, ok-is}
use Rattle.rv_judge.specs.Subject.{Subject}
use Rattle.rv_panel.proofs.Lemmas.{shard_read, from, one-shard, shard_events}
use Rattle.rv_parts.specs.Alone.{shards_at}

-- a reading that ends at a phase where it ends whatever follows ends there with more bytes behind
module _ {P : Type 0} (step : StepOf P) (is : IsStream P step) where
  ends-in : (n : ℕ) (p q : P) (xs ys left : List ℕ) → length xs < n → ((zs : List ℕ) → step q zs ≡ Ok None) → reads step p xs ≡ Ok (q, left) → reads step p (xs ++ ys) ≡ Ok (q, left ++ ys)
  ends-in zero p q xs ys left a ends e = absurd (omega (arith, a))
  ends-in (suc n) p q xs ys left a ends e = go (step p xs) refl (sym (reads-step step is p xs) ∙ e) (ends-in n)
    where
      go : (f : Found P) → step p xs ≡ f → (f >>= onwards (reads step) (p, xs)) ≡ Ok (q, left)
          → ((r t : P) (zs us rest : List ℕ) → length zs < n → ((vs : List ℕ) → step t vs ≡ Ok None) → reads step r zs ≡ Ok (t, rest) → reads step r (zs ++ us) ≡ Ok (t, rest ++ us))
          → reads step p (xs ++ ys) ≡ Ok (q, left ++ ys)
      go (Err r) s f later = absurd cc
      go (Ok None) s f later =
          let here : (p, xs) ≡ (q, left) = ok-is (p, xs) (q, left) f in
          reads-step step is p (xs ++ ys)
          ∙ ap (λ (z : Found P). z >>= onwards (reads step) (p, xs ++ ys)) (ap (λ (x : P × List ℕ). step x.0 (xs ++ ys)) here ∙ ends (xs ++ ys))
          ∙ (λ t. Ok ((here t).0, (here t).1 ++ ys))
      go (Ok (Some x)) s f later =
          let less = is.takes p x.0 xs x.1 s in
          reads-goes step is p x.0 xs x.1 ys s ∙ later x.0 q x.1 ys left (omega (arith, less, a)) ends f

  pub ends-behind : (p q : P) (xs ys left : List ℕ) → ((zs : List ℕ) → step q zs ≡ Ok None) → reads step p xs ≡ Ok (q, left) → reads step p (xs ++ ys) ≡ Ok (q, left ++ ys)
  ends-behind p q xs ys left ends e = ends-in (suc (length xs)) p q xs ys left (omega arith) ends e

  pub refused-behind : (p : P) (xs ys : List ℕ) (r : Refusal) → reads step p xs ≡ Err r → ¬ (r.rule ≡ 1) → reads step p (xs ++ ys) ≡ Err r
  refused-behind p xs ys r e not = (state-refuses step is p xs r (state-tells step is p xs r e not)).1 ys

place_in : Phase → Place
place_in (Shards n i p all) = p
place_in (Rows n r m i shard p all) = p
place_in (Entries n j before p all) = p

sums_in : Phase → Sums
sums_in (Shards n i p all) = all
sums_in (Rows n r m i shard p all) = all
sums_in (Entries n j before p all) = all

was-refused : {A B : Type 0} (o : Result A Refusal) (f : A → B) (r : Refusal) → (o >>= λ x. Ok (f x)) ≡ Err r → o ≡ Err r
was-refused (Ok x) f r e = absurd cc
was-refused (Err t) f r e = let same : t ≡ r = cc in ap (λ z. Err z) same

module _ (lanes : Lanes) (s : Subject) where
  abbrev pub sums_of : ℕ → Reading (List Shard) → Sums
  sums_of i y = event_sums true lanes (shards_events s.header i y.part)

  abbrev run_alone : ℕ → ℕ → Place → List ℕ → State Phase
  run_alone n i p bytes = runs true lanes s.elf s.input s.header s.output ShardsAlone (Shards n i p no_sums) bytes

  abbrev ends_at : ℕ → ℕ → Reading (List Shard) → Phase × List ℕ
  ends_at n i y = (Shards zero (i + n) y.place (sums_of i y), y.left)

  alone-is-read : (n i : ℕ) (p : Place) (bytes : List ℕ) → run_alone n i p bytes ≡ (shards_at lanes s n i p bytes >>= λ y. Ok (ends_at n i y))
  alone-is-read n i p bytes = shards-alone-are-read true lanes s.elf s.input s.header s.output n i p bytes

  -- What is read with more bytes behind: the same place and digests, and the bytes left are more.
  pub record IsMore (i : ℕ) (y z : Reading (List Shard)) (more : List ℕ) : Type 0 where
    pub place : z.place ≡ y.place
    pub sums : sums_of i z ≡ sums_of i y
    pub left : z.left ≡ y.left ++ more

  pub read-more : (n i : ℕ) (p : Place) (bytes more : List ℕ) (y : Reading (List Shard)) → shards_at lanes s n i p bytes ≡ Ok y → (z : Reading (List Shard)) × (shards_at lanes s n i p (bytes ++ more) ≡ Ok z) × IsMore i y z more
  unfolding place_in sums_in
  read-more n i p bytes more y e =
      let move = step_to true lanes s.elf s.input s.header s.output ShardsAlone in
      let is = extents-are-streams true lanes s.elf s.input s.header s.output ShardsAlone in
      let end : Phase = Shards zero (i + n) y.place (sums_of i y) in
      let here : run_alone n i p bytes ≡ Ok (end, y.left) = alone-is-read n i p bytes ∙ ap (λ (o : Result (Reading (List Shard)) Refusal). o >>= λ x. Ok (ends_at n i x)) e in
      let on : run_alone n i p (bytes ++ more) ≡ Ok (end, y.left ++ more) = ends-behind move is (Shards n i p no_sums) end bytes more y.left (λ zs. refl) here in
      let found = bind-ok (shards_at lanes s n i p (bytes ++ more)) (λ x. Ok (ends_at n i x)) (end, y.left ++ more) (sym (alone-is-read n i p (bytes ++ more)) ∙ on) in
      let z = found.0 in
      let same : ends_at n i z ≡ (end, y.left ++ more) = ok-is (ends_at n i z) (end, y.left ++ more) found.2 in (
        z,
        found.1,
        record {
          place = ap (λ (x : Phase × List ℕ). place_in x.0) same;
          sums = ap (λ (x : Phase × List ℕ). sums_in x.0) same;
          left = ap (λ (x : Phase × List ℕ). x.1) same;
        },
      )

  pub refused-more : (n i : ℕ) (p : Place) (bytes more : List ℕ) (r : Refusal) → shards_at lanes s n i p bytes ≡ Err r → ¬ (r.rule ≡ 1) → shards_at lanes s n i p (bytes ++ more) ≡ Err r
  refused-more n i p bytes more r e not =
      let move = step_to true lanes s.elf s.input s.header s.output ShardsAlone in
      let is = extents-are-streams true lanes s.elf s.input s.header s.output ShardsAlone in
      let here : run_alone n i p bytes ≡ Err r = alone-is-read n i p bytes ∙ ap (λ (o : Result (Reading (List Shard)) Refusal). o >>= λ x. Ok (ends_at n i x)) e in
      was-refused (shards_at lanes s n i p (bytes ++ more)) (ends_at n i) r (sym (alone-is-read n i p (bytes ++ more)) ∙ refused-behind move is (Shards n i p no_sums) bytes more r here not)

  -- ---- so many shards of more

  abbrev on_from : ℕ → ℕ → Place → List Event → List ℕ → State Phase
  on_from n i p es bytes = from lanes s.elf s.input s.header s.output n i p es bytes

  abbrev on_behind : ℕ → ℕ → List Event → Reading (List Shard) → State Phase
  on_behind m j es y = on_from m j y.place es y.left

  pub many-shards : (n m total i : ℕ) (es : List Event) (p : Place) (bytes : List ℕ) → total ≡ n + m
      → on_from total i p es bytes ≡ (shards_at lanes s n i p bytes >>= λ y. on_from m (i + n) y.place (es ++ shards_events s.header i y.part) y.left)
  unfolding read_shards
  many-shards zero m total i es p bytes count =
      let left : total ≡ m = omega (arith, count) in
      let number : i ≡ i + 0 = omega arith in
      let none = sym (append-nil es) in
      (λ t. on_from (left t) (number t) p (none t) bytes)
  many-shards (suc n) m total i es p bytes count =
      let left : total ≡ suc (n + m) = omega (arith, count) in
      let read = shard_read lanes s.elf s.input s.header s.output i p bytes in
      let own : Reading Shard → List Event = λ x. shard_events lanes s.elf s.input s.header s.output i x in
      let others : Reading Shard → Result (Reading (List Shard)) Refusal = λ x. shards_at lanes s n (i + 1) x.place x.left in
      let put : Reading Shard → Reading (List Shard) → Reading (List Shard) = λ x o. record { part = x.part ∷ o.part; place = o.place; left = o.left } in
      let end : Reading (List Shard) → State Phase = λ y. on_from m (i + suc n) y.place (es ++ shards_events s.header i y.part) y.left in
      let end_next : Reading Shard → Reading (List Shard) → State Phase = λ x o. on_from m (i + 1 + n) o.place ((es ++ own x) ++ shards_events s.header (i + 1) o.part) o.left in
      let number : i + 1 + n ≡ i + suc n = omega arith in
      let same : (x : Reading Shard) (o : Reading (List Shard)) → end_next x o ≡ end (put x o) = λ x o.
      let list = append_assoc es (own x) (shards_events s.header (i + 1) o.part) in
      λ t. on_from m (number t) o.place (list t) o.left in
      let inner : (x : Reading Shard) → on_from (n + m) (i + 1) x.place (es ++ own x) x.left ≡ ((others x >>= λ o. Ok (put x o)) >>= end) = λ x.
      many-shards n m (n + m) (i + 1) (es ++ own x) x.place x.left refl
      ∙ bind-same (others x) (end_next x) (λ o. end (put x o)) (λ o _. same x o)
      ∙ sym (bind-assoc (others x) (λ o. Ok (put x o)) end) in
      ap (λ k. on_from k i p es bytes) left
      ∙ one-shard lanes s.elf s.input s.header s.output (n + m) i es p bytes
      ∙ bind-same read (λ x. on_from (n + m) (i + 1) x.place (es ++ own x) x.left) (λ x. (others x >>= λ o. Ok (put x o)) >>= end) (λ x _. inner x)
      ∙ sym (bind-assoc read (λ x. others x >>= λ o. Ok (put x o)) end)
