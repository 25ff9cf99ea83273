-- Shards that are judged from the place behind the shard before them.
use Rattle.std.proofs.Common.{◌≡◌, ℕ, zero, suc, ◌+◌, ◌*◌, ◌≤◌, ◌%◌, true, ◌&&◌, ◌==◌, List, [], ◌∷◌, ◌++◌, length, Result, Ok, Err, refl, sym, ap, subst, ◌∙◌, append_assoc}
use Rattle.std.specs.Prelude.{nat_le}
use Rattle.std.proofs.lemmas.Bool.{le-leb, leb-true, eq-eqb, eqb-true, and_from, and_parts}
use Rattle.std.proofs.lemmas.List.{append-nil}
use Rattle.rv_base.specs.declared.record.Place.{Place}
use Rattle.rv_base.specs.declared.record.Refusal.{Refusal}
use Rattle.rv_spec.specs.Digest.{Lanes}
use Rattle.rv_spec.specs.Record.{Shard}
use Rattle.rv_spec.specs.Tuples.{Event, events}
use Rattle.rv_rules.specs.Checks.{Check, unless_broken, ◌>>=◌}
use Rattle.rv_rules.specs.Reading.{Reading, head_of, same_place, read_shards}
use Rattle.rv_reading.specs.Machine.{shards_events}
use Rattle.rv_file.proofs.Lemmas.{bind-ok, unless-ok, ok-is}
use Rattle.rv_row.proofs.Lemmas.{all-hold}
use Rattle.rv_rowcheck.specs.RowChecking.{IsPlace}
use Rattle.rv_judge.specs.Subject.{Subject}
use Rattle.rv_judge.specs.Alone.{can_stand, read_alone, stated}
use Rattle.rv_reading.proofs.Lemmas.{bind-assoc, bind-same}
use Rattle.rv_panel.proofs.Lemmas.{shard_read, is-shard-read, place-stated}
use Rattle.rv_parts.specs.Alone.{shards_alone, shards_at}

-- what has been read: the place behind it, its events, and the bytes left
pub record After : Type 0 where
  pub place : Place
  pub events : List Event
  pub left : List ℕ

module _ (lanes : Lanes) (s : Subject) where
  abbrev pub read_at : ℕ → Place → List ℕ → Result (Reading Shard) Refusal
  read_at i p bytes = shard_read lanes s.elf s.input s.header s.output i p bytes

  abbrev pub shard_events : ℕ → Reading Shard → List Event
  shard_events i x = events (i * s.header.size) x.part.rows

  -- shards from shard i on, behind these events
  abbrev pub after_of : ℕ → List Event → Reading (List Shard) → After
  after_of i es y = record { place = y.place; events = es ++ shards_events s.header i y.part; left = y.left }

  abbrev pub after_all : ℕ → List Event → Result (Reading (List Shard)) Refusal → Result After Refusal
  after_all i es r = r >>= λ y. Ok (after_of i es y)

  abbrev pub follow : ℕ → ℕ → Place → List Event → List ℕ → Result After Refusal
  follow n i p es bytes = after_all i es (shards_at lanes s n i p bytes)

  abbrev next_follow : ℕ → ℕ → List Event → Reading Shard → Result After Refusal
  next_follow n i es x = follow n (i + 1) x.place (es ++ shard_events i x) x.left

  pub none-follow : (i : ℕ) (p : Place) (es : List Event) (bytes : List ℕ) → follow 0 i p es bytes ≡ Ok (record { place = p; events = es; left = bytes })
  unfolding read_shards
  none-follow i p es bytes = ap (λ (fs : List Event). Ok (record { place = p; events = fs; left = bytes })) (append-nil es)

  pub one-follows : (n i : ℕ) (p : Place) (es : List Event) (bytes : List ℕ) → follow (suc n) i p es bytes ≡ (read_at i p bytes >>= next_follow n i es)
  unfolding read_shards
  one-follows n i p es bytes =
      let others : Reading Shard → Result (Reading (List Shard)) Refusal = λ x. shards_at lanes s n (i + 1) x.place x.left in
      let put : Reading Shard → Reading (List Shard) → Reading (List Shard) = λ x o. record { part = x.part ∷ o.part; place = o.place; left = o.left } in
      let inner : (x : Reading Shard) → after_all i es (others x >>= λ o. Ok (put x o)) ≡ next_follow n i es x = λ x.
      bind-assoc (others x) (λ o. Ok (put x o)) (λ y. Ok (after_of i es y))
      ∙ bind-same (others x) (λ o. Ok (after_of i es (put x o))) (λ o. Ok (after_of (i + 1) (es ++ shard_events i x) o))
      (λ o _. ap (λ (fs : List Event). Ok (record { place = o.place; events = fs; left = o.left })) (sym (append_assoc es (shard_events i x) (shards_events s.header (i + 1) o.part)))) in
      bind-assoc (read_at i p bytes) (λ x. others x >>= λ o. Ok (put x o)) (λ y. Ok (after_of i es y))
      ∙ bind-same (read_at i p bytes) (λ x. after_all i es (others x >>= λ o. Ok (put x o))) (next_follow n i es) (λ x _. inner x)

  -- ---- the first, from the place that it states

  abbrev pub opening : ℕ → List ℕ → Result (List ℕ) Refusal
  opening i bytes = unless_broken i 0 ((1, nat_le 32 (length bytes)) ∷ (9, can_stand (stated bytes) s.input s.output) ∷ []) bytes

  pub first-alone : (n i : ℕ) (bytes : List ℕ) → after_all i [] (shards_alone lanes s (suc n) i bytes) ≡ (read_alone lanes s i bytes >>= next_follow n i [])
  first-alone n i bytes =
      let p = stated bytes in
      bind-assoc (opening i bytes) (shards_at lanes s (suc n) i p) (λ y. Ok (after_of i [] y))
      ∙ bind-same (opening i bytes) (λ b. follow (suc n) i p [] b) (λ b. read_at i p b >>= next_follow n i []) (λ b _. one-follows n i p [] b)
      ∙ sym (bind-assoc (opening i bytes) (read_at i p) (next_follow n i []))

  stands-at : (p : Place) → IsPlace p s.input s.output → can_stand p s.input s.output ≡ true
  stands-at p is =
      and_from (p.pc % 4 == 0 && nat_le p.input (length s.input)) (nat_le p.output (length s.output))
      (and_from (p.pc % 4 == 0) (nat_le p.input (length s.input)) (eq-eqb (p.pc % 4) 0 is.aligned) (le-leb p.input (length s.input) is.taken))
      (le-leb p.output (length s.output) is.put)

  place-of : (p : Place) → can_stand p s.input s.output ≡ true → IsPlace p s.input s.output
  place-of p e =
      let two = and_parts (p.pc % 4 == 0 && nat_le p.input (length s.input)) (nat_le p.output (length s.output)) e in
      let one = and_parts (p.pc % 4 == 0) (nat_le p.input (length s.input)) two.0 in
      record { aligned = eqb-true (p.pc % 4) 0 one.0; taken = leb-true p.input (length s.input) one.1; put = leb-true p.output (length s.output) two.1 }

  -- where a run can stand at the place before, what its head states decides alone
  pub opens-at : (i : ℕ) (p : Place) (bytes : List ℕ) → 32 ≤ length bytes → stated bytes ≡ p → IsPlace p s.input s.output → opening i bytes ≡ Ok bytes
  opens-at i p bytes le there is =
      let stands : can_stand (stated bytes) s.input s.output ≡ true = ap (λ q. can_stand q s.input s.output) there ∙ stands-at p is in
      ap (λ b. unless_broken i 0 ((1, b) ∷ (9, can_stand (stated bytes) s.input s.output) ∷ []) bytes) (le-leb 32 (length bytes) le)
      ∙ ap (λ b. unless_broken i 0 ((9, b) ∷ []) bytes) stands

  -- a shard that states the place before it is read alone as it is read there
  pub alone-is : (i : ℕ) (p : Place) (bytes : List ℕ) → 32 ≤ length bytes → same_place (head_of bytes) p ≡ true → IsPlace p s.input s.output → read_alone lanes s i bytes ≡ read_at i p bytes
  alone-is i p bytes le same is =
      let there : stated bytes ≡ p = place-stated (head_of bytes) p same in
      ap (λ (o : Result (List ℕ) Refusal). o >>= read_at i (stated bytes)) (opens-at i p bytes le there is) ∙ ap (λ q. read_at i q bytes) there

  -- a shard that was read alone states a place where a run can stand, and was read from there
  pub read-there : (i : ℕ) (bytes : List ℕ) (x : Reading Shard) → read_alone lanes s i bytes ≡ Ok x → IsPlace (stated bytes) s.input s.output × (read_at i (stated bytes) bytes ≡ Ok x)
  read-there i bytes x e =
      let cs : List Check = (9, can_stand (stated bytes) s.input s.output) ∷ [] in
      let a = bind-ok (opening i bytes) (read_at i (stated bytes)) x e in
      let u = unless-ok i 0 ((1, nat_le 32 (length bytes)) ∷ cs) bytes a.0 a.1 in
      let first = all-hold (1, nat_le 32 (length bytes)) cs u.0 in
      let second = all-hold (9, can_stand (stated bytes) s.input s.output) [] first.1 in
      (place-of (stated bytes) second.0, subst (λ (xs : List ℕ). read_at i (stated bytes) xs ≡ Ok x) (sym u.1) a.2)

  -- ---- what comes behind a shard

  -- a shard that was read at a place leaves a place
  pub stands-behind : (i : ℕ) (p : Place) (bytes : List ℕ) (x : Reading Shard) → IsPlace p s.input s.output → read_at i p bytes ≡ Ok x → IsPlace x.place s.input s.output
  stands-behind i p bytes x is e = (is-shard-read lanes s.elf s.input s.header s.output i p bytes x e).stands is

  pub goes-on : (n i : ℕ) (p : Place) (es : List Event) (bytes : List ℕ) (x : Reading Shard) → read_at i p bytes ≡ Ok x → follow (suc n) i p es bytes ≡ follow n (i + 1) x.place (es ++ shard_events i x) x.left
  goes-on n i p es bytes x e = one-follows n i p es bytes ∙ ap (λ (r : Result (Reading Shard) Refusal). r >>= next_follow n i es) e

  pub refuses : (n i : ℕ) (p : Place) (es : List Event) (bytes : List ℕ) (r : Refusal) → read_at i p bytes ≡ Err r → follow (suc n) i p es bytes ≡ Err r
  refuses n i p es bytes r e = one-follows n i p es bytes ∙ ap (λ (o : Result (Reading Shard) Refusal). o >>= next_follow n i es) e

  pub goes-on-alone : (n i : ℕ) (bytes : List ℕ) (x : Reading Shard) → read_alone lanes s i bytes ≡ Ok x → after_all i [] (shards_alone lanes s (suc n) i bytes) ≡ follow n (i + 1) x.place (shard_events i x) x.left
  goes-on-alone n i bytes x e = first-alone n i bytes ∙ ap (λ (o : Result (Reading Shard) Refusal). o >>= next_follow n i []) e

  -- what is refused behind the reading is refused in it
  pub was-refused : (i : ℕ) (es : List Event) (r : Refusal) (o : Result (Reading (List Shard)) Refusal) → after_all i es o ≡ Err r → o ≡ Err r
  was-refused i es r (Ok y) e = absurd cc
  was-refused i es r (Err t) e = let same : t ≡ r = cc in ap (λ z. Err z) same

  -- what is behind the reading was read
  pub was-read : (i : ℕ) (es : List Event) (a : After) (o : Result (Reading (List Shard)) Refusal) → after_all i es o ≡ Ok a → (y : Reading (List Shard)) × (o ≡ Ok y) × (after_of i es y ≡ a)
  was-read i es a (Ok y) e = (y, refl, ok-is (after_of i es y) a e)
  was-read i es a (Err t) e = absurd cc

  -- shards that were read at a place leave a place
  pub stands-through : (n i : ℕ) (p : Place) (bytes : List ℕ) (y : Reading (List Shard)) → IsPlace p s.input s.output → shards_at lanes s n i p bytes ≡ Ok y → IsPlace y.place s.input s.output
  unfolding read_shards
  stands-through zero i p bytes y is e =
      let none : Reading (List Shard) = record { part = []; place = p; left = bytes } in
      subst (λ (z : Reading (List Shard)). IsPlace z.place s.input s.output) (ok-is none y e) is
  stands-through (suc n) i p bytes y is e =
      let put : Reading Shard → Reading (List Shard) → Reading (List Shard) = λ x o. record { part = x.part ∷ o.part; place = o.place; left = o.left } in
      let a = bind-ok (read_at i p bytes) (λ x. shards_at lanes s n (i + 1) x.place x.left >>= λ o. Ok (put x o)) y e in
      let b = bind-ok (shards_at lanes s n (i + 1) a.0.place a.0.left) (λ o. Ok (put a.0 o)) y a.2 in
      subst (λ (z : Reading (List Shard)). IsPlace z.place s.input s.output) {x = put a.0 b.0} (ok-is (put a.0 b.0) y b.2) (stands-through n (i + 1) a.0.place a.0.left b.0 (stands-behind i p bytes a.0 is a.1) b.1)

  -- what states the place before it is read alone as it is read there
  pub all-alone-is : (n i : ℕ) (p : Place) (bytes : List ℕ) → 32 ≤ length bytes → stated bytes ≡ p → IsPlace p s.input s.output → shards_alone lanes s n i bytes ≡ shards_at lanes s n i p bytes
  all-alone-is n i p bytes le there is =
      ap (λ (o : Result (List ℕ) Refusal). o >>= shards_at lanes s n i (stated bytes)) (opens-at i p bytes le there is) ∙ ap (λ q. shards_at lanes s n i q bytes) there
