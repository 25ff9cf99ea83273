-- The verdict on shards, one shard after another.
use Rattle.std.proofs.Common.{◌≡◌, ℕ, zero, suc, ◌+◌, ◌*◌, ◌<◌, ◌≤◌, Bool, true, false, ◌&&◌, ◌==◌, List, [], ◌∷◌, ◌++◌, length, drop, Result, Ok, Err, refl, sym, ap, ◌∙◌, append_assoc, arith}
use Rattle.std.proofs.lemmas.Bool.{le-leb, lt-leb, eqb-true, and_parts}
use Rattle.rv_base.specs.declared.record.Header.{Header}
use Rattle.rv_base.specs.declared.record.Place.{Place}
use Rattle.rv_base.specs.declared.record.Refusal.{Refusal}
use Rattle.rv_base.specs.declared.record.ShardHead.{ShardHead}
use Rattle.rv_spec.specs.Digest.{Lanes}
use Rattle.rv_spec.specs.Tuples.{Event, events}
use Rattle.rv_spec.specs.Record.{Shard, shard_rows}
use Rattle.rv_rules.specs.Checks.{unless_broken, ◌>>=◌}
use Rattle.rv_rules.specs.Reading.{Reading, head_of, same_place, read_shards}
use Rattle.rv_reading.specs.Stream.{State}
use Rattle.rv_base.specs.declared.record.Verdict.TheVariants.{Refuse}
use Rattle.rv_reading.specs.Machine.{Phase, event_sums, shards_events, told}
use Rattle.rv_reading.specs.Machine.Phase.{Shards}
use Rattle.rv_reading.specs.Machine.Extent.{WholeFile}
use Rattle.rv_reading.specs.Parts.{runs}
use Rattle.rv_reading.proofs.Lemmas.{shards-are-read, bind-assoc, bind-same}
use Rattle.rv_panel.proofs.ShardParts.{shard_read, head_holds, after_head, shard-read-is}

and-false : (b : Bool) → (b && false) ≡ false
and-false true = refl
and-false false = refl

-- a head states this place
pub place-stated : (head : ShardHead) (p : Place) → same_place head p ≡ true → record { pc = head.pc; input = head.input; output = head.output } ≡ p
place-stated head p e =
    let two = and_parts (head.pc == p.pc && head.input == p.input) (head.output == p.output) e in
    let one = and_parts (head.pc == p.pc) (head.input == p.input) two.0 in
    let pc = eqb-true head.pc p.pc one.0 in
    let taken = eqb-true head.input p.input one.1 in
    let put = eqb-true head.output p.output two.1 in
    λ i. record { pc = pc i; input = taken i; output = put i }

module _ (lanes : Lanes) (elf input : List ℕ) (h : Header) (output : List ℕ) where
  abbrev pub run : Phase → List ℕ → State Phase
  run q bytes = runs true lanes elf input h output WholeFile q bytes

  -- n shards from shard i on, behind these events
  abbrev pub from : ℕ → ℕ → Place → List Event → List ℕ → State Phase
  from n i p es bytes = run (Shards n i p (event_sums true lanes es)) bytes

  abbrev pub shard_events : ℕ → Reading Shard → List Event
  shard_events i x = events (i * h.size) x.part.rows

  pub one-shard : (n i : ℕ) (es : List Event) (p : Place) (bytes : List ℕ)
      → from (suc n) i p es bytes ≡ (shard_read lanes elf input h output i p bytes >>= λ x. from n (i + 1) x.place (es ++ shard_events i x) x.left)
  unfolding read_shards
  one-shard n i es p bytes =
      let read = shard_read lanes elf input h output i p bytes in
      let others : Reading Shard → Result (Reading (List Shard)) Refusal = λ x. read_shards true lanes elf input n h output (i + 1) x.place x.left in
      let put : Reading Shard → Reading (List Shard) → Reading (List Shard) = λ x o. record { part = x.part ∷ o.part; place = o.place; left = o.left } in
      let whole : Reading Shard → Result (Reading (List Shard)) Refusal = λ x. others x >>= λ o. Ok (put x o) in
      let ends : Reading (List Shard) → State Phase = λ y. run (Shards zero (i + suc n) y.place (event_sums true lanes (es ++ shards_events h i y.part))) y.left in
      let ends_next : Reading Shard → Reading (List Shard) → State Phase = λ x o. run (Shards zero (i + 1 + n) o.place (event_sums true lanes ((es ++ shard_events i x) ++ shards_events h (i + 1) o.part))) o.left in
      let next : Reading Shard → State Phase = λ x. from n (i + 1) x.place (es ++ shard_events i x) x.left in
      let number : i + suc n ≡ i + 1 + n = omega arith in
      let same : (x : Reading Shard) (o : Reading (List Shard)) → ends (put x o) ≡ ends_next x o = λ x o.
      let list = sym (append_assoc es (shard_events i x) (shards_events h (i + 1) o.part)) in
      λ t. run (Shards zero (number t) o.place (event_sums true lanes (list t))) o.left in
      let inner : (x : Reading Shard) → (whole x >>= ends) ≡ next x = λ x.
      bind-assoc (others x) (λ o. Ok (put x o)) ends
      ∙ bind-same (others x) (λ o. ends (put x o)) (ends_next x) (λ o e. same x o)
      ∙ sym (shards-are-read true lanes elf input h output WholeFile n (i + 1) (es ++ shard_events i x) x.place x.left) in
      shards-are-read true lanes elf input h output WholeFile (suc n) i es p bytes
      ∙ bind-assoc read whole ends
      ∙ bind-same read (λ x. whole x >>= ends) next (λ x e. inner x)

  abbrev refused : ℕ → ℕ → Refusal
  refused i rule = record { shard = i; row = 0; rule = rule }

  pub no-head : (i : ℕ) (p : Place) (bytes : List ℕ) → length bytes < 32 → shard_read lanes elf input h output i p bytes ≡ Err (refused i 1)
  no-head i p bytes lt =
      let rest = drop 32 bytes in
      let next = after_head lanes elf input h output i p (head_of bytes) in
      shard-read-is lanes elf input h output i p bytes
      ∙ ap (λ b. unless_broken i 0 ((1, b) ∷ (9, head_holds lanes elf input h output i p (head_of bytes)) ∷ []) rest >>= next) (lt-leb 32 (length bytes) lt)

  pub displaced : (i : ℕ) (p : Place) (bytes : List ℕ) → 32 ≤ length bytes → same_place (head_of bytes) p ≡ false → shard_read lanes elf input h output i p bytes ≡ Err (refused i 9)
  displaced i p bytes le other =
      let head = head_of bytes in
      let rest = drop 32 bytes in
      let next = after_head lanes elf input h output i p head in
      let counts = head.index == i && head.rows == shard_rows h.size h.steps i in
      let fails : head_holds lanes elf input h output i p head ≡ false = ap (λ b. counts && b) other ∙ and-false counts in
      shard-read-is lanes elf input h output i p bytes
      ∙ ap (λ b. unless_broken i 0 ((1, b) ∷ (9, head_holds lanes elf input h output i p head) ∷ []) rest >>= next) (le-leb 32 (length bytes) le)
      ∙ ap (λ b. unless_broken i 0 ((9, b) ∷ []) rest >>= next) fails

  -- ---- the verdict, shard by shard

  abbrev next_from : ℕ → ℕ → List Event → Reading Shard → State Phase
  next_from n i es x = from n (i + 1) x.place (es ++ shard_events i x) x.left

  pub refuses : (n i : ℕ) (es : List Event) (p : Place) (bytes : List ℕ) (r : Refusal) → shard_read lanes elf input h output i p bytes ≡ Err r → told h (from (suc n) i p es bytes) ≡ Refuse r
  refuses n i es p bytes r e = ap (told h) (one-shard n i es p bytes ∙ ap (λ s. s >>= next_from n i es) e)

  pub goes-on : (n i : ℕ) (es : List Event) (p : Place) (bytes : List ℕ) (x : Reading Shard) → shard_read lanes elf input h output i p bytes ≡ Ok x
      → told h (from (suc n) i p es bytes) ≡ told h (from n (i + 1) x.place (es ++ shard_events i x) x.left)
  goes-on n i es p bytes x e = ap (told h) (one-shard n i es p bytes ∙ ap (λ s. s >>= next_from n i es) e)
