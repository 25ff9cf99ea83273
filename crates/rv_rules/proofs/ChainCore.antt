-- Where what readers read is one multiset with what is written, each reader reads the last write before it.
use Rattle.std.proofs.Common.{◌≡◌, ◌≢◌, ℕ, zero, suc, ◌+◌, ◌<◌, ◌≤◌, Bool, true, false, cond, List, [], ◌∷◌, map, refl, sym, ◌∙◌, ap, subst, inl, inr, arith}
use Rattle.std.specs.Prelude.{count_by}
use Rattle.std.proofs.lemmas.List.Sums.{sum_by-cons}
use Rattle.std.proofs.lemmas.Bool.{eq-eqb, cases_lt}
use Rattle.rv_base.specs.declared.record.Tuple.{Tuple}
use Rattle.rv_spec.specs.Tuples.{Event, tuple_read}
use Rattle.rv_rules.specs.Chain.{at, WrittenOnce}
use Rattle.rv_spec.specs.Multiset.{same_tuple, count, Same}
use Rattle.rv_rules.specs.Membership.{In}
use Rattle.rv_rules.proofs.Conjunctions.{both-true}
use Rattle.rv_rules.proofs.MultisetLaws.{sum_by-same, same_tuple-refl, same_tuple-true, count-cons}

pub in-map : {A B : Type 0} (f : A → B) (x : A) (xs : List A) → In x xs → In (f x) (map f xs)
in-map f x [] h = h
in-map f x (y ∷ ys) (inl e) = inl (ap f e)
in-map f x (y ∷ ys) (inr h) = inr (in-map f x ys h)

pub at-is : (c t : ℕ) (w : Tuple) → w.cell ≡ c → w.time ≡ t → at c t w ≡ true
at-is c t w p q = both-true _ _ (eq-eqb w.cell c p) (eq-eqb w.time t q)

count-one : {A : Type 0} (p : A → Bool) (x : A) (xs : List A) → p x ≡ true → count_by p (x ∷ xs) ≡ 1 + count_by p xs
count-one p x xs e = sum_by-cons (λ y. cond (p y) 1 0) x xs ∙ ap (λ b. cond b 1 0 + count_by p xs) e

count-more : {A : Type 0} (p : A → Bool) (x : A) (xs : List A) → count_by p xs ≤ count_by p (x ∷ xs)
count-more p x xs = omega (arith, sum_by-cons (λ y. cond (p y) 1 0) x xs)

pub one-passes : {A B : Type 0} (p : B → Bool) (f : A → B) (x : A) (xs : List A) → In x xs → p (f x) ≡ true → 1 ≤ count_by p (map f xs)
one-passes p f x [] h e = absurd h
one-passes p f x (y ∷ ys) (inl same) e = omega (arith, count-one p (f y) (map f ys) (ap (λ z. p (f z)) (sym same) ∙ e))
one-passes p f x (y ∷ ys) (inr h) e = omega (arith, count-more p (f y) (map f ys), one-passes p f x ys h e)

pub two-pass : {A B : Type 0} (p : B → Bool) (f : A → B) (x y : A) (xs : List A) → In x xs → In y xs → x ≢ y → p (f x) ≡ true → p (f y) ≡ true → 2 ≤ count_by p (map f xs)
two-pass p f x y [] hx hy differ ex ey = absurd hx
two-pass p f x y (z ∷ zs) (inl sx) (inl sy) differ ex ey = absurd (differ (sx ∙ sym sy))
two-pass p f x y (z ∷ zs) (inl sx) (inr hy) differ ex ey = omega (arith, count-one p (f z) (map f zs) (ap (λ z. p (f z)) (sym sx) ∙ ex), one-passes p f y zs hy ey)
two-pass p f x y (z ∷ zs) (inr hx) (inl sy) differ ex ey = omega (arith, count-one p (f z) (map f zs) (ap (λ z. p (f z)) (sym sy) ∙ ey), one-passes p f x zs hx ex)
two-pass p f x y (z ∷ zs) (inr hx) (inr hy) differ ex ey = omega (arith, count-more p (f z) (map f zs), two-pass p f x y zs hx hy differ ex ey)

-- a tuple stands in a list where it stands there at least once
pub in-count : (t : Tuple) (ts : List Tuple) → In t ts → 1 ≤ count t ts
in-count t [] h = absurd h
in-count t (u ∷ us) (inl e) =
    let one : same_tuple t u ≡ true = ap (same_tuple t) (sym e) ∙ same_tuple-refl t in
    omega (arith, count-cons t u us ∙ ap (λ b. cond b 1 0 + count t us) one)
in-count t (u ∷ us) (inr h) = omega (arith, count-cons t u us, in-count t us h)

pub count-in : (t : Tuple) (ts : List Tuple) → 1 ≤ count t ts → In t ts
unfolding count
count-in t [] h = absurd (omega arith)
count-in t (u ∷ us) h = go (same_tuple t u) refl (count-in t us)
  where
    go : (b : Bool) → same_tuple t u ≡ b → (1 ≤ count t us → In t us) → In t (u ∷ us)
    go true e rest = inl (same_tuple-true t u e)
    go false e rest =
        let less : 1 ≤ 0 + count t us = subst (λ b. 1 ≤ cond b 1 0 + count t us) e (subst (λ n. 1 ≤ n) (count-cons t u us) h) in
        inr (rest (omega (arith, less)))

-- Readers and writes: one multiset, in which each cell and time is written once, each reader reads an earlier time, and each write after time 0 is that of a reader.
pub record Agree (rs : List Event) (ws : List Tuple) : Type 0 where
  pub same : Same (map tuple_read rs) ws
  pub once : WrittenOnce ws
  pub earlier : (e : Event) → In e rs → e.prev < e.time
  pub written : (w : Tuple) → In w ws → 0 < w.time → (e : Event) × In e rs × (e.cell ≡ w.cell) × (e.time ≡ w.time)

module _ (rs : List Event) (ws : List Tuple) (a : Agree rs ws) where
  -- what is read was written
  pub read-in : (e : Event) → In e rs → In (tuple_read e) ws
  read-in e h =
      let stands = in-count (tuple_read e) (map tuple_read rs) (in-map tuple_read e rs h) in
      count-in (tuple_read e) ws (subst (λ n. 1 ≤ n) (a.same.counts (tuple_read e)) stands)

  -- two readers of one cell at different times read different times
  pub read-once : (e f : Event) → In e rs → In f rs → e.cell ≡ f.cell → e.time ≢ f.time → e.prev ≢ f.prev
  unfolding count
  read-once e f he hf cells times prevs =
      let two = two-pass (at f.cell f.prev) tuple_read e f rs he hf (λ same. times (ap (λ z. z.time) same))
      (at-is f.cell f.prev (tuple_read e) cells prevs) (at-is f.cell f.prev (tuple_read f) refl refl) in
      let sums : count_by (at f.cell f.prev) (map tuple_read rs) ≡ count_by (at f.cell f.prev) ws = sum_by-same (λ w. cond (at f.cell f.prev w) 1 0) (map tuple_read rs) ws a.same.counts in
      omega (arith, two, sums, a.once f.cell f.prev)

  -- nothing is written to the reader's cell after what it reads and before it
  abbrev pub LastRead : Event → Type 0
  LastRead e = (w : Tuple) → In w ws → w.cell ≡ e.cell → w.time < e.time → w.time ≤ e.prev

  between : (e : Event) → In e rs → ((f : Event) → In f rs → f.time < e.time → LastRead f) → (m : ℕ) (w : Tuple) → In w ws → w.cell ≡ e.cell → e.prev < w.time → w.time < e.time → w.time ≤ m → ⊥
  between e he ih zero w hw cell low high bound = omega arith
  between e he ih (suc m) w hw cell low high bound =
      let f = a.written w hw (omega arith) in
      let reader : Event = f.0 in
      let reader_cell : reader.cell ≡ e.cell = f.2 ∙ cell in
      let reader-time : reader.time ≡ w.time = f.3 in
      let earlier : reader.prev < reader.time = a.earlier reader f.1 in
      let above : e.prev ≤ reader.prev = ih reader f.1 (omega arith) (tuple_read e) (read-in e he) (sym reader_cell) (omega arith) in
      let apart : reader.prev ≢ e.prev = read-once reader e f.1 he reader_cell (λ same. absurd (omega arith)) in
      between e he ih m (tuple_read reader) (read-in reader f.1) reader_cell (omega arith) (omega arith) (omega arith)

  last-below : (n : ℕ) (e : Event) → In e rs → e.time ≤ n → LastRead e
  last-below zero e he bound w hw cell high = absurd (omega arith)
  last-below (suc n) e he bound w hw cell high =
      elim (cases_lt e.prev w.time) [
        | inl later ↦ absurd (between e he (λ f hf early. last-below n f hf (omega arith)) w.time w hw cell later high (omega arith))
        | inr earlier ↦ earlier
      ]

  -- each reader reads the last write to its cell before it
  pub last-read : (e : Event) → In e rs → LastRead e
  last-read e he = last-below e.time e he (omega arith)
