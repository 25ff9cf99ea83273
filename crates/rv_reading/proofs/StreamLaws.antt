-- The laws of readers that go on from phase to phase.
use Rattle.std.proofs.Common.{◌≡◌, ℕ, zero, suc, ◌<◌, Bool, true, false, cond, ◌==◌, List, [], ◌++◌, length, Some, None, Ok, Err, refl, sym, ap, ◌∙◌, append_assoc, arith}
use Rattle.std.proofs.lemmas.Bool.{eqb-true, eqb-false}
use Rattle.std.proofs.lemmas.List.{append-nil}
use Rattle.rv_base.specs.declared.record.Refusal.{Refusal}
use Rattle.rv_rules.specs.Checks.{◌>>=◌}
use Rattle.rv_reading.specs.Stream.{Found, StepOf, IsStream, State, onwards, reads_in, reads, with_patience, patient, until, settle, feed, outcome}

-- ---- patience

abbrev refusal : (P : Type 0) → Refusal → Found P
refusal P r = Err r

module _ {P : Type 0} where
  patient-goes : (s : Found P) (x : P × List ℕ) → with_patience s ≡ Ok (Some x) → s ≡ Ok (Some x)
  patient-goes (Ok y) x e = e
  patient-goes (Err r) x e = go (r.rule == 1) e
    where
      go : (b : Bool) → cond {A = Found P} b (Ok None) (Err r) ≡ Ok (Some x) → Err r ≡ Ok (Some x)
      go true f = absurd cc
      go false f = f

  -- it refuses by another rule than 1
  patient-refuses : (s : Found P) (r : Refusal) → with_patience s ≡ Err r → (s ≡ Err r) × (¬ (r.rule ≡ 1))
  patient-refuses (Ok y) r e = absurd cc
  patient-refuses (Err t) r e = go (t.rule == 1) refl e
    where
      go : (b : Bool) → (t.rule == 1) ≡ b → cond {A = Found P} b (Ok None) (Err t) ≡ Err r → (refusal P t ≡ Err r) × (¬ (r.rule ≡ 1))
      go true f g = absurd cc
      go false f g = let same : t ≡ r = cc in (g, λ one. eqb-false t.rule 1 f (ap (λ (z : Refusal). z.rule) same ∙ one))

  pub patient-stays : (r : Refusal) → ¬ (r.rule ≡ 1) → with_patience (refusal P r) ≡ Err r
  patient-stays r not = go (r.rule == 1) refl
    where
      go : (b : Bool) → (r.rule == 1) ≡ b → cond {A = Found P} b (Ok None) (Err r) ≡ Err r
      go true e = absurd (not (eqb-true r.rule 1 e))
      go false e = refl

module _ {P : Type 0} (step : StepOf P) (is : IsStream P step) where
  -- more steps than bytes change nothing
  reads_in-steps : (n m : ℕ) (p : P) (xs : List ℕ) → length xs < n → length xs < m → reads_in step n p xs ≡ reads_in step m p xs
  unfolding reads_in
  reads_in-steps zero m p xs a b = absurd (omega (arith, a))
  reads_in-steps (suc n) zero p xs a b = absurd (omega (arith, b))
  reads_in-steps (suc n) (suc m) p xs a b = go (step p xs) refl (reads_in-steps n m)
    where
      go : (s : Found P) → step p xs ≡ s → ((q : P) (zs : List ℕ) → length zs < n → length zs < m → reads_in step n q zs ≡ reads_in step m q zs)
          → (s >>= onwards (reads_in step n) (p, xs)) ≡ (s >>= onwards (reads_in step m) (p, xs))
      go (Err r) e same = refl
      go (Ok None) e same = refl
      go (Ok (Some x)) e same = let less = is.takes p x.0 xs x.1 e in same x.0 x.1 (omega (arith, less, a)) (omega (arith, less, b))

  -- reading is a step and then reading
  pub reads-step : (p : P) (xs : List ℕ) → reads step p xs ≡ (step p xs >>= onwards (reads step) (p, xs))
  unfolding reads_in
  reads-step p xs = go (step p xs) refl
    where
      go : (s : Found P) → step p xs ≡ s → (s >>= onwards (reads_in step (length xs)) (p, xs)) ≡ (s >>= onwards (reads step) (p, xs))
      go (Err r) e = refl
      go (Ok None) e = refl
      go (Ok (Some x)) e = let less = is.takes p x.0 xs x.1 e in reads_in-steps (length xs) (suc (length x.1)) x.0 x.1 less (omega arith)

  reads-step_is : (p : P) (xs : List ℕ) (s : Found P) → step p xs ≡ s → reads step p xs ≡ (s >>= onwards (reads step) (p, xs))
  reads-step_is p xs s e = reads-step p xs ∙ ap (λ z. z >>= onwards (reads step) (p, xs)) e

  -- where a step goes on, so does the reading with more bytes behind
  pub reads-goes : (p q : P) (xs left rest : List ℕ) → step p xs ≡ Ok (Some (q, left)) → reads step p (xs ++ rest) ≡ reads step q (left ++ rest)
  reads-goes p q xs left rest e = reads-step_is p (xs ++ rest) (Ok (Some (q, left ++ rest))) (is.goes p q xs left rest e)

  -- where a step refuses by another rule than 1, so does the reading with more bytes behind
  pub reads-stops : (p : P) (xs rest : List ℕ) (r : Refusal) → step p xs ≡ Err r → ¬ (r.rule ≡ 1) → reads step p (xs ++ rest) ≡ Err r
  reads-stops p xs rest r e not = reads-step_is p (xs ++ rest) (Err r) (is.stays p xs rest r e not)

  ends-in : (n : ℕ) (p : P) (xs : List ℕ) (x : P × List ℕ) → length xs < n → reads step p xs ≡ Ok x → step x.0 x.1 ≡ Ok None
  ends-in zero p xs x a e = absurd (omega (arith, a))
  ends-in (suc n) p xs x a e = go (step p xs) refl (sym (reads-step p xs) ∙ e) (ends-in n)
    where
      go : (s : Found P) → step p xs ≡ s → (s >>= onwards (reads step) (p, xs)) ≡ Ok x
          → ((q : P) (zs : List ℕ) (y : P × List ℕ) → length zs < n → reads step q zs ≡ Ok y → step y.0 y.1 ≡ Ok None) → step x.0 x.1 ≡ Ok None
      go (Err r) f g later = absurd cc
      go (Ok None) f g later = let here : (p, xs) ≡ x = cc in ap (λ (z : P × List ℕ). step z.0 z.1) (sym here) ∙ f
      go (Ok (Some y)) f g later = let less = is.takes p y.0 xs y.1 f in later y.0 y.1 x (omega (arith, less, a)) g

  -- Reading ends where the step says that it may.
  reads-ends : (p : P) (xs : List ℕ) (x : P × List ℕ) → reads step p xs ≡ Ok x → step x.0 x.1 ≡ Ok None
  reads-ends p xs x e = ends-in (suc (length xs)) p xs x (omega arith) e

  -- the step that waits for bytes is a stream too
  patient-is_stream : IsStream P (patient step)
  patient-is_stream = record {
    takes = λ p q xs rest e. is.takes p q xs rest (patient-goes (step p xs) (q, rest) e);
    goes = λ p q xs rest ys e. ap with_patience (is.goes p q xs rest ys (patient-goes (step p xs) (q, rest) e));
    stays = λ p xs ys r e not. ap with_patience (is.stays p xs ys r (patient-refuses (step p xs) r e).0 not) ∙ patient-stays r not;
  }

  -- the step that ends where a test holds is a stream too
  pub until-is_stream : (test : P → Bool) → IsStream P (until test step)
  until-is_stream test = record {
    takes = λ p q xs rest e. is.takes p q xs rest (went p q xs rest (test p) e);
    goes = λ p q xs rest ys e. goes p q xs rest ys (test p) e;
    stays = λ p xs ys r e not. stays p xs ys r (test p) e not;
  }
    where
      went : (p q : P) (xs rest : List ℕ) (b : Bool) → cond b (Ok None) (step p xs) ≡ Ok (Some (q, rest)) → step p xs ≡ Ok (Some (q, rest))
      went p q xs rest true e = absurd cc
      went p q xs rest false e = e

      goes : (p q : P) (xs rest ys : List ℕ) (b : Bool) → cond b (Ok None) (step p xs) ≡ Ok (Some (q, rest)) → cond b (Ok None) (step p (xs ++ ys)) ≡ Ok (Some (q, rest ++ ys))
      goes p q xs rest ys true e = absurd cc
      goes p q xs rest ys false e = is.goes p q xs rest ys e

      stays : (p : P) (xs ys : List ℕ) (r : Refusal) (b : Bool) → cond b (Ok None) (step p xs) ≡ Err r → ¬ (r.rule ≡ 1) → cond b (Ok None) (step p (xs ++ ys)) ≡ Err r
      stays p xs ys r true e not = absurd cc
      stays p xs ys r false e not = is.stays p xs ys r e not

-- ---- in pieces

-- where a step goes on or refuses, another does so too, whatever bytes come behind
record IsFollowed {P : Type 0} (step other : StepOf P) : Type 0 where
  goes : (p : P) (xs ys : List ℕ) (x : P × List ℕ) → step p xs ≡ Ok (Some x) → other p (xs ++ ys) ≡ Ok (Some (x.0, x.1 ++ ys))
  stays : (p : P) (xs ys : List ℕ) (r : Refusal) → step p xs ≡ Err r → other p (xs ++ ys) ≡ Err r

module _ {P : Type 0} (step other : StepOf P) (is : IsStream P step) (others : IsStream P other) (follows : IsFollowed step other) where
  joined-in : (n : ℕ) (p : P) (xs ys : List ℕ) → length xs < n → (reads step p xs >>= λ x. reads other x.0 (x.1 ++ ys)) ≡ reads other p (xs ++ ys)
  joined-in zero p xs ys a = absurd (omega (arith, a))
  joined-in (suc n) p xs ys a = ap (λ z. z >>= λ x. reads other x.0 (x.1 ++ ys)) (reads-step step is p xs) ∙ go (step p xs) refl (joined-in n)
    where
      go : (s : Found P) → step p xs ≡ s → ((q : P) (zs us : List ℕ) → length zs < n → (reads step q zs >>= λ x. reads other x.0 (x.1 ++ us)) ≡ reads other q (zs ++ us))
          → ((s >>= onwards (reads step) (p, xs)) >>= λ x. reads other x.0 (x.1 ++ ys)) ≡ reads other p (xs ++ ys)
      go (Err r) e later = sym (reads-step_is other others p (xs ++ ys) (Err r) (follows.stays p xs ys r e))
      go (Ok None) e later = refl
      go (Ok (Some x)) e later =
          let less = is.takes p x.0 xs x.1 e in
          later x.0 x.1 ys (omega (arith, less, a)) ∙ sym (reads-step_is other others p (xs ++ ys) (Ok (Some (x.0, x.1 ++ ys))) (follows.goes p xs ys x e))

  -- reading as far as one step goes, and on from there by the other
  joined : (p : P) (xs ys : List ℕ) → (reads step p xs >>= λ x. reads other x.0 (x.1 ++ ys)) ≡ reads other p (xs ++ ys)
  joined p xs ys = joined-in (suc (length xs)) p xs ys (omega arith)

module _ {P : Type 0} (step : StepOf P) (is : IsStream P step) where
  waits : IsStream P (patient step)
  waits = patient-is_stream step is

  -- Feeding a piece and then another is feeding both joined.
  pub feed-feed : (s : State P) (piece more : List ℕ) → feed step (feed step s piece) more ≡ feed step s (piece ++ more)
  feed-feed (Err r) piece more = refl
  feed-feed (Ok x) piece more = joined (patient step) (patient step) waits waits follows x.0 (x.1 ++ piece) more ∙ ap (λ bytes. settle step x.0 bytes) (append_assoc x.1 piece more)
    where
      follows : IsFollowed (patient step) (patient step)
      follows = record {
        goes = λ p xs ys y e. waits.goes p y.0 xs y.1 ys e;
        stays = λ p xs ys r e. waits.stays p xs ys r e (patient-refuses (step p xs) r e).1;
      }

  settle-outcome : (p : P) (xs ys : List ℕ) → outcome step (settle step p xs) ys ≡ reads step p (xs ++ ys)
  settle-outcome p xs ys = joined (patient step) step waits is follows p xs ys
    where
      follows : IsFollowed (patient step) step
      follows = record {
        goes = λ q zs us y e. is.goes q y.0 zs y.1 us (patient-goes (step q zs) y e);
        stays = λ q zs us r e. let told = patient-refuses (step q zs) r e in is.stays q zs us r told.0 told.1;
      }

  -- What comes of the state after a piece is what comes of the state before, with the piece in front.
  pub feed-outcome : (s : State P) (piece rest : List ℕ) → outcome step (feed step s piece) rest ≡ outcome step s (piece ++ rest)
  feed-outcome (Err r) piece rest = refl
  feed-outcome (Ok x) piece rest = settle-outcome x.0 (x.1 ++ piece) rest ∙ ap (λ bytes. reads step x.0 bytes) (append_assoc x.1 piece rest)

  -- ---- what a state tells

  never-one-in : (n : ℕ) (p : P) (xs : List ℕ) (r : Refusal) → length xs < n → settle step p xs ≡ Err r → ¬ (r.rule ≡ 1)
  never-one-in zero p xs r a e = absurd (omega (arith, a))
  never-one-in (suc n) p xs r a e = go (patient step p xs) refl (sym (reads-step (patient step) waits p xs) ∙ e) (never-one-in n)
    where
      go : (s : Found P) → patient step p xs ≡ s → (s >>= onwards (settle step) (p, xs)) ≡ Err r
          → ((q : P) (zs : List ℕ) (t : Refusal) → length zs < n → settle step q zs ≡ Err t → ¬ (t.rule ≡ 1)) → ¬ (r.rule ≡ 1)
      go (Err t) f g later = (patient-refuses (step p xs) r (f ∙ ap (λ (z : Refusal). Err z) (let same : t ≡ r = cc in same))).1
      go (Ok None) f g later = absurd cc
      go (Ok (Some x)) f g later = let less = waits.takes p x.0 xs x.1 f in later x.0 x.1 r (omega (arith, less, a)) g

  -- A state that refuses does so by another rule than 1, and whatever bytes come are refused so.
  pub state-refuses : (p : P) (xs : List ℕ) (r : Refusal) → settle step p xs ≡ Err r → (¬ (r.rule ≡ 1)) × ((ys : List ℕ) → reads step p (xs ++ ys) ≡ Err r)
  state-refuses p xs r e = (never-one-in (suc (length xs)) p xs r (omega arith) e, λ ys. sym (settle-outcome p xs ys) ∙ ap (λ s. outcome step s ys) e)

  -- A state that doesn't refuse waits with the bytes that it holds.
  pub state-waits : (p : P) (xs : List ℕ) (x : P × List ℕ) → settle step p xs ≡ Ok x → patient step x.0 x.1 ≡ Ok None
  state-waits p xs x e = reads-ends (patient step) waits p xs x e

  -- What waits is refused by rule 1, or not at all.
  pub waiting-refused : (p : P) (xs : List ℕ) (r : Refusal) → patient step p xs ≡ Ok None → reads step p xs ≡ Err r → r.rule ≡ 1
  waiting-refused p xs r waiting e = go (step p xs) waiting (sym (reads-step step is p xs) ∙ e)
    where
      by-one : (t : Refusal) (b : Bool) → (t.rule == 1) ≡ b → cond {A = Found P} b (Ok None) (Err t) ≡ Ok None → t.rule ≡ 1
      by-one t true f g = eqb-true t.rule 1 f
      by-one t false f g = absurd cc

      go : (s : Found P) → with_patience s ≡ Ok None → (s >>= onwards (reads step) (p, xs)) ≡ Err r → r.rule ≡ 1
      go (Ok None) f g = absurd cc
      go (Ok (Some y)) f g = absurd cc
      go (Err t) f g = let same : r ≡ t = cc in ap (λ (z : Refusal). z.rule) same ∙ by-one t (t.rule == 1) refl f

  -- Where the bytes so far are refused by another rule than 1, the state refuses so.
  pub state-tells : (p : P) (xs : List ℕ) (r : Refusal) → reads step p xs ≡ Err r → ¬ (r.rule ≡ 1) → settle step p xs ≡ Err r
  state-tells p xs r e not = go (settle step p xs) refl
    where
      whole : outcome step (settle step p xs) [] ≡ Err r
      whole = settle-outcome p xs [] ∙ ap (λ bytes. reads step p bytes) (append-nil xs) ∙ e

      go : (s : State P) → settle step p xs ≡ s → settle step p xs ≡ Err r
      go (Err t) f = f ∙ sym (ap (λ s. outcome step s []) f) ∙ whole
      go (Ok x) f =
          let held : reads step x.0 x.1 ≡ Err r = sym (ap (λ bytes. reads step x.0 bytes) (append-nil x.1)) ∙ sym (ap (λ s. outcome step s []) f) ∙ whole in
          absurd (not (waiting-refused x.0 x.1 r (state-waits p xs x f) held))
