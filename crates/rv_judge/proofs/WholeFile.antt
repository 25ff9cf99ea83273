-- Reading a whole file on, and what is known where it stops.
use Rattle.std.proofs.Common.{◌≡◌, ◌∙◌, ℕ, zero, suc, ◌+◌, ◌<◌, Bool, true, false, cond, ◌==◌, List, [], ◌∷◌, ◌++◌, length, take, drop, get_or, Option, Some, None, Result, Ok, Err, refl, sym, ap, append_assoc}
use Rattle.std.proofs.lemmas.Bool.{eqb-true, eqb-false}
use Rattle.std.proofs.lemmas.List.{append-nil, nil_from_length, take-append-drop, take_more}
use Rattle.rv_base.specs.declared.record.Header.{Header}
use Rattle.rv_base.specs.declared.record.Place.{Place}
use Rattle.rv_base.specs.declared.record.Refusal.{Refusal}
use Rattle.rv_base.specs.declared.record.Verdict.TheVariants.{Refuse}
use Rattle.rv_spec.specs.Digest.{Lanes}
use Rattle.rv_rules.specs.Checks.{◌>>=◌}
use Rattle.rv_reading.specs.Stream.{IsStream, Found, onwards, reads, reads_in, patient, with_patience, settle}
use Rattle.rv_reading.specs.Machine as machine
use Rattle.rv_reading.specs.Machine.{told, step as machine_step}
use Rattle.rv_reading.specs.Machine.Phase.{Shards, Rows, Entries}
use Rattle.rv_reading.specs.Machine.Extent.{WholeFile}
use Rattle.rv_reading.proofs.Lemmas.{machine-is-stream, whole-file-is-read, reads-step, reads-stops, states-wait, waiting-refused}
use Rattle.rv_judge.specs.declared.held.Reading.{Reading}
use Rattle.rv_judge.specs.Subject.{Subject, step, step_to}
use Rattle.rv_judge.specs.Phases.{phase_of, stopped}
use Rattle.rv_judge.specs.Held.{IsReading, ReadOn, RefusedOn, ReadsOn, comes, held_of}

-- ---- patience

refused : Refusal → Found machine.Phase
refused r = Err r

refuses-so : (o : Option Refusal) (r : Refusal) → Some r ≡ o → stopped o ≡ Err r
refuses-so None r e = absurd cc
refuses-so (Some q) r e = let same : r ≡ q = cc in ap (λ (z : Refusal). Err z) (sym same)

-- what lasts of a refusal is that refusal, by another rule than 1
pub lasts : (o p : Option Refusal) (r : Refusal) → stopped p ≡ with_patience (stopped o) → p ≡ Some r → (stopped o ≡ Err r) × (¬ (r.rule ≡ 1))
lasts None p r e is = let f : stopped (Some r) ≡ stopped None = ap stopped (sym is) ∙ e in absurd cc
lasts (Some q) p r e is = go (q.rule == 1) refl (ap stopped (sym is) ∙ e)
  where
    go : (b : Bool) → (q.rule == 1) ≡ b → stopped (Some r) ≡ cond {A = Found machine.Phase} b (Ok None) (Err q) → (stopped (Some q) ≡ Err r) × (¬ (r.rule ≡ 1))
    go true f g = absurd cc
    go false f g = let same : q ≡ r = cc in (ap (λ (z : Refusal). Err z) same, λ one. eqb-false q.rule 1 f (ap (λ (z : Refusal). z.rule) same ∙ one))

module _ (lanes : Lanes) (s : Subject) where
  is-stream : IsStream machine.Phase (step lanes s)
  is-stream = machine-is-stream true lanes s.elf s.input s.header s.output

  at-whole : (p : machine.Phase) (xs : List ℕ) → step_to lanes s WholeFile p xs ≡ step lanes s p xs
  at-whole (Shards zero i p all) xs = refl
  at-whole (Shards (suc n) i p all) xs = refl
  at-whole (Rows n r m i x p all) xs = refl
  at-whole (Entries zero j before p all) xs = refl
  at-whole (Entries (suc n) j before p all) xs = refl

  whole : (p : machine.Phase) (xs : List ℕ) → reads (step_to lanes s WholeFile) p xs ≡ reads (step lanes s) p xs
  whole p xs = whole-file-is-read true lanes s.elf s.input s.header s.output p xs

  -- a state that waits has fewer bytes than a buffer
  pub few : (p : machine.Phase) (xs : List ℕ) → patient (step lanes s) p xs ≡ Ok None → length xs < 256
  unfolding reads_in
  few p xs e =
      let settled : settle (step lanes s) p xs ≡ Ok (p, xs) = ap (λ z. z >>= onwards (reads_in (patient (step lanes s)) (length xs)) (p, xs)) e in
      (states-wait true lanes s.elf s.input s.header s.output p xs (p, xs) settled).1

  module _ (old new : machine.Phase) (bytes left : List ℕ) (o : Option Refusal) (stops : step_to lanes s WholeFile new left ≡ stopped o)
      (goes : (rest : List ℕ) → reads (step_to lanes s WholeFile) new (left ++ rest) ≡ reads (step_to lanes s WholeFile) old (bytes ++ rest)) where
    stops-so : step lanes s new left ≡ stopped o
    stops-so = sym (at-whole new left) ∙ stops

    pub goes-whole : (rest : List ℕ) → reads (step lanes s) new (left ++ rest) ≡ reads (step lanes s) old (bytes ++ rest)
    goes-whole rest = sym (whole new (left ++ rest)) ∙ goes rest ∙ whole old (bytes ++ rest)

    pub waits : with_patience (stopped o) ≡ Ok None → patient (step lanes s) new left ≡ Ok None
    waits e = ap with_patience stops-so ∙ e

    pub stays : (r : Refusal) → stopped o ≡ Err r → ¬ (r.rule ≡ 1) → (rest : List ℕ) → reads (step lanes s) old (bytes ++ rest) ≡ Err r
    stays r e not rest = sym (goes-whole rest) ∙ reads-stops (step lanes s) is-stream new left rest r (stops-so ∙ e) not

    pub ends : (h : Header) → told h (reads (step lanes s) old (bytes ++ [])) ≡ told h (stopped o)
    ends h = ap (told h) (sym (goes-whole []) ∙ ap (λ (z : List ℕ). reads (step lanes s) new z) (append-nil left) ∙ reads-step (step lanes s) is-stream new left) ∙ go o stops-so
      where
        go : (q : Option Refusal) → step lanes s new left ≡ stopped q → told h (step lanes s new left >>= onwards (reads (step lanes s)) (new, left)) ≡ told h (stopped q)
        go None e = ap (λ z. told h (z >>= onwards (reads (step lanes s)) (new, left))) e
        go (Some r) e = ap (λ z. told h (z >>= onwards (reads (step lanes s)) (new, left))) e

-- ---- more bytes

module _ (lanes : Lanes) (first cur : Reading) (xs ys : List ℕ) (on : ReadOn lanes first cur xs) where
  regrouped : (rest : List ℕ) → reads (step lanes cur.subject) (phase_of lanes cur.machine) ((cur.buffer.items ++ ys) ++ rest) ≡ reads (step lanes first.subject) (phase_of lanes first.machine) ((xs ++ ys) ++ rest)
  regrouped rest =
      (λ i. reads (step lanes (on.subject i)) (phase_of lanes cur.machine) (append_assoc cur.buffer.items ys rest i))
      ∙ on.goes (ys ++ rest)
      ∙ ap (λ (z : List ℕ). reads (step lanes first.subject) (phase_of lanes first.machine) z) (sym (append_assoc xs ys rest))

  pub on-and-on : (new : Reading) → ReadOn lanes cur new (cur.buffer.items ++ ys) → ReadOn lanes first new (xs ++ ys)
  on-and-on new more = record {
    is = more.is;
    subject = more.subject ∙ on.subject;
    goes = λ rest. ap (λ (z : Subject). reads (step lanes z) (phase_of lanes new.machine) (new.buffer.items ++ rest)) (sym on.subject) ∙ more.goes rest ∙ regrouped rest;
  }

  pub on-and-refused : (r : Refusal) → RefusedOn lanes cur (cur.buffer.items ++ ys) r → RefusedOn lanes first (xs ++ ys) r
  on-and-refused r refused = record { rule = refused.rule; stays = λ rest. sym (regrouped rest) ∙ refused.stays rest }

  pub on-and-reads : (new : Reading) (answer : Result (Unit {0}) Refusal) → ReadsOn lanes cur new (cur.buffer.items ++ ys) answer → ReadsOn lanes first new (xs ++ ys) answer
  on-and-reads new (Ok u) more = on-and-on new more
  on-and-reads new (Err r) refused = on-and-refused r refused

pub refused-more : (lanes : Lanes) (old : Reading) (xs ys : List ℕ) (r : Refusal) → RefusedOn lanes old xs r → RefusedOn lanes old (xs ++ ys) r
refused-more lanes old xs ys r before = record {
  rule = before.rule;
  stays = λ rest. ap (λ (z : List ℕ). reads (step lanes old.subject) (phase_of lanes old.machine) z) (append_assoc xs ys rest) ∙ before.stays (ys ++ rest);
}

pub on-nothing : (lanes : Lanes) (old : Reading) → IsReading lanes old → ReadOn lanes old old (old.buffer.items ++ [])
on-nothing lanes old is = record {
  is = is;
  subject = refl;
  goes = λ rest. ap (λ (z : List ℕ). reads (step lanes old.subject) (phase_of lanes old.machine) (z ++ rest)) (sym (append-nil old.buffer.items));
}

-- ---- what a state tells

told-refuses : {A : Type 0} (h : Header) (z : Result A Refusal) (r : Refusal) → told h z ≡ Refuse r → z ≡ Err r
told-refuses h (Ok x) r e = absurd cc
told-refuses h (Err q) r e = let same : q ≡ r = cc in ap (λ (y : Refusal). Err y) same

-- What waits is refused by rule 1, or not at all.
pub only-short : (lanes : Lanes) (x : Reading) (r : Refusal) → IsReading lanes x → comes lanes (Ok (held_of lanes x)) [] ≡ Refuse r → r.rule ≡ 1
only-short lanes x r is e =
    let refuses = told-refuses x.subject.header (reads (step lanes x.subject) (phase_of lanes x.machine) (x.buffer.items ++ [])) r e in
    let here = sym (ap (λ (z : List ℕ). reads (step lanes x.subject) (phase_of lanes x.machine) z) (append-nil x.buffer.items)) ∙ refuses in
    waiting-refused (step lanes x.subject) (is-stream lanes x.subject) (phase_of lanes x.machine) x.buffer.items r is.waits here

pub nothing-held : (xs : List ℕ) → (length xs == 0) ≡ true → xs ≡ []
nothing-held xs e = nil_from_length xs (eqb-true (length xs) 0 e)

-- a piece is what was taken of it, a byte, and the rest
pub piece-cut : (held piece : List ℕ) (k : ℕ) → k < length piece → ((held ++ take k piece) ++ get_or piece k 0 ∷ []) ++ drop (k + 1) piece ≡ held ++ piece
piece-cut held piece k lt =
    ap (λ (z : List ℕ). z ++ drop (k + 1) piece) (append_assoc held (take k piece) (get_or piece k 0 ∷ []) ∙ ap (λ (z : List ℕ). held ++ z) (sym (take_more piece k 0 lt)))
    ∙ append_assoc held (take (k + 1) piece) (drop (k + 1) piece)
    ∙ ap (λ (z : List ℕ). held ++ z) (take-append-drop (k + 1) piece)

-- before the first shard more bytes are wanted
pub begun-waits : (lanes : Lanes) (s : Subject) (n : ℕ) (p : Place) (all : machine.Sums) → patient (step lanes s) (Shards n 0 p all) [] ≡ Ok None
unfolding machine_step
begun-waits lanes s zero p all = refl
begun-waits lanes s (suc n) p all = refl

pub opened-waits : (lanes : Lanes) (s : Subject) (p : machine.Phase) (held : List ℕ) → p ≡ machine.first_phase true lanes s.elf s.input s.header → held ≡ [] → patient (step lanes s) p held ≡ Ok None
opened-waits lanes s p held begun none = (λ i. patient (step lanes s) (begun i) (none i)) ∙ begun-waits lanes s s.header.shards _ _
