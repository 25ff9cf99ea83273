-- Reading on, step by step.
use Rattle.std.proofs.Common.{◌≡◌, ◌∙◌, ℕ, ◌+◌, ◌-◌, ◌<◌, ◌≤◌, true, false, cond, List, ◌++◌, length, take, drop, Some, None, Ok, sym, ap, subst, arith}
use Rattle.std.proofs.lemmas.List.{length-drop, take_all, drop-drop}
use Rattle.rv_spec.specs.Digest.{Lanes}
use Rattle.rv_reading.specs.Stream.{IsStream, Found, reads}
use Rattle.rv_reading.specs.Machine as machine
use Rattle.rv_reading.proofs.Lemmas.{extents-are-streams, reads-goes}
use Rattle.rv_judge.specs.declared.phases.Machine.{Machine}
use Rattle.rv_judge.specs.declared.phases.Phase.{Phase}
use Rattle.rv_judge.specs.Subject.{Subject, step, step_to}
use Rattle.rv_judge.specs.Phases.{Went, phase_at, phase_of}

pub went-at : (lanes : Lanes) (s : Subject) (m new : Machine) (q : Phase) (bytes : List ℕ) (n : ℕ) → m.phase ≡ q → Went lanes s (phase_at lanes q m.place m.shard m.all) new bytes n → Went lanes s (phase_of lanes m) new bytes n
went-at lanes s m new q bytes n is w = subst (λ (z : Phase). Went lanes s (phase_at lanes z m.place m.shard m.all) new bytes n) (sym is) w

module _ (lanes : Lanes) (s : Subject) (extent : machine.Extent) where
  pub is-stream : IsStream machine.Phase (step_to lanes s extent)
  is-stream = extents-are-streams true lanes s.elf s.input s.header s.output extent

  pub not-behind : (p : machine.Phase) (xs : List ℕ) → machine.is_behind extent p ≡ false → step_to lanes s extent p xs ≡ step lanes s p xs
  not-behind p xs e = ap (λ b. cond {A = Found machine.Phase} b (Ok None) (step lanes s p xs)) e

  pub is-behind : (p : machine.Phase) (xs : List ℕ) → machine.is_behind extent p ≡ true → step_to lanes s extent p xs ≡ Ok None
  is-behind p xs e = ap (λ b. cond {A = Found machine.Phase} b (Ok None) (step lanes s p xs)) e

  -- where a step goes on, so does the reading
  pub goes-on : (p q : machine.Phase) (xs left rest : List ℕ) → machine.is_behind extent p ≡ false → step lanes s p xs ≡ Ok (Some (q, left)) → reads (step_to lanes s extent) q (left ++ rest) ≡ reads (step_to lanes s extent) p (xs ++ rest)
  goes-on p q xs left rest e found = sym (reads-goes (step_to lanes s extent) is-stream p q xs left rest (not-behind p xs e ∙ found))

-- the bytes behind the first n of those that are left, as the code has them
pub behind : (n : ℕ) (xs : List ℕ) → take (length xs - n) (drop n xs) ≡ drop n xs
behind n xs = take_all (length xs - n) (drop n xs) (omega (arith, length-drop n xs))

-- they are the last of all
pub last-of-all : (n : ℕ) (xs all : List ℕ) → n ≤ length xs → length xs ≤ length all → xs ≡ drop (length all - length xs) all → drop n xs ≡ drop (length all - length (drop n xs)) all
last-of-all n xs all le within is =
    ap (λ (z : List ℕ). drop n z) is
    ∙ drop-drop n (length all - length xs) all
    ∙ ap (λ k. drop k all) (let e : length all - length xs + n ≡ length all - length (drop n xs) = omega (arith, le, within, length-drop n xs) in e)

module _ (lanes : Lanes) (s : Subject) (extent : machine.Extent) (m new first : Machine) (left all : List ℕ) (n : ℕ) (reading : machine.is_behind extent (phase_of lanes m) ≡ false) (w : Went lanes s (phase_of lanes m) new left n) where
  abbrev rest_of : List ℕ
  rest_of = take (length left - n) (drop n left)

  pub smaller : length rest_of < length left
  smaller =
      let less = (is-stream lanes s extent).takes (phase_of lanes m) (phase_of lanes new) left (drop n left) (not-behind lanes s extent (phase_of lanes m) left reading ∙ w.found) in
      subst (λ (zs : List ℕ). length zs < length left) (sym (behind n left)) less

  pub goes : ((rest : List ℕ) → reads (step_to lanes s extent) (phase_of lanes m) (left ++ rest) ≡ reads (step_to lanes s extent) (phase_of lanes first) (all ++ rest))
      → (rest : List ℕ) → reads (step_to lanes s extent) (phase_of lanes new) (rest_of ++ rest) ≡ reads (step_to lanes s extent) (phase_of lanes first) (all ++ rest)
  goes before rest =
      ap (λ (zs : List ℕ). reads (step_to lanes s extent) (phase_of lanes new) (zs ++ rest)) (behind n left)
      ∙ goes-on lanes s extent (phase_of lanes m) (phase_of lanes new) left (drop n left) rest reading w.found
      ∙ before rest

  pub is-within : length left ≤ length all → length rest_of ≤ length all
  is-within le = subst (λ (zs : List ℕ). length zs ≤ length all) (sym (behind n left)) (omega (arith, le, length-drop n left))

  pub is-last : length left ≤ length all → left ≡ drop (length all - length left) all → rest_of ≡ drop (length all - length rest_of) all
  is-last le is = subst (λ (zs : List ℕ). zs ≡ drop (length all - length zs) all) (sym (behind n left)) (last-of-all n left all w.taken le is)
