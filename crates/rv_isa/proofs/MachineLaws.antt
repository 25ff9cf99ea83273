-- Runs of the machine.
use Rattle.std.proofs.Common.{◌≡◌, ℕ, suc, ◌+◌, ◌-◌, ◌<◌, List, Some, None, refl, sym, ◌∙◌, ap, subst, inl, inr, arith}
use Rattle.std.proofs.lemmas.Bool.{cases_lt}
use Rattle.rv_base.specs.declared.record.End.{End}
use Rattle.rv_spec.specs.Elf.{Image}
use Rattle.rv_spec.specs.Step as spec
use Rattle.rv_spec.specs.Step.{step}
use Rattle.rv_spec.specs.Run.{state_after, end_of, run, end_at, GoesOn}
use Rattle.rv_isa.specs.declared.machine.Turn.{Turn}
use Rattle.rv_isa.specs.declared.machine.Turn.TheVariants.{Next, Ends}
use Rattle.rv_isa.specs.declared.machine.Ran.{Ran}
use Rattle.rv_isa.specs.MachineState.{MachineState}
use Rattle.rv_isa.specs.Machine.{Represents, TakesStep, IsRunOf}

-- a step that goes on, and one that ends the run
pub next-of : (i : Image) (input : List ℕ) (n : ℕ) (turn : Turn) (m : MachineState) → TakesStep (step input (run i input n)) (run i input n) turn m → turn ≡ Next
    → (m.ended ≡ None) × Represents m (run i input (n + 1)) × (end_at i input n ≡ None)
unfolding run
next-of i input n turn m takes next = go (step input (run i input n)) refl takes
  where
    later : suc n ≡ n + 1
    later = omega arith

    go : (t : spec.Transition) → step input (run i input n) ≡ t → TakesStep t (run i input n) turn m → (m.ended ≡ None) × Represents m (run i input (n + 1)) × (end_at i input n ≡ None)
    go (spec.Next t) is h = (h.1, subst (λ k. Represents m (run i input k)) later (subst (λ (t : spec.Transition). Represents m (state_after (run i input n) t)) (sym is) h.2), ap end_of is)
    go (spec.Ends f) is h = (let ends : turn ≡ Ends f = h.0 in let no : ⊥ = cc in absurd no)

pub ends-of : (i : Image) (input : List ℕ) (n : ℕ) (turn : Turn) (m : MachineState) (f : End) → TakesStep (step input (run i input n)) (run i input n) turn m → turn ≡ Ends f
    → Represents m (run i input (n + 1)) × (end_at i input n ≡ Some f)
unfolding run
ends-of i input n turn m f takes ends = go (step input (run i input n)) refl takes
  where
    later : suc n ≡ n + 1
    later = omega arith

    go : (t : spec.Transition) → step input (run i input n) ≡ t → TakesStep t (run i input n) turn m → Represents m (run i input (n + 1)) × (end_at i input n ≡ Some f)
    go (spec.Next t) is h = (let next : turn ≡ Next = h.0 in let no : ⊥ = cc in absurd no)
    go (spec.Ends g) is h =
        let own : turn ≡ Ends g = h.0 in
        let same : g ≡ f = cc in
        (subst (λ k. Represents m (run i input k)) later (subst (λ (t : spec.Transition). Represents m (state_after (run i input n) t)) (sym is) h.2), ap end_of is ∙ ap (λ e. Some e) same)

pub goes-more : (i : Image) (input : List ℕ) (n : ℕ) → GoesOn i input n → end_at i input n ≡ None → GoesOn i input (n + 1)
goes-more i input n before here k below = elim (cases_lt k n) [ inl early ↦ before k early | inr late ↦ subst (λ j. end_at i input j ≡ None) (let e : n ≡ k = omega arith in e) here ]

pub ran-is : (i : Image) (input : List ℕ) (budget n : ℕ) (m : MachineState) (f : End) (r : Ran) → n < budget → GoesOn i input n → Represents m (run i input (n + 1)) × (end_at i input n ≡ Some f)
    → r ≡ record { steps = n + 1; end = f; consumed = m.hart.position; output = m.output } → IsRunOf i input budget r
ran-is i input budget n m f r below before last is =
    let back : n ≡ n + 1 - 1 = omega arith in
    subst (IsRunOf i input budget) (sym is)
    (record {
      ends = record { some = omega arith; before = subst (GoesOn i input) back before; last = subst (λ k. end_at i input k ≡ Some f) back last.1 };
      within = omega arith;
      consumed = last.0.hart.position;
      output = last.0.output;
    })
