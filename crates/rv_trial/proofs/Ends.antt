-- How a run ends, found within a budget.
use Rattle.std.proofs.Common.{◌≡◌, ℕ, zero, suc, ◌+◌, ◌-◌, ◌≤◌, List, Some, None, refl, sym, ◌∙◌, ap, subst, arith}
use Rattle.rv_base.specs.declared.record.End.{End}
use Rattle.rv_base.specs.declared.record.Refusal.{Refusal}
use Rattle.rv_base.specs.declared.record.Verdict.{Verdict}
use Rattle.rv_base.specs.declared.record.Verdict.TheVariants.{Accept, Refuse}
use Rattle.rv_spec.specs.Elf.{Image}
use Rattle.rv_spec.specs.Run.{end_at, GoesOn, EndsIn}
use Rattle.rv_book.proofs.Lemmas.{some-inj}
use Rattle.rv_trial.specs.Trials.{earlier, ends_within}

pub none-within : (i : Image) (input : List ℕ) (n : ℕ) → GoesOn i input n → ends_within i input n ≡ None
unfolding ends_within
none-within i input zero on = refl
none-within i input (suc n) on = ap (λ r. earlier r (suc n) (end_at i input n)) (none-within i input n (λ k lt. on k (omega (arith, lt)))) ∙ ap (earlier None (suc n)) (on n (omega arith))

at-end : (i : Image) (input : List ℕ) (n : ℕ) (e : End) → EndsIn i input n e → ends_within i input n ≡ Some (n, e)
unfolding ends_within
at-end i input zero e h = absurd (omega (arith, h.some))
at-end i input (suc n) e h =
    let back : suc n - 1 ≡ n = omega arith in
    ap (λ r. earlier r (suc n) (end_at i input n)) (none-within i input n (subst (GoesOn i input) back h.before)) ∙ ap (earlier None (suc n)) (subst (λ k. end_at i input k ≡ Some e) back h.last)

later : (i : Image) (input : List ℕ) (n more : ℕ) (r : ℕ × End) → ends_within i input n ≡ Some r → ends_within i input (more + n) ≡ Some r
unfolding ends_within
later i input n zero r h = let same : n ≡ zero + n = omega arith in subst (λ k. ends_within i input k ≡ Some r) same h
later i input n (suc more) r h =
    let next : suc (more + n) ≡ suc more + n = omega arith in
    subst (λ k. ends_within i input k ≡ Some r) next (ap (λ x. earlier x (suc (more + n)) (end_at i input (more + n))) (later i input n more r h))

pub found-within : (i : Image) (input : List ℕ) (n most : ℕ) (e : End) → EndsIn i input n e → n ≤ most → ends_within i input most ≡ Some (n, e)
found-within i input n most e h le = let whole : most - n + n ≡ most = omega (arith, le) in subst (λ b. ends_within i input b ≡ Some (n, e)) whole (later i input n (most - n) (n, e) (at-end i input n e h))

-- a run ends once
pub ends-once : (i : Image) (input : List ℕ) (m n most : ℕ) (d e : End) → EndsIn i input m d → EndsIn i input n e → m ≤ most → n ≤ most → ◌≡◌ {A = ℕ × End} (m, d) (n, e)
ends-once i input m n most d e first second m_within n_within = some-inj (m, d) (m, d) (n, e) (sym (found-within i input m most d first m_within) ∙ found-within i input n most e second n_within)

-- ---- verdicts

abbrev IsAccept : Verdict → Type 0
IsAccept (Accept steps shards e) = Unit {0}
IsAccept (Refuse r) = ⊥

abbrev told_by : Verdict → ℕ × ℕ
told_by (Accept steps shards e) = (steps, shards)
told_by (Refuse r) = (0, 0)

pub not-both : (v : Verdict) (steps shards : ℕ) (e : End) → v ≡ Accept steps shards e → (r : Refusal) → v ≡ Refuse r → ⊥
not-both v steps shards e is r refused = subst IsAccept (sym is ∙ refused) tt

pub told-same : (v : Verdict) (steps shards steps' shards' : ℕ) (e e' : End) → v ≡ Accept steps shards e → v ≡ Accept steps' shards' e' → ◌≡◌ {A = ℕ × ℕ} (steps, shards) (steps', shards')
told-same v steps shards steps' shards' e e' one other = ap told_by (sym one ∙ other)
