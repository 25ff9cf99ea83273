-- The uses of a step one by one: what the expected step makes of old values, beside what the machine does.
use Rattle.std.proofs.Common.{◌≡◌, ℕ, Bool, true, false, cond, ◌==◌, List, [], ◌∷◌, ◌++◌, map, refl, sym, ◌∙◌, ap, ap₂, add-zero, append-nil}
use Rattle.std.proofs.lemmas.List.{map-append}
use Rattle.std.proofs.lemmas.Bool.{eqb-true}
use Rattle.rv_base.specs.declared.record.Seen.{Seen}
use Rattle.rv_base.specs.declared.record.Touch.{Touch}
use Rattle.rv_spec.specs.Step.{State, Transition, Next, stops}
use Rattle.rv_spec.specs.Run.{state_after}
use Rattle.rv_spec.specs.Visits.{Use, visit}
use Rattle.rv_rules.specs.Expected.{Expected, goes_to, ends}
use Rattle.rv_rules.specs.Agreement.{GoesAs, touch_of}
pub use Rattle.rv_isa.specs.Sees.{seen_in, Sees}

-- the accesses of a step from one state to another
abbrev pub made : State → State → List Use → List Touch
made s t us = map (λ u. touch_of (visit s t u)) us

-- the expected step, without its fetch, makes the accesses and goes as the machine does
abbrev pub Follows : Expected → State → Transition → List Use → Type 0
Follows e s turn us = (e.touches ≡ made s (state_after s turn) us) × GoesAs e s turn

pub sees-left : (v : Seen) (s : State) (us vs : List Use) → Sees v s (us ++ vs) → Sees v s us
sees-left v s [] vs h = tt
sees-left v s (u ∷ us) vs h = (h.0, sees-left v s us vs h.1)

pub sees-right : (v : Seen) (s : State) (us vs : List Use) → Sees v s (us ++ vs) → Sees v s vs
sees-right v s [] vs h = h
sees-right v s (u ∷ us) vs h = sees-right v s us vs h.1

pub joined : (s t : State) (us vs : List Use) (ts rs : List Touch) → ts ≡ made s t us → rs ≡ made s t vs → ts ++ rs ≡ made s t (us ++ vs)
joined s t us vs ts rs p q = ap₂ (λ x y. x ++ y) p q ∙ sym (map-append (λ u. touch_of (visit s t u)) us vs)

-- the run goes on, and takes and puts no bytes
pub goes-on : (s t : State) (next : ℕ) → next ≡ t.pc → s.position ≡ t.position → s.output ≡ t.output → GoesAs (goes_to next []) s (Next t)
goes-on s t next p q r = (refl, p, add-zero s.position ∙ q, append-nil s.output ∙ r)

-- A step that reads, and goes on where a number is 0: the address or the target modulo the width.
pub aligned-follows : (v : Seen) (s t : State) (n next kind : ℕ) (us vs : List Use) (reads writes : List Touch)
    → ((t : State) → reads ≡ made s t us) → (n ≡ 0 → Sees v s vs → writes ≡ made s t vs) → GoesAs (goes_to next []) s (Next t)
    → Sees v s (us ++ cond (n == 0) vs [])
    → Follows (cond (n == 0) (goes_to next (reads ++ writes)) (ends s.pc kind 0 reads)) s (cond (n == 0) (Next t) (stops kind)) (us ++ cond (n == 0) vs [])
aligned-follows v s t n next kind us vs reads writes read write goes sees = go (n == 0) refl sees
  where
    go : (b : Bool) → (n == 0) ≡ b → Sees v s (us ++ cond b vs []) → Follows (cond b (goes_to next (reads ++ writes)) (ends s.pc kind 0 reads)) s (cond b (Next t) (stops kind)) (us ++ cond b vs [])
    go true e h = (joined s t us vs reads writes (read t) (write (eqb-true n 0 e) (sees-right v s us vs h)), goes)
    go false e h = (read s ∙ ap (made s s) (sym (append-nil us)), (refl, refl, refl, refl))
