-- The pipe's machine with one worker more, which takes nothing.
use Rattle.std.proofs.Common.{◌≡◌, ℕ, zero, suc, ◌<◌, true, ◌&&◌, List, [], ◌∷◌, ◌++◌, length, replicate, sym, refl, ap, ◌∙◌, subst, arith}
use Rattle.std.specs.Prelude.{IsTrue, nat_lt}
use Rattle.std.proofs.lemmas.Bool.Decides.{nat_tests}
use Rattle.rv_pipe.specs.declared.event.PipeEvent.{PipeEvent}
use Rattle.rv_pipe.specs.declared.event.PipeEvent.TheVariants.{Push, Take}
use Rattle.rv_pipe.specs.Machine.{Pipe, opened, take_for, front_taken, permitted, pipe_after, Leads}
use Rattle.rv_pipe.proofs.Machine.{and-true}

pub length-snoc : {X : Type 0} (xs : List X) (y : X) → length (xs ++ y ∷ []) ≡ suc (length xs)
length-snoc [] y = refl
length-snoc (x ∷ xs) y = ap suc (length-snoc xs y)

abbrev pub wider : Pipe → Pipe
wider s = record { pushed = s.pushed; queue = s.queue; taken = s.taken ++ [] ∷ [] }

take-wider : (ts : List (List ℕ)) (p x : ℕ) → p < length ts → take_for (ts ++ [] ∷ []) p x ≡ take_for ts p x ++ [] ∷ []
take-wider [] p x lt = absurd (omega (arith, lt))
take-wider (t ∷ ts) zero x lt = refl
take-wider (t ∷ ts) (suc p) x lt = ap (λ us. t ∷ us) (take-wider ts p x (omega (arith, lt)))

front-wider : (pushed p : ℕ) (taken : List (List ℕ)) (queue : List ℕ) → p < length taken → front_taken pushed (taken ++ [] ∷ []) p queue ≡ wider (front_taken pushed taken p queue)
front-wider pushed p taken [] lt = refl
front-wider pushed p taken (x ∷ xs) lt = ap (λ ts. let s : Pipe = record { pushed = pushed; queue = xs; taken = ts } in s) (take-wider taken p x lt)

below-more : (a b : ℕ) → nat_lt a b ≡ true → nat_lt a (suc b) ≡ true
below-more a b h = grind (arith, nat_tests)

permitted-wider : (waiting : ℕ) (s : Pipe) (e : PipeEvent) → IsTrue (permitted waiting s e) → IsTrue (permitted waiting (wider s) e)
unfolding permitted
permitted-wider waiting s Push ok = ok
permitted-wider waiting s (Take p) ok =
    let parts = and-true (nat_lt 0 (length s.queue)) (nat_lt p (length s.taken)) ok in
    let there : nat_lt p (length (s.taken ++ [] ∷ [])) ≡ true = ap (nat_lt p) (length-snoc s.taken []) ∙ below-more p (length s.taken) parts.1 in
    ap (λ b. b && nat_lt p (length (s.taken ++ [] ∷ []))) parts.0 ∙ there

after-wider : (waiting : ℕ) (s : Pipe) (e : PipeEvent) → IsTrue (permitted waiting s e) → wider (pipe_after s e) ≡ pipe_after (wider s) e
unfolding permitted pipe_after
after-wider waiting s Push ok = refl
after-wider waiting s (Take p) ok =
    let t = (and-true (nat_lt 0 (length s.queue)) (nat_lt p (length s.taken)) ok).1 in
    let lt : p < length s.taken = grind (arith, nat_tests) in
    sym (front-wider s.pushed p s.taken s.queue lt)

leads-wider : (waiting : ℕ) (s t : Pipe) (es : List PipeEvent) → Leads waiting s es t → Leads waiting (wider s) es (wider t)
leads-wider waiting s t [] l = ap wider l
leads-wider waiting s t (e ∷ es) l = (permitted-wider waiting s e l.0, subst (λ u. Leads waiting u es (wider t)) (after-wider waiting s e l.0) (leads-wider waiting (pipe_after s e) t es l.1))

one-longer : (n : ℕ) → replicate n [] ++ [] ∷ [] ≡ replicate (suc n) (let none : List ℕ = [] in none)
one-longer zero = refl
one-longer (suc n) = ap (λ (ts : List (List ℕ)). [] ∷ ts) (one-longer n)

-- what leads somewhere does so with one worker more
pub one-more-worker : (waiting n : ℕ) (es : List PipeEvent) (t : Pipe) → Leads waiting (opened n) es t → Leads waiting (opened (suc n)) es (wider t)
one-more-worker waiting n es t l =
    subst (λ u. Leads waiting u es (wider t)) (ap (λ ts. let s : Pipe = record { pushed = 0; queue = []; taken = ts } in s) (one-longer n)) (leads-wider waiting (opened n) t es l)
