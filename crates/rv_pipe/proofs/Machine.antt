-- The law of the pipe's machine, by induction on the events: the opening has it, and each permitted event keeps it.
use Rattle.std.proofs.Common.{◌≡◌, ℕ, zero, suc, ◌+◌, ◌<◌, ◌≤◌, Bool, true, false, ◌&&◌, List, [], ◌∷◌, ◌++◌, length, replicate, sym, refl, ap, subst, arith, length-append}
use Rattle.std.specs.Prelude.{sum_by, nat_lt, ◌==◌, IsTrue}
use Rattle.std.specs.List.{AllByRecursion}
use Rattle.std.proofs.lemmas.Bool.{true≢false}
use Rattle.std.proofs.lemmas.Bool.Decides.{nat_tests}
use Rattle.std.proofs.lemmas.List.Sums.{sum_by-cons, sum_by_push}
use Rattle.rv_spec.specs.Grammar.{IsRising}
use Rattle.rv_book.specs.BoardLaws.{one, times}
use Rattle.rv_pipe.specs.declared.event.PipeEvent.{PipeEvent}
use Rattle.rv_pipe.specs.declared.event.PipeEvent.TheVariants.{Push, Take}
use Rattle.rv_pipe.specs.Machine.{Pipe, opened, take_for, front_taken, permitted, pipe_after, Leads}
use Rattle.rv_pipe.specs.MachineLaws.{IsEachOnce, EachOnceInOrder}

pub leads-more : (waiting : ℕ) (s t : Pipe) (es : List PipeEvent) (e : PipeEvent) → Leads waiting s es t → IsTrue (permitted waiting t e) → Leads waiting s (es ++ e ∷ []) (pipe_after t e)
leads-more waiting s t [] e l ok = (subst (λ u. IsTrue (permitted waiting u e)) l ok, ap (λ u. pipe_after u e) l)
leads-more waiting s t (f ∷ es) e l ok = (l.0, leads-more waiting (pipe_after s f) t es e l.1 ok)

-- what the opening has and each event keeps holds at the end
kept : (waiting : ℕ) (P : Pipe → Type 0) → ((s : Pipe) (e : PipeEvent) → P s → IsTrue (permitted waiting s e) → P (pipe_after s e))
    → (s : Pipe) (es : List PipeEvent) (t : Pipe) → P s → Leads waiting s es t → P t
kept waiting P step s [] t p l = subst P (sym l) p
kept waiting P step s (e ∷ es) t p l = kept waiting P step (pipe_after s e) es t (step s e p l.0) l.1

pub and-true : (a b : Bool) → (a && b) ≡ true → (a ≡ true) × (b ≡ true)
and-true true b h = (refl, h)
and-true false b h = absurd (true≢false (sym h))

-- what a worker takes is one more in the lists of all
pub taken-adds : (x y : ℕ) (ts : List (List ℕ)) (p : ℕ) → p < length ts → sum_by (times x) (take_for ts p y) ≡ sum_by (times x) ts + one (y == x)
taken-adds x y [] p lt = absurd (omega (arith, lt))
taken-adds x y (t ∷ ts) zero lt = omega (arith, sum_by-cons (times x) (t ++ y ∷ []) ts, sum_by-cons (times x) t ts, sum_by_push (λ (z : ℕ). one (z == x)) t y)
taken-adds x y (t ∷ ts) (suc p) lt = omega (arith, sum_by-cons (times x) t (take_for ts p y), sum_by-cons (times x) t ts, taken-adds x y ts p (omega (arith, lt)))

pub length-take_for : (ts : List (List ℕ)) (p x : ℕ) → length (take_for ts p x) ≡ length ts
length-take_for [] p x = refl
length-take_for (t ∷ ts) zero x = refl
length-take_for (t ∷ ts) (suc p) x = ap suc (length-take_for ts p x)

none-taken : (x n : ℕ) → sum_by (times x) (replicate n []) ≡ 0
none-taken x zero = refl
none-taken x (suc n) = omega (arith, sum_by-cons (times x) [] (replicate n []), none-taken x n)

one-more : (x y : ℕ) → one (x == y) + one (nat_lt y x) ≡ one (nat_lt y (x + 1))
one-more x y = grind (arith, nat_tests)

-- what stands in a list stands there some times
some-times : (P : ℕ → Type 0) (xs : List ℕ) → ((x : ℕ) → 1 ≤ times x xs → P x) → AllByRecursion P xs
some-times P [] h = tt
some-times P (y ∷ ys) h = (
  h y (let e : one (y == y) ≡ 1 = grind (arith, nat_tests) in omega (arith, sum_by-cons (λ (z : ℕ). one (z == y)) y ys, e)),
  some-times P ys (λ x le. h x (omega (arith, sum_by-cons (λ (z : ℕ). one (z == x)) y ys, le))),
)

below-all : (n : ℕ) (xs : List ℕ) (s : ℕ → ℕ) → ((x : ℕ) → times x xs + s x ≡ one (nat_lt x n)) → AllByRecursion (λ x. x < n) xs
below-all n xs s h = some-times (λ x. x < n) xs (λ x le. by x le (nat_lt x n) refl)
  where
    by : (x : ℕ) → 1 ≤ times x xs → (b : Bool) → nat_lt x n ≡ b → x < n
    by x le true e = grind (arith, nat_tests)
    by x le false e = absurd (omega (arith, le, h x, ap one e))

rises-more : (n : ℕ) (xs : List ℕ) → IsRising xs → AllByRecursion (λ x. x < n) xs → IsRising (xs ++ n ∷ [])
rises-more n [] r b = (tt, tt)
rises-more n (x ∷ xs) r b = (all-more xs r.0 b.0, rises-more n xs r.1 b.1)
  where
    all-more : (ys : List ℕ) → AllByRecursion (λ y. x < y) ys → x < n → AllByRecursion (λ y. x < y) (ys ++ n ∷ [])
    all-more [] a lt = (lt, tt)
    all-more (y ∷ ys) a lt = (a.0, all-more ys a.1 lt)

take-step : (waiting pushed p : ℕ) (taken : List (List ℕ)) (queue : List ℕ) → IsEachOnce waiting (record { pushed = pushed; queue = queue; taken = taken }) → p < length taken
    → IsEachOnce waiting (front_taken pushed taken p queue)
take-step waiting pushed p taken [] h lt = h
take-step waiting pushed p taken (y ∷ ys) h lt = record {
  once = λ x. omega (arith, h.once x, taken-adds x y taken p lt, sum_by-cons (λ (z : ℕ). one (z == x)) y ys);
  rises = h.rises.1;
  few = omega (arith, h.few);
}

step : (waiting : ℕ) (s : Pipe) (e : PipeEvent) → IsEachOnce waiting s → IsTrue (permitted waiting s e) → IsEachOnce waiting (pipe_after s e)
unfolding permitted pipe_after
step waiting s Push h ok =
    let room : length s.queue < waiting = grind (arith, nat_tests) in
    record {
      once = λ x. omega (arith, h.once x, one-more s.pushed x, sum_by_push (λ (z : ℕ). one (z == x)) s.queue s.pushed);
      rises = rises-more s.pushed s.queue h.rises (below-all s.pushed s.queue (λ x. sum_by (times x) s.taken) h.once);
      few = omega (arith, room, length-append s.queue (s.pushed ∷ []));
    }
step waiting s (Take p) h ok =
    let here : p < length s.taken = (let t = (and-true (nat_lt 0 (length s.queue)) (nat_lt p (length s.taken)) ok).1 in grind (arith, nat_tests)) in
    take-step waiting s.pushed p s.taken s.queue h here

pub each-once : EachOnceInOrder
each-once waiting workers es s l = kept waiting (IsEachOnce waiting) (step waiting) (opened workers) es s (record {
  once = λ x. (let e : one (nat_lt x 0) ≡ 0 = grind (arith, nat_tests) in omega (arith, none-taken x workers, e));
  rises = tt;
  few = omega arith;
}) l
