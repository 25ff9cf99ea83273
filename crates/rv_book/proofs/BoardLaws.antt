-- The laws of the board's machine, by induction on the events: the opening has the fact, and each permitted event keeps it.
use Rattle.std.proofs.Common.{◌≡◌, ℕ, zero, suc, ◌+◌, ◌-◌, ◌<◌, ◌≤◌, Bool, true, false, not, ◌&&◌, ◌||◌, List, [], ◌∷◌, ◌++◌, length, replicate, sym, refl, ap, ◌∙◌, subst, arith}
use Rattle.std.specs.Prelude.{sum_by, nat_lt, nat_le, ◌==◌, IsTrue}
use Rattle.std.specs.List.{list_any, list_all}
use Rattle.std.proofs.lemmas.Bool.{true≢false}
use Rattle.std.proofs.lemmas.Bool.Decides.{nat_tests}
use Rattle.std.proofs.lemmas.List.Sums.{sum_by-cons, sum_by_push}
use Rattle.std.proofs.lemmas.List.Folds.{list_any-append}
use Rattle.rv_book.specs.Board.{Board, initial_board, permitted, board_after, Leads, Reaches, draw, drawn_by, is_in, is_journaled, is_done, pass_done}
use Rattle.rv_book.specs.declared.event.BoardEvent.{BoardEvent}
use Rattle.rv_book.specs.declared.event.BoardEvent.TheVariants.{Claim, Deposit}
use Rattle.rv_book.specs.BoardLaws.{one, times, drawn_times, entered_times, EachDrawnOnce, EnteredAtMostOnce, NextIsBounded, EachWasDrawn, DoneNamesAll}

-- what the opening has and each event keeps holds at the end
pub kept : (n : ℕ) (P : Board → Type 0) → ((b : Board) (e : BoardEvent) → P b → IsTrue (permitted n b e) → P (board_after b e))
    → (b : Board) (es : List BoardEvent) (c : Board) → P b → Leads n b es c → P c
kept n P step b [] c p l = subst P (sym l) p
kept n P step b (e ∷ es) c p l = kept n P step (board_after b e) es c (step b e p l.0) l.1

pub and-true : (a b : Bool) → (a && b) ≡ true → (a ≡ true) × (b ≡ true)
and-true true b h = (refl, h)
and-true false b h = absurd (true≢false (sym h))

-- what drawing adds
draw-adds : (f : List ℕ → ℕ) (ds : List (List ℕ)) (p x k : ℕ) → p < length ds → ((d : List ℕ) → d ≡ drawn_by ds p → f (d ++ x ∷ []) ≡ f d + k) → sum_by f (draw ds p x) ≡ sum_by f ds + k
draw-adds f [] p x k lt h = absurd (omega (arith, lt))
draw-adds f (d ∷ ds) zero x k lt h = omega (arith, sum_by-cons f (d ++ x ∷ []) ds, sum_by-cons f d ds, h d refl)
draw-adds f (d ∷ ds) (suc p) x k lt h = omega (arith, sum_by-cons f d (draw ds p x), sum_by-cons f d ds, draw-adds f ds p x k (omega (arith, lt)) h)

pub length-draw : (ds : List (List ℕ)) (p x : ℕ) → length (draw ds p x) ≡ length ds
length-draw [] p x = refl
length-draw (d ∷ ds) zero x = refl
length-draw (d ∷ ds) (suc p) x = ap suc (length-draw ds p x)

none-drawn : (f : List ℕ → ℕ) (passes : ℕ) → f [] ≡ 0 → sum_by f (replicate passes []) ≡ 0
none-drawn f zero h = refl
none-drawn f (suc passes) h = omega (arith, sum_by-cons f [] (replicate passes []), h, none-drawn f passes h)

one-more : (x y : ℕ) → one (x == y) + one (nat_lt y x) ≡ one (nat_lt y (x + 1))
one-more x y = grind (arith, nat_tests)

abbrev Drawn : Board → Type 0
Drawn b = (x : ℕ) → drawn_times x b.drawn ≡ one (nat_lt x b.next)

drawn-step : (n : ℕ) (b : Board) (e : BoardEvent) → Drawn b → IsTrue (permitted n b e) → Drawn (board_after b e)
unfolding permitted board_after
drawn-step n b (Claim p) d ok x =
    let here : p < length b.drawn = (let t = (and-true (nat_lt p (length b.drawn)) _ ok).0 in grind (arith, nat_tests)) in
    draw-adds (times x) b.drawn p b.next (one (b.next == x)) here (λ ys _. sum_by_push (λ y. one (y == x)) ys b.next) ∙ omega (arith, d x, one-more b.next x)
drawn-step n b (Deposit p i) d ok x = d x

pub each-drawn-once : EachDrawnOnce
each-drawn-once n passes es b r = kept n Drawn (drawn-step n) (initial_board passes) es b (λ x. none-drawn (times x) passes refl ∙ (let e : one (nat_lt x 0) ≡ 0 = grind (arith, nat_tests) in sym e)) r.1

-- the journal
entered-none : (i : ℕ) (es : List (ℕ × ℕ)) → is_journaled i es ≡ false → entered_times i es ≡ 0
entered-none i [] h = refl
entered-none i (e ∷ es) h = by (e.1 == i) refl (λ rest. entered-none i es rest)
  where
    by : (t : Bool) → (e.1 == i) ≡ t → (is_journaled i es ≡ false → entered_times i es ≡ 0) → entered_times i (e ∷ es) ≡ 0
    by true q rest = absurd (true≢false (sym (ap (λ b. b || is_journaled i es) q) ∙ h))
    by false q rest = sum_by-cons (λ (f : ℕ × ℕ). one (f.1 == i)) e es ∙ omega (arith, ap one q, rest (sym (ap (λ b. b || is_journaled i es) q) ∙ h))

abbrev Entered : Board → Type 0
Entered b = (i : ℕ) → entered_times i b.journal ≤ 1

pub not-true : (b : Bool) → not b ≡ true → b ≡ false
not-true true h = absurd (true≢false (sym h))
not-true false h = refl

entered-step : (n : ℕ) (b : Board) (e : BoardEvent) → Entered b → IsTrue (permitted n b e) → Entered (board_after b e)
unfolding permitted board_after
entered-step n b (Claim p) d ok i = d i
entered-step n b (Deposit p j) d ok i = by (j == i) refl
  where
    free : is_journaled j b.journal ≡ false
    free = not-true (is_journaled j b.journal) (and-true (is_in j (drawn_by b.drawn p) && nat_lt j n) (not (is_journaled j b.journal)) ok).1

    push : entered_times i (b.journal ++ (p, j) ∷ []) ≡ entered_times i b.journal + one (j == i)
    push = sum_by_push (λ (f : ℕ × ℕ). one (f.1 == i)) b.journal (p, j)

    by : (t : Bool) → (j == i) ≡ t → entered_times i (b.journal ++ (p, j) ∷ []) ≤ 1
    by true q = (let same : j ≡ i = grind (arith, nat_tests) in let none_yet : entered_times i b.journal ≡ 0 = entered-none i b.journal (subst (λ k. is_journaled k b.journal ≡ false) same free) in omega (arith, push, none_yet, ap one q))
    by false q = omega (arith, push, ap one q, d i)

pub entered-at-most-once : EnteredAtMostOnce
entered-at-most-once n passes es b r = kept n Entered (entered-step n) (initial_board passes) es b (λ i. omega arith) r.1

-- next, with how many passes drew n or more
abbrev past : ℕ → List ℕ → ℕ
past n xs = one (list_any (λ x. nat_le n x) xs)

record Bounded (n passes : ℕ) (b : Board) : Type 0 where
  many : length b.drawn ≡ passes
  beyond : sum_by (past n) b.drawn ≡ b.next - n

gap-more : (x n : ℕ) → one (nat_le n x) + (x - n) ≡ x + 1 - n
gap-more x n = grind (arith, nat_tests)

none-past : (n : ℕ) (xs : List ℕ) → list_all (λ x. nat_lt x n) xs ≡ true → list_any (λ x. nat_le n x) xs ≡ false
none-past n [] h = refl
none-past n (x ∷ xs) h =
    let t = and-true (nat_lt x n) (list_all (λ x. nat_lt x n) xs) h in
    let low : nat_lt x n ≡ true = t.0 in
    let here : nat_le n x ≡ false = grind (arith, nat_tests) in
    ap (λ b. b || list_any (λ x. nat_le n x) xs) here ∙ none-past n xs t.1

or-none : (b : Bool) → (b || false) ≡ b
or-none true = refl
or-none false = refl

bounded-step : (n passes : ℕ) (b : Board) (e : BoardEvent) → Bounded n passes b → IsTrue (permitted n b e) → Bounded n passes (board_after b e)
unfolding permitted board_after
bounded-step n passes b (Claim p) r ok =
    let t = and-true (nat_lt p (length b.drawn)) (list_all (λ x. nat_lt x n) (drawn_by b.drawn p)) ok in
    let low : nat_lt p (length b.drawn) ≡ true = t.0 in
    let here : p < length b.drawn = grind (arith, nat_tests) in
    let new : list_any (λ x. nat_le n x) (drawn_by b.drawn p) ≡ false = none-past n (drawn_by b.drawn p) t.1 in
    record {
      many = length-draw b.drawn p b.next ∙ r.many;
      beyond = draw-adds (past n) b.drawn p b.next (one (nat_le n b.next)) here
          (λ d is. let none_yet : list_any (λ x. nat_le n x) d ≡ false = ap (λ xs. list_any (λ x. nat_le n x) xs) is ∙ new in
          ap one (list_any-append (λ x. nat_le n x) d (b.next ∷ []) ∙ ap (λ t. t || (nat_le n b.next || false)) none_yet ∙ or-none (nat_le n b.next)) ∙ omega (arith, ap one none_yet))
          ∙ omega (arith, r.beyond, gap-more b.next n);
    }
bounded-step n passes b (Deposit p i) r ok = record { many = r.many; beyond = r.beyond }

at-most : (n : ℕ) (ds : List (List ℕ)) → sum_by (past n) ds ≤ length ds
at-most n [] = omega arith
at-most n (d ∷ ds) = let le : past n d ≤ 1 = one-le (list_any (λ x. nat_le n x) d) in omega (arith, sum_by-cons (past n) d ds, at-most n ds, le)
  where
    one-le : (b : Bool) → one b ≤ 1
    one-le true = omega arith
    one-le false = omega arith

many-passes : (passes : ℕ) → length (replicate passes (let z : List ℕ = [] in z)) ≡ passes
many-passes zero = refl
many-passes (suc passes) = ap suc (many-passes passes)

bounded : (n passes : ℕ) (es : List BoardEvent) (b : Board) → Reaches n passes es b → Bounded n passes b
bounded n passes es b r = kept n (Bounded n passes) (bounded-step n passes) (initial_board passes) es b (record { many = many-passes passes; beyond = none-drawn (past n) passes refl ∙ omega arith }) r.1

pub next-is-bounded : NextIsBounded
next-is-bounded n passes es b r = let k = bounded n passes es b r in omega (arith, k.many, k.beyond, at-most n b.drawn)

-- what was drawn stays drawn
still-in : (i : ℕ) (ds : List (List ℕ)) (p x q : ℕ) → is_in i (drawn_by ds q) ≡ true → is_in i (drawn_by (draw ds p x) q) ≡ true
still-in i [] p x q h = h
still-in i (d ∷ ds) zero x zero h = list_any-append (λ y. y == i) d (x ∷ []) ∙ ap (λ b. b || (x == i || false)) h
still-in i (d ∷ ds) zero x (suc q) h = h
still-in i (d ∷ ds) (suc p) x zero h = h
still-in i (d ∷ ds) (suc p) x (suc q) h = still-in i ds p x q h

all-still : (ds : List (List ℕ)) (p x : ℕ) (js : List (ℕ × ℕ)) → list_all (λ (e : ℕ × ℕ). is_in e.1 (drawn_by ds e.0)) js ≡ true → list_all (λ (e : ℕ × ℕ). is_in e.1 (drawn_by (draw ds p x) e.0)) js ≡ true
all-still ds p x [] h = refl
all-still ds p x (e ∷ js) h =
    let t = and-true (is_in e.1 (drawn_by ds e.0)) (list_all (λ (f : ℕ × ℕ). is_in f.1 (drawn_by ds f.0)) js) h in
    ap (λ b. b && list_all (λ (f : ℕ × ℕ). is_in f.1 (drawn_by (draw ds p x) f.0)) js) (still-in e.1 ds p x e.0 t.0) ∙ all-still ds p x js t.1

all-push : (t : ℕ × ℕ → Bool) (js : List (ℕ × ℕ)) (e : ℕ × ℕ) → list_all t js ≡ true → t e ≡ true → list_all t (js ++ e ∷ []) ≡ true
all-push t [] e h k = ap (λ b. b && true) k
all-push t (j ∷ js) e h k = let u = and-true (t j) (list_all t js) h in ap (λ b. b && list_all t (js ++ e ∷ [])) u.0 ∙ all-push t js e u.1 k

abbrev WasDrawn : Board → Type 0
WasDrawn b = list_all (λ (e : ℕ × ℕ). is_in e.1 (drawn_by b.drawn e.0)) b.journal ≡ true

was-step : (n : ℕ) (b : Board) (e : BoardEvent) → WasDrawn b → IsTrue (permitted n b e) → WasDrawn (board_after b e)
unfolding permitted board_after
was-step n b (Claim p) d ok = all-still b.drawn p b.next b.journal d
was-step n b (Deposit p i) d ok =
    let t = and-true (is_in i (drawn_by b.drawn p) && nat_lt i n) (not (is_journaled i b.journal)) ok in
    let u = and-true (is_in i (drawn_by b.drawn p)) (nat_lt i n) t.0 in
    all-push (λ (e : ℕ × ℕ). is_in e.1 (drawn_by b.drawn e.0)) b.journal (p, i) d u.0

pub each-was-drawn : EachWasDrawn
each-was-drawn n passes es b r = kept n WasDrawn (was-step n) (initial_board passes) es b refl r.1

-- a done state
all-past : (n : ℕ) (b : Board) (ds : List (List ℕ)) → list_all (pass_done n b) ds ≡ true → sum_by (past n) ds ≡ length ds
all-past n b [] h = refl
all-past n b (d ∷ ds) h =
    let t = and-true (pass_done n b d) (list_all (pass_done n b) ds) h in
    let u = and-true (list_any (λ x. nat_le n x) d) (list_all (λ x. nat_le n x || is_journaled x b.journal) d) t.0 in
    omega (arith, sum_by-cons (past n) d ds, ap one u.0, all-past n b ds t.1)

in-journal : (n i : ℕ) (b : Board) (xs : List ℕ) → i < n → list_all (λ x. nat_le n x || is_journaled x b.journal) xs ≡ true → 0 < times i xs → is_journaled i b.journal ≡ true
in-journal n i b [] lt h some_one = absurd (omega (arith, some_one))
in-journal n i b (x ∷ xs) lt h some_one = by (x == i) refl (λ more. in-journal n i b xs lt (and-true (nat_le n x || is_journaled x b.journal) (list_all (λ y. nat_le n y || is_journaled y b.journal) xs) h).1 more)
  where
    by : (t : Bool) → (x == i) ≡ t → (0 < times i xs → is_journaled i b.journal ≡ true) → is_journaled i b.journal ≡ true
    by true q rest =
        let same : x ≡ i = grind (arith, nat_tests) in
        let low : nat_le n x ≡ false = grind (arith, nat_tests) in
        subst (λ k. is_journaled k b.journal ≡ true) same (sym (ap (λ t. t || is_journaled x b.journal) low) ∙ (and-true (nat_le n x || is_journaled x b.journal) (list_all (λ y. nat_le n y || is_journaled y b.journal) xs) h).0)
    by false q rest = rest (omega (arith, some_one, sum_by-cons (λ y. one (y == i)) x xs, ap one q))

drawn-in : (n i : ℕ) (b : Board) (ds : List (List ℕ)) → i < n → list_all (pass_done n b) ds ≡ true → 0 < drawn_times i ds → is_journaled i b.journal ≡ true
drawn-in n i b [] lt h some_one = absurd (omega (arith, some_one))
drawn-in n i b (d ∷ ds) lt h some_one = by (times i d) refl (λ more. drawn-in n i b ds lt (and-true (pass_done n b d) (list_all (pass_done n b) ds) h).1 more)
  where
    by : (k : ℕ) → times i d ≡ k → (0 < drawn_times i ds → is_journaled i b.journal ≡ true) → is_journaled i b.journal ≡ true
    by zero q rest = rest (omega (arith, some_one, sum_by-cons (times i) d ds, q))
    by (suc k) q rest = in-journal n i b d lt (and-true (list_any (λ x. nat_le n x) d) (list_all (λ x. nat_le n x || is_journaled x b.journal) d) (and-true (pass_done n b d) (list_all (pass_done n b) ds) h).0).1 (omega (arith, q))

entered-some : (i : ℕ) (es : List (ℕ × ℕ)) → is_journaled i es ≡ true → 0 < entered_times i es
entered-some i [] h = absurd (true≢false (sym h))
entered-some i (e ∷ es) h = by (e.1 == i) refl (λ rest. entered-some i es rest)
  where
    by : (t : Bool) → (e.1 == i) ≡ t → (is_journaled i es ≡ true → 0 < entered_times i es) → 0 < entered_times i (e ∷ es)
    by true q rest = omega (arith, sum_by-cons (λ (f : ℕ × ℕ). one (f.1 == i)) e es, ap one q)
    by false q rest = omega (arith, sum_by-cons (λ (f : ℕ × ℕ). one (f.1 == i)) e es, rest (sym (ap (λ b. b || is_journaled i es) q) ∙ h))

-- in a done state each number below n is in the journal
pub all-journaled : (n passes : ℕ) (es : List BoardEvent) (b : Board) → Reaches n passes es b → IsTrue (is_done n b) → (i : ℕ) → i < n → is_journaled i b.journal ≡ true
unfolding is_done
all-journaled n passes es b r done i lt =
    let k = bounded n passes es b r in
    let far = all-past n b b.drawn done in
    let below : one (nat_lt i b.next) ≡ 1 = (let less : i < b.next = omega (arith, k.many, k.beyond, far, r.0, lt) in grind (arith, nat_tests)) in
    drawn-in n i b b.drawn lt done (omega (arith, each-drawn-once n passes es b r i, below))

pub done-names-all : DoneNamesAll
done-names-all n passes es b r done i lt = omega (arith, entered-at-most-once n passes es b r i, entered-some i b.journal (all-journaled n passes es b r done i lt))
