-- The latest of some accesses, with one more at the end.
use Rattle.std.proofs.Common.{◌≡◌, ℕ, ◌<◌, ◌≤◌, max, Bool, true, false, cond, not, ◌==◌, ◌&&◌, nat_lt, List, [], ◌∷◌, ◌++◌, map, reverse, filter, find, Option, Some, option_map, unwrap_or, refl, sym, ap, ◌∙◌, subst, append_assoc, append-nil, arith}
use Rattle.std.proofs.lemmas.List.{map-append, reverse-append}
use Rattle.std.proofs.lemmas.List.Sums.{fold-append}
use Rattle.std.proofs.lemmas.List.Elements.{filter-append}
use Rattle.std.proofs.lemmas.Bool.{eq-eqb, ne_eqb, ltb-true, ltb-false}
use Rattle.rv_spec.specs.Trace.{greatest}
use Rattle.rv_spec.specs.Cells.{time_of}
use Rattle.rv_query.specs.Accesses.{Numbered, own_time, accesses_before, latest, last_access, last_change}

-- the time of what may be an access, or 0
abbrev pub time_in : Option Numbered → ℕ
time_in o = unwrap_or (option_map own_time o) 0

greatest-more : (xs : List Numbered) (a : Numbered) → greatest (map own_time (xs ++ a ∷ [])) ≡ max (greatest (map own_time xs)) (own_time a)
greatest-more xs a = ap greatest (map-append own_time xs (a ∷ [])) ∙ fold-append max 0 (map own_time xs) (own_time a ∷ [])

-- the one that is later, and the last of two at one time
pub latest-more : (xs : List Numbered) (a : Numbered) → latest (xs ++ a ∷ []) ≡ cond (nat_lt (own_time a) (greatest (map own_time xs))) (latest xs) (Some a)
unfolding latest
latest-more xs a = ap (λ l. find (test (greatest (map own_time (xs ++ a ∷ [])))) l) (reverse-append xs (a ∷ [])) ∙ ap (λ m. find (test m) (a ∷ reverse xs)) (greatest-more xs a) ∙ go (nat_lt (own_time a) g) refl
  where
    g : ℕ
    g = greatest (map own_time xs)

    test : ℕ → Numbered → Bool
    test m b = own_time b == m

    go : (b : Bool) → nat_lt (own_time a) g ≡ b → find (test (max g (own_time a))) (a ∷ reverse xs) ≡ cond b (find (test g) (reverse xs)) (Some a)
    go true e =
        let less : own_time a < g = ltb-true (own_time a) g e in
        let most : max g (own_time a) ≡ g = omega (arith, less) in
        ap (λ m. find (test m) (a ∷ reverse xs)) most
        ∙ ap (λ b. cond b (Some a) (find (test g) (reverse xs))) (ne_eqb (own_time a) g (λ same. absurd (omega (arith, less, same))))
    go false e =
        let more : g ≤ own_time a = ltb-false (own_time a) g e in
        let most : max g (own_time a) ≡ own_time a = omega (arith, more) in
        ap (λ m. find (test m) (a ∷ reverse xs)) most
        ∙ ap (λ b. cond b (Some a) (find (test (own_time a)) (reverse xs))) (eq-eqb (own_time a) (own_time a) refl)

-- its time is the greatest
IsTimed : List Numbered → Type 0
IsTimed xs = time_in (latest xs) ≡ greatest (map own_time xs)

timed-more : (xs : List Numbered) (a : Numbered) → IsTimed xs → IsTimed (xs ++ a ∷ [])
unfolding IsTimed
timed-more xs a is = ap time_in (latest-more xs a) ∙ go (nat_lt (own_time a) g) refl ∙ sym (greatest-more xs a)
  where
    g : ℕ
    g = greatest (map own_time xs)

    go : (b : Bool) → nat_lt (own_time a) g ≡ b → time_in (cond b (latest xs) (Some a)) ≡ max g (own_time a)
    go true e = let less : own_time a < g = ltb-true (own_time a) g e in is ∙ (let most : g ≡ max g (own_time a) = omega (arith, less) in most)
    go false e = let more : g ≤ own_time a = ltb-false (own_time a) g e in omega (arith, more)

timed-all : (before xs : List Numbered) → IsTimed before → IsTimed (before ++ xs)
timed-all before [] is = subst IsTimed (sym (append-nil before)) is
timed-all before (a ∷ xs) is = subst IsTimed (append_assoc before (a ∷ []) xs) (timed-all (before ++ a ∷ []) xs (timed-more before a is))

pub latest-time : (xs : List Numbered) → time_in (latest xs) ≡ greatest (map own_time xs)
unfolding IsTimed latest
latest-time xs = timed-all [] xs refl

-- the latest with one more, by the time of the latest
pub latest-next : (xs : List Numbered) (a : Numbered) → latest (xs ++ a ∷ []) ≡ cond (nat_lt (own_time a) (time_in (latest xs))) (latest xs) (Some a)
latest-next xs a = latest-more xs a ∙ ap (λ t. cond (nat_lt (own_time a) t) (latest xs) (Some a)) (sym (latest-time xs))

-- ---- of the accesses to a cell before a step

abbrev pub counts : ℕ → ℕ → Numbered → Bool
counts c s a = a.access.cell == c && nat_lt (own_time a) (time_of s 0)

abbrev pub changes : Numbered → Bool
changes a = not (a.access.new == a.access.old)

one-more : (test : Numbered → Bool) (xs : List Numbered) (a : Numbered) → test a ≡ true → filter test (xs ++ a ∷ []) ≡ filter test xs ++ a ∷ []
one-more test xs a is = filter-append test xs (a ∷ []) ∙ ap (λ b. filter test xs ++ cond b (a ∷ []) []) is

none-more : (test : Numbered → Bool) (xs : List Numbered) (a : Numbered) → test a ≡ false → filter test (xs ++ a ∷ []) ≡ filter test xs
none-more test xs a is = filter-append test xs (a ∷ []) ∙ ap (λ b. filter test xs ++ cond b (a ∷ []) []) is ∙ append-nil (filter test xs)

pub last-next : (c s : ℕ) (xs : List Numbered) (a : Numbered) → counts c s a ≡ true
    → last_access (xs ++ a ∷ []) c s ≡ cond (nat_lt (own_time a) (time_in (last_access xs c s))) (last_access xs c s) (Some a)
last-next c s xs a is = ap latest (one-more (counts c s) xs a is) ∙ latest-next (accesses_before xs c s) a

pub change-next : (c s : ℕ) (xs : List Numbered) (a : Numbered) → counts c s a ≡ true → changes a ≡ true
    → last_change (xs ++ a ∷ []) c s ≡ cond (nat_lt (own_time a) (time_in (last_change xs c s))) (last_change xs c s) (Some a)
change-next c s xs a is does =
    ap (λ l. latest (filter changes l)) (one-more (counts c s) xs a is) ∙ ap latest (one-more changes (accesses_before xs c s) a does) ∙ latest-next (filter changes (accesses_before xs c s)) a

pub change-kept : (c s : ℕ) (xs : List Numbered) (a : Numbered) → counts c s a ≡ true → changes a ≡ false → last_change (xs ++ a ∷ []) c s ≡ last_change xs c s
change-kept c s xs a is not_so = ap (λ l. latest (filter changes l)) (one-more (counts c s) xs a is) ∙ ap latest (none-more changes (accesses_before xs c s) a not_so)

pub before-kept : (c s : ℕ) (xs : List Numbered) (a : Numbered) → counts c s a ≡ false → accesses_before (xs ++ a ∷ []) c s ≡ accesses_before xs c s
before-kept c s xs a not_so = none-more (counts c s) xs a not_so
