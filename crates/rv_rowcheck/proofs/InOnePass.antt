-- Accesses and what is expected of them, compared pair by pair.
use Rattle.std.proofs.Common.{◌≡◌, ◌∙◌, ℕ, Bool, true, false, ◌&&◌, ◌==◌, List, [], ◌∷◌, ◌<◌, map, length, nat_lt, bytes_eq, refl, sym, ap, ap₂, arith}
use Rattle.std.specs.List.{list_all}
use Rattle.std.proofs.lemmas.Bool.{ne_eqb}
use Rattle.rv_base.specs.declared.record.Access.{Access}
use Rattle.rv_base.specs.declared.record.Touch.{Touch}
use Rattle.rv_spec.specs.Cells.{time_of}

abbrev pub agrees : ℕ → Access → Touch → Bool
agrees step a t = a.slot == t.slot && a.cell == t.cell && a.new == t.new && nat_lt a.prev (time_of step a.slot)

abbrev pub agree : ℕ → List Access → List Touch → Bool
agree step [] [] = true
agree step [] (t ∷ ys) = false
agree step (a ∷ xs) [] = false
agree step (a ∷ xs) (t ∷ ys) = agrees step a t && agree step xs ys

-- four facts of the first and of the rest, fact by fact
by-facts : (p q r s w x y z : Bool) → ((p && q && r && s) && (w && x && y && z)) ≡ ((p && w) && (q && x) && (r && y) && (s && z))
by-facts false q r s w x y z = refl
by-facts true false r s false x y z = refl
by-facts true false r s true x y z = refl
by-facts true true false s false x y z = refl
by-facts true true false s true false y z = refl
by-facts true true false s true true y z = refl
by-facts true true true false false x y z = refl
by-facts true true true false true false y z = refl
by-facts true true true false true true false z = refl
by-facts true true true false true true true z = refl
by-facts true true true true w x y z = refl

-- all pairs agree exactly where the lists do, fact by fact
pub agree-by-facts : (step : ℕ) (xs : List Access) (ys : List Touch) → agree step xs ys
    ≡ (bytes_eq (map (λ a. a.slot) xs) (map (λ t. t.slot) ys) && bytes_eq (map (λ a. a.cell) xs) (map (λ t. t.cell) ys) && bytes_eq (map (λ a. a.new) xs) (map (λ t. t.new) ys) && list_all (λ a. nat_lt a.prev (time_of step a.slot)) xs)
agree-by-facts step [] [] = refl
agree-by-facts step [] (t ∷ ys) = refl
agree-by-facts step (a ∷ xs) [] = refl
agree-by-facts step (a ∷ xs) (t ∷ ys) =
    ap (λ b. agrees step a t && b) (agree-by-facts step xs ys)
    ∙ by-facts (a.slot == t.slot) (a.cell == t.cell) (a.new == t.new) (nat_lt a.prev (time_of step a.slot))
    (bytes_eq (map (λ (a : Access). a.slot) xs) (map (λ (t : Touch). t.slot) ys)) (bytes_eq (map (λ (a : Access). a.cell) xs) (map (λ (t : Touch). t.cell) ys)) (bytes_eq (map (λ (a : Access). a.new) xs) (map (λ (t : Touch). t.new) ys)) (list_all (λ (a : Access). nat_lt a.prev (time_of step a.slot)) xs)

-- ---- where the pass ends

-- at an access for which none is expected
pub none-expected : (step : ℕ) (xs : List Access) (ys : List Touch) → 0 < length xs → length ys ≡ 0 → false ≡ agree step xs ys
none-expected step [] ys some none = absurd (omega (arith, some))
none-expected step (a ∷ xs) [] some none = refl
none-expected step (a ∷ xs) (t ∷ ys) some none = absurd (omega (arith, none))

-- at a pair that differs
pub pair-differs : (step : ℕ) (all xs : List Access) (due ys : List Touch) (a : Access) (t : Touch) → all ≡ a ∷ xs → due ≡ t ∷ ys → agrees step a t ≡ false → false ≡ agree step all due
pair-differs step all xs due ys a t front back differs = sym (ap₂ (agree step) front back ∙ ap (λ b. b && agree step xs ys) differs)

-- behind the last access
pub behind-last : (step : ℕ) (xs : List Access) (ys : List Touch) → length xs ≡ 0 → (length ys == 0) ≡ agree step xs ys
behind-last step [] [] none = refl
behind-last step [] (t ∷ ys) none = ne_eqb (length (t ∷ ys)) 0 (λ e. omega (arith, e))
behind-last step (a ∷ xs) ys none = absurd (omega (arith, none))
