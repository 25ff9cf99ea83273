-- Lists: what holds of all members, and lists cut in two.
use Rattle.std.proofs.Common.{◌≡◌, ◌≢◌, ℕ, zero, suc, ◌+◌, List, [], ◌∷◌, ◌++◌, length, map, refl, sym, ◌∙◌, ap, subst, arith}
use Rattle.std.specs.List.{AllByRecursion, range_with_len}
use Rattle.std.proofs.lemmas.List.{map-append}
use Rattle.rv_spec.specs.Elf.{Image}
use Rattle.rv_spec.specs.Trace.{row, rows}
use Rattle.rv_rules.specs.Chain.{AllDiffer}
use Rattle.rv_rules.specs.Membership.{In}
use Rattle.rv_rules.proofs.Lemmas.{in-map, in-left, in-map-back, all-in, all-of}

-- `suc` is how runs count, and `+ 1` how rows do
pub next-number : (k : ℕ) → suc k ≡ k + 1
next-number k = omega arith

-- ---- all members

-- a fact of all members that implies another
pub all-weaken : {A : Type 0} (P Q : A → Type 0) → ((x : A) → P x → Q x) → (xs : List A) → AllByRecursion P xs → AllByRecursion Q xs
all-weaken P Q f [] h = tt
all-weaken P Q f (x ∷ xs) h = (f x h.0, all-weaken P Q f xs h.1)

-- a fact of all images of the members
pub all-map : {A B : Type 0} (P : B → Type 0) (f : A → B) (xs : List A) → AllByRecursion (λ x. P (f x)) xs → AllByRecursion P (map f xs)
all-map P f [] h = tt
all-map P f (x ∷ xs) h = (h.0, all-map P f xs h.1)

-- and conversely
pub map-all : {A B : Type 0} (P : B → Type 0) (f : A → B) (xs : List A) → AllByRecursion P (map f xs) → AllByRecursion (λ x. P (f x)) xs
map-all P f [] h = tt
map-all P f (x ∷ xs) h = (h.0, map-all P f xs h.1)

pub all-join : {A : Type 0} (P : A → Type 0) (xs ys : List A) → AllByRecursion P xs → AllByRecursion P ys → AllByRecursion P (xs ++ ys)
all-join P [] ys h k = k
all-join P (x ∷ xs) ys h k = (h.0, all-join P xs ys h.1 k)

-- what differs in a list differs in its front
pub differ-left : {A : Type 0} (f : A → ℕ) (xs ys : List A) → AllDiffer (map f (xs ++ ys)) → AllDiffer (map f xs)
differ-left f [] ys d = tt
differ-left f (x ∷ xs) ys d = (
  all-of (λ y. f x ≢ y) (map f xs) (λ y m. let r = in-map-back f y xs m in all-in (λ y. f x ≢ y) (map f (xs ++ ys)) d.0 y (subst (λ z. In z (map f (xs ++ ys))) (sym r.2) (in-map f r.0 (xs ++ ys) (in-left r.0 xs ys r.1)))),
  differ-left f xs ys d.1,
)

-- ---- lists cut in two

-- equal lists with fronts of one length have equal fronts
pub same-front : {A : Type 0} (xs ys us vs : List A) → length xs ≡ length us → xs ++ ys ≡ us ++ vs → (xs ≡ us) × (ys ≡ vs)
same-front [] ys [] vs n e = (refl, e)
same-front [] ys (u ∷ us) vs n e = absurd (omega (arith, n))
same-front (x ∷ xs) ys [] vs n e = absurd (omega (arith, n))
same-front (x ∷ xs) ys (u ∷ us) vs n e =
    let first : x ≡ u = cc in
    let rest : xs ++ ys ≡ us ++ vs = cc in
    let more = same-front xs ys us vs (omega (arith, n)) rest in
    (λ i. first i ∷ more.0 i, more.1)

range-split : (k a b : ℕ) → range_with_len k (a + b) ≡ range_with_len k a ++ range_with_len (k + a) b
range-split k zero b =
    let none : 0 + b ≡ b = omega arith in
    let same : k ≡ k + 0 = omega arith in
    ap (range_with_len k) none ∙ ap (λ n. range_with_len n b) same
range-split k (suc a) b =
    let more : suc a + b ≡ suc (a + b) = omega arith in
    let same : k + 1 + a ≡ k + suc a = omega arith in
    ap (range_with_len k) more ∙ ap (λ (l : List ℕ). k ∷ l) (range-split (k + 1) a b) ∙ ap (λ n. k ∷ range_with_len (k + 1) a ++ range_with_len n b) same

-- the rows of a run, cut in two
pub rows-split : (i : Image) (input : List ℕ) (k a b : ℕ) → rows i input k (a + b) ≡ rows i input k a ++ rows i input (k + a) b
rows-split i input k a b = ap (map (row i input)) (range-split k a b) ∙ map-append (row i input) (range_with_len k a) (range_with_len (k + a) b)

-- nothing is as long as nothing
pub length-none : {A : Type 0} (xs : List A) → length xs ≡ 0 → xs ≡ []
length-none [] e = refl
length-none (x ∷ xs) e = absurd (omega (arith, e))
