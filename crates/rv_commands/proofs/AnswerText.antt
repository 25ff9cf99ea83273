-- Pieces of the lines of answers, appended one after another.
use Rattle.std.proofs.Common.{◌≡◌, ◌≢◌, ℕ, zero, suc, ◌+◌, ◌-◌, ◌≤◌, List, [], ◌∷◌, ◌++◌, codes, decimal, sym, ap, ◌∙◌, append-nil, append_assoc, arith, if◌then◌else◌}
use Rattle.std.specs.List.{flat_map, range_with_len}
use Rattle.std.proofs.lemmas.Bool.{ne_eqb}
use Rattle.rv_text.specs.Listing.{hex8}
use Rattle.rv_plan.specs.Lines.{line}
use Rattle.rv_commands.specs.Lines.{register_line}

pub state-joined : (a d p h nl t0 t1 t2 t3 : List ℕ) → t0 ≡ [] → t1 ≡ t0 ++ (a ++ d ++ p) → t2 ≡ t1 ++ h → t3 ≡ t2 ++ nl → t3 ≡ (a ++ d ++ p ++ h) ++ nl
state-joined a d p h nl t0 t1 t2 t3 e0 e1 e2 e3 = simp (e3, e2, e1, e0, append_assoc)

pub cell-joined : (a n v h t c nl t0 t1 t2 t3 t4 t5 : List ℕ) → t0 ≡ [] → t1 ≡ t0 ++ (a ++ n ++ v) → t2 ≡ t1 ++ h → t3 ≡ t2 ++ t → t4 ≡ t3 ++ c → t5 ≡ t4 ++ nl → t5 ≡ (a ++ n ++ v ++ h ++ t ++ c) ++ nl
cell-joined a n v h t c nl t0 t1 t2 t3 t4 t5 e0 e1 e2 e3 e4 e5 = simp (e5, e4, e3, e2, e1, e0, append_assoc)

-- the line of a register that isn't 0
pub register-joined : (old a d b h nl t1 t2 t3 : List ℕ) → t1 ≡ old ++ (a ++ d ++ b) → t2 ≡ t1 ++ h → t3 ≡ t2 ++ nl → t3 ≡ old ++ ((a ++ d ++ b ++ h) ++ nl)
register-joined old a d b h nl t1 t2 t3 e1 e2 e3 = simp (e3, e2, e1, append_assoc)

pub register-line : (r value : ℕ) → value ≢ 0 → line (codes "  x" ++ decimal r ++ 32 ∷ hex8 value) ≡ register_line r value
register-line r value some = sym (ap (λ b. if b then [] else line (codes "  x" ++ decimal r ++ 32 ∷ hex8 value)) (ne_eqb value 0 some))

-- the lines of one register more
pub flat-more : (f : ℕ → List ℕ) (a n : ℕ) → flat_map f (range_with_len a (suc n)) ≡ flat_map f (range_with_len a n) ++ f (a + n)
flat-more f a zero = append-nil (f a) ∙ ap f (omega arith)
flat-more f a (suc n) =
    ap (λ xs. f a ++ xs) (flat-more f (a + 1) n) ∙ sym (append_assoc (f a) (flat_map f (range_with_len (a + 1) n)) (f (a + 1 + n))) ∙ ap (λ k. flat_map f (range_with_len a (suc n)) ++ f k) (omega arith)

-- behind the lines of the registers before r stands that of r
pub lines-more : (f : ℕ → List ℕ) (head before after : List ℕ) (r : ℕ) → 1 ≤ r → before ≡ head ++ flat_map f (range_with_len 1 (r - 1)) → after ≡ before ++ f r → after ≡ head ++ flat_map f (range_with_len 1 (r + 1 - 1))
lines-more f head before after r some was more =
    let here : r ≡ 1 + (r - 1) = omega (arith, some) in
    let next : suc (r - 1) ≡ r + 1 - 1 = omega (arith, some) in
    more ∙ ap (λ text. text ++ f r) was ∙ append_assoc head (flat_map f (range_with_len 1 (r - 1))) (f r)
    ∙ ap (λ text. head ++ text) (ap (λ k. flat_map f (range_with_len 1 (r - 1)) ++ f k) here ∙ sym (flat-more f 1 (r - 1)) ∙ ap (λ n. flat_map f (range_with_len 1 n)) next)
