-- What is drawn in a row, and the words that spell it.
use Rattle.std.proofs.Common.{◌≡◌, ℕ, List, [], ◌∷◌, ◌++◌, map, Some, Result, Ok, Err, OnOk, sym, ap, subst, ◌∙◌, refl, append_assoc}
use Rattle.rv_base.specs.declared.instr.Instr.{Instr}
use Rattle.rv_gen.specs.Draws.{Draw, given, ◌>>=◌}
use Rattle.rv_gen.specs.Words.{decoded, Adds, AddsPair, AddsDrawn}

pub binding : {A B : Type 0} (first : Draw A) (then : A → Draw B) (s t : ℕ) (a : A) (r : B × ℕ) → (a, t) ≡ first s → r ≡ then a t → r ≡ (first >>= then) s
unfolding ◌>>=◌
binding first then s t a r e f = f ∙ ap (λ p. then p.0 p.1) e

pub on-ok : {P Q E : Type 0} (r : Result (Unit {0}) E) → (P → Q) → OnOk r P → OnOk r Q
on-ok (Ok x) f h = f h
on-ok (Err e) f h = h

map-append : (xs ys : List Instr) → map Some (xs ++ ys) ≡ map Some xs ++ map Some ys
map-append [] ys = refl
map-append (x ∷ xs) ys = ap (λ t. Some x ∷ t) (map-append xs ys)

-- what is appended twice is appended
pub adds-more : (xs ys : List Instr) (old mid new : List ℕ) → Adds xs old mid → Adds ys mid new → Adds (xs ++ ys) old new
adds-more xs ys old mid new e f =
    f ∙ ap (λ t. t ++ map Some ys) e ∙ append_assoc (decoded old) (map Some xs) (map Some ys) ∙ ap (λ t. decoded old ++ t) (sym (map-append xs ys))

pub adds-pair : (p : List Instr × ℕ) (is : List Instr) (t : ℕ) (old new : List ℕ) → (is, t) ≡ p → Adds is old new → AddsPair p t old new
adds-pair p is t old new e adds = subst (λ (q : List Instr × ℕ). AddsPair q t old new) e (adds, refl)

pub draws-more : (d rest : Draw (List Instr)) (s s' t : ℕ) (old mid new : List ℕ) → AddsDrawn d s s' old mid → AddsDrawn rest s' t mid new
    → AddsDrawn (d >>= (λ first. rest >>= (λ others. given (first ++ others)))) s t old new
unfolding ◌>>=◌
draws-more d rest s s' t old mid new e f =
    let moved : AddsPair (rest (d s).1) t mid new = subst (λ k. AddsPair (rest k) t mid new) e.1 f in
    (adds-more (d s).0 (rest (d s).1).0 old mid new e.0 moved.0, moved.1)

-- ---- instructions one after another

pub adds-5 : (a b c d e : Instr) (t0 t1 t2 t3 t4 t5 : List ℕ) → Adds (a ∷ []) t0 t1 → Adds (b ∷ []) t1 t2 → Adds (c ∷ []) t2 t3 → Adds (d ∷ []) t3 t4 → Adds (e ∷ []) t4 t5 → Adds (a ∷ b ∷ c ∷ d ∷ e ∷ []) t0 t5
adds-5 a b c d e t0 t1 t2 t3 t4 t5 h0 h1 h2 h3 h4 = adds-more (a ∷ b ∷ c ∷ d ∷ []) (e ∷ []) t0 t4 t5 (adds-more (a ∷ b ∷ c ∷ []) (d ∷ []) t0 t3 t4 (adds-more (a ∷ b ∷ []) (c ∷ []) t0 t2 t3 (adds-more (a ∷ []) (b ∷ []) t0 t1 t2 h0 h1) h2) h3) h4

pub adds-6 : (a b c d e f : Instr) (t0 t1 t2 t3 t4 t5 t6 : List ℕ) → Adds (a ∷ []) t0 t1 → Adds (b ∷ []) t1 t2 → Adds (c ∷ []) t2 t3 → Adds (d ∷ []) t3 t4 → Adds (e ∷ []) t4 t5 → Adds (f ∷ []) t5 t6 → Adds (a ∷ b ∷ c ∷ d ∷ e ∷ f ∷ []) t0 t6
adds-6 a b c d e f t0 t1 t2 t3 t4 t5 t6 h0 h1 h2 h3 h4 h5 = adds-more (a ∷ b ∷ c ∷ d ∷ e ∷ []) (f ∷ []) t0 t5 t6 (adds-more (a ∷ b ∷ c ∷ d ∷ []) (e ∷ []) t0 t4 t5 (adds-more (a ∷ b ∷ c ∷ []) (d ∷ []) t0 t3 t4 (adds-more (a ∷ b ∷ []) (c ∷ []) t0 t2 t3 (adds-more (a ∷ []) (b ∷ []) t0 t1 t2 h0 h1) h2) h3) h4) h5
