-- How many words are appended, and the words of a program.
use Rattle.std.proofs.Common.{◌≡◌, ℕ, zero, suc, ◌+◌, ◌*◌, ◌<◌, ◌≤◌, Bool, true, false, ◌==◌, if◌then◌else◌, List, [], ◌∷◌, ◌++◌, length, get_or, map, Some, ap, subst, ◌∙◌, refl, arith}
use Rattle.std.specs.List.{AllByRecursion}
use Rattle.std.specs.Int.{w32, to_le_bytes}
use Rattle.std.proofs.lemmas.List.{length-append}
use Rattle.rv_base.specs.declared.instr.Instr.{Instr}
use Rattle.rv_spec.specs.Decode.{decode}
use Rattle.rv_elf.specs.Written.{words_bytes}
use Rattle.rv_gen.specs.Draws.{draw, bytes, ◌>>=◌}
use Rattle.rv_gen.specs.Words.{decoded, Adds, AddsPair, AddsDrawn}
use Rattle.rv_gen.specs.Programs.{word, call_item, single_item, alone, item_of, item, items, filled, front, back, code, drawn}
use Rattle.rv_gen.proofs.Binds.{adds-more}

pub length-map : {A B : Type 0} (f : A → B) (xs : List A) → length (map f xs) ≡ length xs
length-map f [] = refl
length-map f (x ∷ xs) = ap (λ n. suc n) (length-map f xs)

pub adds-length : (is : List Instr) (old new : List ℕ) → Adds is old new → length new ≡ length old + length is
adds-length is old new e =
    omega (arith, ap length e, length-append (decoded old) (map Some is), length-map decode old, length-map decode new, length-map Some is)

item-few : (k s : ℕ) → length (item_of k s).0 ≤ 5
unfolding item_of call_item alone ◌>>=◌
item-few k s =
    elim (k == 15) as (λ (b : Bool). length ((if b then call_item else alone (single_item k)) s).0 ≤ 5) [ true ↦ omega arith | false ↦ omega arith ]

pub items-few : (n s : ℕ) → length (items n s).0 ≤ 5 * n
unfolding items item ◌>>=◌
items-few zero s = omega arith
items-few (suc n) s =
    let k = (draw 16 s).0 in
    let t = (draw 16 s).1 in
    omega (arith, length-append (item_of k t).0 (items n (item_of k t).1).0, item-few k t, items-few n (item_of k t).1)

pub filled-length : (n r s : ℕ) → length (filled n r s).0 ≡ 2 * n
unfolding filled word ◌>>=◌
filled-length zero r s = refl
filled-length (suc n) r s = omega (arith, filled-length n (r + 1) (word r s).1)

pub length-words : (ws : List ℕ) → length (words_bytes ws) ≡ 4 * length ws
length-words [] = refl
length-words (w ∷ ws) = omega (arith, length-append (to_le_bytes w32 w) (words_bytes ws), length-words ws)

pub code-adds : (rounds n s s1 s2 : ℕ) (t1 t2 t3 t4 : List ℕ) → Adds (front rounds) [] t1 → AddsDrawn (filled 10 18) s s1 t1 t2 → AddsDrawn (items 32) s1 s2 t2 t3 → Adds (back n) t3 t4
    → n ≡ length (items 32 s1).0 → AddsDrawn (code rounds) s s2 [] t4
unfolding code ◌>>=◌
code-adds rounds n s s1 s2 t1 t2 t3 t4 e1 e2 e3 e4 count =
    let start = (filled 10 18 s).0 in
    let at = (filled 10 18 s).1 in
    let body = (items 32 at).0 in
    let moved : AddsPair (items 32 at) s2 t2 t3 = subst (λ k. AddsPair (items 32 k) s2 t2 t3) e2.1 e3 in
    let many : n ≡ length body = count ∙ ap (λ k. length (items 32 k).0) e2.1 in
    let last : Adds (back (length body)) t3 t4 = subst (λ k. Adds (back k) t3 t4) many e4 in
    (adds-more (front rounds ++ start ++ body) (back (length body)) [] t3 t4 (adds-more (front rounds ++ start) body [] t2 t3 (adds-more (front rounds) start [] t1 t2 e1 e2.0) moved.0) last, moved.1)

pub program-is : (rounds s s1 s2 : ℕ) (ws input : List ℕ) → AddsDrawn (code rounds) s s1 [] ws → (input, s2) ≡ bytes 256 s1
    → (decoded ws ≡ map Some (drawn rounds s).0.0) × (input ≡ (drawn rounds s).0.1)
unfolding drawn ◌>>=◌
program-is rounds s s1 s2 ws input e f = (e.0, ap (λ (p : List ℕ × ℕ). p.0) f ∙ ap (λ k. (bytes 256 k).0) e.1)

-- each number of a list, by its places
pub all-below : (m : ℕ) (xs : List ℕ) → ((i : ℕ) → get_or xs i 0 < m) → AllByRecursion (λ x. x < m) xs
all-below m [] each = tt
all-below m (x ∷ xs) each = (each 0, all-below m xs (λ i. each (suc i)))
