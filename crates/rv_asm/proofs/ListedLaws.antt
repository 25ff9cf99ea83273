-- Lines, piece by piece.
use Rattle.std.proofs.Common.{◌≡◌, ℕ, zero, suc, ◌+◌, ◌<◌, ◌≤◌, List, [], ◌∷◌, ◌++◌, length, drop, get_or, Some, Option, refl, ap, sym, ◌∙◌, arith, append_assoc}
use Rattle.std.specs.List.{slice_get, flat_map}
use Rattle.std.specs.Option.{option_map}
use Rattle.std.proofs.lemmas.List.{drop_more, drop_all, append-nil}
use Rattle.rv_asm.specs.Symbols.{Symbol}
use Rattle.rv_asm.specs.Listing.{symbol_line, word_line, word_lines}

pub symbol-joined : (old a b c d e t1 t2 t3 t4 t5 : List ℕ) → t1 ≡ old ++ a → t2 ≡ t1 ++ b → t3 ≡ t2 ++ c → t4 ≡ t3 ++ d → t5 ≡ t4 ++ e → t5 ≡ old ++ (a ++ b ++ (c ++ d) ++ e)
symbol-joined old a b c d e t1 t2 t3 t4 t5 e1 e2 e3 e4 e5 = simp (e5, e4, e3, e2, e1, append_assoc)

pub word-joined : (old a b c d e f t1 t2 t3 t4 t5 t6 : List ℕ) → t1 ≡ old ++ a → t2 ≡ t1 ++ b → t3 ≡ t2 ++ c → t4 ≡ t3 ++ d → t5 ≡ t4 ++ e → t6 ≡ t5 ++ f → t6 ≡ old ++ (a ++ (b ++ c) ++ (d ++ e) ++ f)
word-joined old a b c d e f t1 t2 t3 t4 t5 t6 e1 e2 e3 e4 e5 e6 = simp (e6, e5, e4, e3, e2, e1, append_assoc)

-- one line further
pub words-listed : (ws : List ℕ) (i w address : ℕ) (all text text' : List ℕ) → i < length ws → w ≡ get_or ws i 0 → text' ≡ text ++ word_line address w → text ++ word_lines address (drop i ws) ≡ all → text' ++ word_lines (address + 4) (drop (i + 1) ws) ≡ all
unfolding word_lines
words-listed ws i w address all text text' within here put before =
    let later : List ℕ = word_lines (address + 4) (drop (i + 1) ws) in
    ap (λ (t : List ℕ). t ++ later) put ∙ append_assoc text (word_line address w) later
    ∙ ap (λ (v : ℕ). text ++ (word_line address v ++ later)) here
    ∙ ap (λ (rest : List ℕ). text ++ word_lines address rest) (sym (drop_more ws i 0 within)) ∙ before

pub words-all-listed : (ws : List ℕ) (i address : ℕ) (all text : List ℕ) → length ws ≤ i → text ++ word_lines address (drop i ws) ≡ all → text ≡ all
unfolding word_lines
words-all-listed ws i address all text past before = sym (append-nil text) ∙ ap (λ (rest : List ℕ). text ++ word_lines address rest) (sym (drop_all i ws past)) ∙ before

-- the symbol at a place
pub symbol-at : (symbols : List Symbol) (j : ℕ) → j < length symbols → (s : Symbol) × (slice_get symbols j ≡ Some s) × (drop j symbols ≡ s ∷ drop (j + 1) symbols)
symbol-at [] j within = absurd (omega arith)
symbol-at (s ∷ ss) zero within = (s, refl, refl)
symbol-at (s ∷ ss) (suc j) within =
    let later = symbol-at ss j (omega arith) in
    let next : suc j + 1 ≡ suc (j + 1) = omega arith in
    (later.0, later.1, later.2 ∙ ap (λ (k : ℕ). later.0 ∷ drop k (s ∷ ss)) (sym next))

pub symbols-listed : (symbols : List Symbol) (j : ℕ) (s : Symbol) (all text text' : List ℕ) → drop j symbols ≡ s ∷ drop (j + 1) symbols → text' ≡ text ++ symbol_line s → text ++ flat_map symbol_line (drop j symbols) ≡ all → text' ++ flat_map symbol_line (drop (j + 1) symbols) ≡ all
symbols-listed symbols j s all text text' here put before =
    let later : List ℕ = flat_map symbol_line (drop (j + 1) symbols) in
    ap (λ (t : List ℕ). t ++ later) put ∙ append_assoc text (symbol_line s) later
    ∙ ap (λ (rest : List Symbol). text ++ flat_map symbol_line rest) (sym here) ∙ before

pub symbols-all-listed : (symbols : List Symbol) (j : ℕ) (all text : List ℕ) → length symbols ≤ j → text ++ flat_map symbol_line (drop j symbols) ≡ all → text ≡ all
symbols-all-listed symbols j all text past before = sym (append-nil text) ∙ ap (λ (rest : List Symbol). text ++ flat_map symbol_line rest) (sym (drop_all j symbols past)) ∙ before

-- the fields of a symbol
pub name-of : (o : Option Symbol) (s : Symbol) (name : List ℕ) → o ≡ Some s → option_map (λ s. s.name) o ≡ Some name → name ≡ s.name
name-of o s name is told = let same : Some name ≡ Some s.name = sym told ∙ ap (option_map (λ (t : Symbol). t.name)) is in cc

pub address-of : (o : Option Symbol) (s : Symbol) (address : ℕ) → o ≡ Some s → option_map (λ s. s.address) o ≡ Some address → address ≡ s.address
address-of o s address is told = let same : Some address ≡ Some s.address = sym told ∙ ap (option_map (λ (t : Symbol). t.address)) is in cc
