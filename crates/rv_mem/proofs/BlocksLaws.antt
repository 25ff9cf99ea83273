-- What the entries of the upper levels say of the leaves' numbers, before and after a change.
use Rattle.std.proofs.Common.{◌≡◌, ◌≢◌, ◌⊎◌, ℕ, zero, suc, ◌+◌, ◌*◌, ◌/◌, ◌%◌, ◌^◌, ◌<◌, ◌≤◌, true, false, cond, ◌==◌, List, [], ◌∷◌, length, set, get_or, refl, sym, ◌∙◌, ap, inl, inr, arith, get_or-set_other, get_or-set_same}
use Rattle.std.proofs.lemmas.Bool.{eq-eqb, ne_eqb, eqb-true, eqb-false}
use Rattle.std.proofs.lemmas.List.{get_or_past, get_or_default}
use Rattle.rv_mem.specs.Blocks.{IsBlocks, table_of, block_number}

pub is-it : (a b : ℕ) → (a ≡ b) ⊎ (a ≢ b)
is-it a b = elim (a == b) as (λ c. (a == b) ≡ c → (a ≡ b) ⊎ (a ≢ b)) [ true ↦ λ e. inl (eqb-true a b e) | false ↦ λ e. inr (eqb-false a b e) ] refl

pub none-or-some : (n : ℕ) → (n ≡ 0) ⊎ (0 < n)
none-or-some zero = inl refl
none-or-some (suc n) = inr (omega arith)

-- without a table a block has no number
pub number-none : (d : List ℕ) (p : ℕ) → table_of d p ≡ 0 → block_number d p ≡ 0
unfolding block_number
number-none d p e = ap (λ b. cond b 0 (get_or d (512 * table_of d p + p % 512) 0)) (eq-eqb (table_of d p) 0 e)

-- with a table it has the one in its entry there
pub number-some : (d : List ℕ) (p : ℕ) → 0 < table_of d p → block_number d p ≡ get_or d (512 * table_of d p + p % 512) 0
unfolding block_number
number-some d p h = ap (λ b. cond b 0 (get_or d (512 * table_of d p + p % 512) 0)) (ne_eqb (table_of d p) 0 (λ e. absurd (omega arith)))

-- the number of a block by the table that it has
some-at : (d : List ℕ) (p l : ℕ) → table_of d p ≡ l → 0 < l → block_number d p ≡ get_or d (512 * l + p % 512) 0
some-at d p l e h = number-some d p (omega arith) ∙ ap (λ n. get_or d (512 * n + p % 512) 0) e

-- where no entry changes, no number does
pub number-kept : (d e : List ℕ) → ((k : ℕ) → get_or e k 0 ≡ get_or d k 0) → (p : ℕ) → block_number e p ≡ block_number d p
number-kept d e same p = go (none-or-some (table_of d p))
  where
    go : (table_of d p ≡ 0) ⊎ (0 < table_of d p) → block_number e p ≡ block_number d p
    go (inl z) = number-none e p (same (p / 512) ∙ z) ∙ sym (number-none d p z)
    go (inr h) = some-at e p (table_of d p) (same (p / 512)) h ∙ same (512 * table_of d p + p % 512) ∙ sym (number-some d p h)

-- a new table at the end, named by the entry k of the upper level, changes no number
pub number-table : (d g : List ℕ) (k l : ℕ) → IsBlocks d → l ≡ length d / 512 → ((j : ℕ) → get_or g j 0 ≡ get_or d j 0) → k < 512 → k < length g → get_or d k 0 ≡ 0
    → (p : ℕ) → p < 2 ^ 18 → block_number (set g k l) p ≡ block_number d p
number-table d g k l sound level same within inside none p h = at (none-or-some (table_of d p)) (is-it (p / 512) k)
  where
    -- an entry past the upper level is what it was
    beyond : (j : ℕ) → 512 ≤ j → get_or (set g k l) j 0 ≡ get_or d j 0
    beyond j b = get_or-set_other g k j l 0 (λ e. absurd (omega arith)) ∙ same j

    new : p / 512 ≡ k → block_number (set g k l) p ≡ 0
    new e = go (none-or-some l)
      where
        named : table_of (set g k l) p ≡ l
        named = ap (λ j. get_or (set g k l) j 0) e ∙ get_or-set_same g k l 0 inside

        go : (l ≡ 0) ⊎ (0 < l) → block_number (set g k l) p ≡ 0
        go (inl z) = number-none (set g k l) p (named ∙ z)
        go (inr b) =
            some-at (set g k l) p l named b ∙ beyond (512 * l + p % 512) (omega arith)
            ∙ get_or_past d (512 * l + p % 512) 0 (let whole = sound.whole in omega arith)

    at : (table_of d p ≡ 0) ⊎ (0 < table_of d p) → (p / 512 ≡ k) ⊎ (p / 512 ≢ k) → block_number (set g k l) p ≡ block_number d p
    at o (inl e) = new e ∙ sym (number-none d p (ap (λ j. get_or d j 0) e ∙ none))
    at (inl z) (inr n) = number-none (set g k l) p (get_or-set_other g k (p / 512) l 0 n ∙ same (p / 512) ∙ z) ∙ sym (number-none d p z)
    at (inr b) (inr n) =
        some-at (set g k l) p (table_of d p) (get_or-set_other g k (p / 512) l 0 n ∙ same (p / 512)) b
        ∙ beyond (512 * table_of d p + p % 512) (omega arith) ∙ sym (number-some d p b)

-- the entry of a block gives its number
pub number-entered : (d : List ℕ) (p n : ℕ) → IsBlocks d → p < 2 ^ 18 → 0 < table_of d p → block_number (set d (512 * table_of d p + p % 512) n) p ≡ n
number-entered d p n sound h made =
    let room : 512 * table_of d p + 512 ≤ length d = sound.there (p / 512) (omega arith) made in
    some-at (set d (512 * table_of d p + p % 512) n) p (table_of d p) (get_or-set_other d (512 * table_of d p + p % 512) (p / 512) n 0 (λ e. absurd (omega arith))) made
    ∙ get_or-set_same d (512 * table_of d p + p % 512) n 0 (omega arith)

-- and no other block's number
pub number-others : (d : List ℕ) (p n : ℕ) → IsBlocks d → p < 2 ^ 18 → 0 < table_of d p
    → (q : ℕ) → q < 2 ^ 18 → q ≢ p → block_number (set d (512 * table_of d p + p % 512) n) q ≡ block_number d q
number-others d p n sound h made q within other = go (none-or-some (table_of d q))
  where
    place : ℕ
    place = 512 * table_of d p + p % 512

    kept : table_of (set d place n) q ≡ table_of d q
    kept = get_or-set_other d place (q / 512) n 0 (λ e. absurd (omega arith))

    go : (table_of d q ≡ 0) ⊎ (0 < table_of d q) → block_number (set d place n) q ≡ block_number d q
    go (inl z) = number-none (set d place n) q (kept ∙ z) ∙ sym (number-none d q z)
    go (inr b) =
        some-at (set d place n) q (table_of d q) kept b
        ∙ get_or-set_other d place (512 * table_of d q + q % 512) n 0 (λ e. other (same-block (sound.apart (q / 512) (p / 512) (omega arith) (omega arith) b (omega arith)) e))
        ∙ sym (number-some d q b)
      where
        same-block : q / 512 ≡ p / 512 → 512 * table_of d q + q % 512 ≡ 512 * table_of d p + p % 512 → q ≡ p
        same-block e f = omega arith

-- what is read of a blocks that is not empty
read : (xs : List ℕ) (i x : ℕ) → i < length xs → x ≡ get_or xs i x → get_or xs i 0 ≡ x
read xs i x h e = get_or_default xs i 0 x h ∙ sym e

pub table-read : (d : List ℕ) (p l : ℕ) → IsBlocks d → p < 2 ^ 18 → 0 < length d → l ≡ get_or d (p / 512) l → table_of d p ≡ l
table-read d p l sound h some e = read d (p / 512) l (let whole = sound.whole in omega arith) e

pub number-read : (d : List ℕ) (p l n : ℕ) → IsBlocks d → p < 2 ^ 18 → 0 < length d → l ≡ get_or d (p / 512) l → l ≢ 0
    → n ≡ get_or d (512 * l + p % 512) n → block_number d p ≡ n
number-read d p l n sound h some e made f =
    let table : table_of d p ≡ l = table-read d p l sound h some e in
    let there : 512 * table_of d p + 512 ≤ length d = sound.there (p / 512) (omega arith) (omega arith) in
    some-at d p l table (omega arith) ∙ read d (512 * l + p % 512) n (omega arith) f

-- a blocks with a table is not empty
pub length-table : (d : List ℕ) (p : ℕ) → 0 < table_of d p → 0 < length d
length-table [] p h = absurd (omega (arith, get_or_past {X = ℕ} [] (p / 512) 0 (omega arith)))
length-table (x ∷ d) p h = omega arith

-- an empty blocks has no block
pub number-empty : (d : List ℕ) (p : ℕ) → length d ≡ 0 → block_number d p ≡ 0
number-empty d p e = number-none d p (get_or_past d (p / 512) 0 (omega arith))
