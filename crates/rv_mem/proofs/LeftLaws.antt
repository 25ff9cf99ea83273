-- What touches leave in a cell, touch by touch.
use Rattle.std.proofs.Common.{◌≡◌, ◌≢◌, ◌⊎◌, ℕ, ◌+◌, ◌<◌, Bool, true, false, cond, ◌==◌, List, [], ◌∷◌, ◌++◌, length, take, drop, get_or, Option, Some, None, option_map, unwrap_or, refl, sym, ◌∙◌, ap, inl, inr, append_assoc}
use Rattle.std.proofs.lemmas.Bool.{eq-eqb, ne_eqb}
use Rattle.std.proofs.lemmas.List.{take_more, drop_more}
use Rattle.std.specs.List.{AllByRecursion}
use Rattle.std.specs.Option.{option_or}
use Rattle.rv_base.specs.declared.record.Access.{Access}
use Rattle.rv_base.specs.declared.record.Touch.{Touch}
use Rattle.rv_spec.specs.Cells.{time_of}
use Rattle.rv_mem.specs.declared.word.Word.{Word}
use Rattle.rv_mem.specs.declared.words.Words.{Words}
use Rattle.rv_mem.specs.Left.{last_touch}
use Rattle.rv_mem.specs.Accesses.{access_of, accesses_of}
use Rattle.rv_mem.specs.StoredCells.{word_after, HasPage}
use Rattle.rv_mem.proofs.WordsLaws.{equal-or-not}

-- a further touch is the last one of its cell
pub last-snoc : (ts : List Touch) (t : Touch) (c : ℕ) → last_touch (ts ++ t ∷ []) c ≡ cond (t.cell == c) (Some t) (last_touch ts c)
last-snoc [] t c = refl
last-snoc (x ∷ xs) t c = ap (λ o. option_or o (cond (x.cell == c) (Some x) None)) (last-snoc xs t c) ∙ chosen (t.cell == c) (last_touch xs c) (cond (x.cell == c) (Some x) None)
  where
    chosen : (b : Bool) (o p : Option Touch) → option_or (cond b (Some t) o) p ≡ cond b (Some t) (option_or o p)
    chosen true o p = refl
    chosen false o p = refl

-- of a loop over touches
pub last-more : (ts : List Touch) (i c : ℕ) (d : Touch) → i < length ts → last_touch (take (i + 1) ts) c ≡ cond ((get_or ts i d).cell == c) (Some (get_or ts i d)) (last_touch (take i ts) c)
last-more ts i c d h = ap (λ (l : List Touch). last_touch l c) (take_more ts i d h) ∙ last-snoc (take i ts) (get_or ts i d) c

abbrev touched_word : ℕ → Touch → Word
touched_word step t = record { value = t.new; time = time_of step t.slot }

after-more : (step : ℕ) (ts : List Touch) (i c : ℕ) (d : Touch) (w old new : Word) → i < length ts → old ≡ word_after step (take i ts) c w
    → (c ≡ (get_or ts i d).cell → new ≡ touched_word step (get_or ts i d)) → (c ≢ (get_or ts i d).cell → new ≡ old) → new ≡ word_after step (take (i + 1) ts) c w
after-more step ts i c d w old new h before here other = by (equal-or-not c (get_or ts i d).cell)
  where
    after : Option Touch → Word
    after o = record { value = unwrap_or (option_map (λ (t : Touch). t.new) o) w.value; time = unwrap_or (option_map (λ (t : Touch). time_of step t.slot) o) w.time }

    more : (b : Bool) → ((get_or ts i d).cell == c) ≡ b → after (cond b (Some (get_or ts i d)) (last_touch (take i ts) c)) ≡ word_after step (take (i + 1) ts) c w
    more b e = sym (ap after (last-more ts i c d h ∙ ap (λ b. cond b (Some (get_or ts i d)) (last_touch (take i ts) c)) e))

    by : (c ≡ (get_or ts i d).cell) ⊎ (c ≢ (get_or ts i d).cell) → new ≡ word_after step (take (i + 1) ts) c w
    by (inl e) = here e ∙ more true (eq-eqb (get_or ts i d).cell c (sym e))
    by (inr n) = other n ∙ before ∙ more false (ne_eqb (get_or ts i d).cell c (λ e. n (sym e)))

-- of all cells, where the cell of the touch gets what it leaves
pub left-more : (step : ℕ) (ts : List Touch) (i : ℕ) (d : Touch) (first before after : ℕ → Word) → i < length ts
    → ((c : ℕ) → c < 1073741857 → before c ≡ word_after step (take i ts) c (first c))
    → after (get_or ts i d).cell ≡ touched_word step (get_or ts i d)
    → ((c : ℕ) → c < 1073741857 → c ≢ (get_or ts i d).cell → after c ≡ before c)
    → (c : ℕ) → c < 1073741857 → after c ≡ word_after step (take (i + 1) ts) c (first c)
left-more step ts i d first before after h left set others c within =
    after-more step ts i c d (first c) (before c) (after c) h (left c within) (λ same. ap after same ∙ set) (others c within)

-- the pages of touched cells stay
pub still-made : (m n : Words) (ts : List Touch) → ((c : ℕ) → HasPage m c → HasPage n c) → AllByRecursion (λ t. HasPage m t.cell) ts → AllByRecursion (λ t. HasPage n t.cell) ts
still-made m n [] kept made = tt
still-made m n (t ∷ ts) kept made = (kept t.cell made.0, still-made m n ts kept made.1)

-- one access more
pub accesses-more : (values times : ℕ → ℕ) (step : ℕ) (ts : List Touch) (i : ℕ) (d : Touch) (before all : List Access) (a : Access) → i < length ts → a ≡ access_of values times step (take i ts) (get_or ts i d)
    → before ++ accesses_of values times step (take i ts) (drop i ts) ≡ all → (before ++ a ∷ []) ++ accesses_of values times step (take (i + 1) ts) (drop (i + 1) ts) ≡ all
accesses-more values times step ts i d before all a h is are =
    append_assoc before (a ∷ []) (accesses_of values times step (take (i + 1) ts) (drop (i + 1) ts))
    ∙ (λ t. before ++ is t ∷ accesses_of values times step (take_more ts i d h t) (drop (i + 1) ts))
    ∙ ap (λ (l : List Touch). before ++ accesses_of values times step (take i ts) l) (sym (drop_more ts i d h)) ∙ are
