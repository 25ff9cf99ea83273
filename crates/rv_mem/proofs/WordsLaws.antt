-- What the words of memory are, before and after a change of the pages.
use Rattle.std.proofs.Common.{◌≡◌, ◌≢◌, ◌⊎◌, ℕ, zero, suc, ◌+◌, ◌-◌, ◌*◌, ◌/◌, ◌%◌, ◌^◌, ◌<◌, ◌≤◌, Bool, true, false, cond, ◌==◌, List, [], ◌∷◌, ◌++◌, length, set, get_or, refl, sym, ◌∙◌, ap, inl, inr, arith, get_or-set_other, get_or-set_same, below_more, append-nil, IsTrue, true≢false}
use Rattle.std.proofs.lemmas.Bool.{eq-eqb, ne_eqb, eqb-true, eqb-false, lt-ltb}
use Rattle.std.proofs.lemmas.List.{get_or_default, get_or_append_left}
use Rattle.std.proofs.Math.Seq.{get_or-append_seam}
use Rattle.rv_spec.specs.Elf.{Image}
use Rattle.rv_spec.specs.Words.{word}
use Rattle.rv_spec.specs.Step.{start, register}
use Rattle.rv_spec.specs.Cells.{value, initial_value, reservation_cell}
use Rattle.rv_mem.specs.declared.word.Word.{Word}
use Rattle.rv_mem.specs.declared.page.Page.{Page}
use Rattle.rv_mem.specs.declared.directory.Directory.{Directory}
use Rattle.rv_mem.specs.Blocks.{block_number}
use Rattle.rv_mem.specs.Paged.{page_number}
use Rattle.rv_mem.specs.Used.{no_word, used, listed_word}
use Rattle.rv_mem.specs.Words.{paged_word, word_in, first_word, no_page, ArePages}
use Rattle.rv_mem.proofs.BlocksLaws as tables
use Rattle.rv_mem.proofs.DirectoryLaws.{number-none}
use Rattle.rv_mem.proofs.UsedLaws.{used-same, used-none, used-add}

zero-or-next : (n : ℕ) → (n ≡ 0) ⊎ ((k : ℕ) × (n ≡ k + 1))
zero-or-next zero = inl refl
zero-or-next (suc n) = inr (n, omega arith)

pub equal-or-not : (a b : ℕ) → (a ≡ b) ⊎ (a ≢ b)
equal-or-not a b = elim (a == b) as (λ c. (a == b) ≡ c → (a ≡ b) ⊎ (a ≢ b)) [ true ↦ λ e. inl (eqb-true a b e) | false ↦ λ e. inr (eqb-false a b e) ] refl

-- a word without a page is that of the image
pub word-none : (i : Image) (d : Directory) (pages : List Page) (w : ℕ) → page_number d (w / 16) ≡ 0 → paged_word i d pages w ≡ first_word i w
unfolding paged_word
word-none i d pages w e = ap (λ b. cond b (first_word i w) (word_in pages (page_number d (w / 16)) w)) (eq-eqb (page_number d (w / 16)) 0 e)

-- and with a page it stands there
pub word-some : (i : Image) (d : Directory) (pages : List Page) (w index : ℕ) → page_number d (w / 16) ≡ index + 1 → paged_word i d pages w ≡ get_or (get_or pages index no_page).words (w % 16) no_word
unfolding paged_word
word-some i d pages w index e =
    ap (λ b. cond b (first_word i w) (word_in pages (page_number d (w / 16)) w)) (ne_eqb (page_number d (w / 16)) 0 (λ z. absurd (omega arith)))
    ∙ ap (λ n. get_or (get_or pages n no_page).words (w % 16) no_word) (let k : page_number d (w / 16) - 1 ≡ index = omega arith in k)

pub word-read : (i : Image) (d : Directory) (pages : List Page) (w index : ℕ) (page : Page) → page_number d (w / 16) ≡ index + 1 → index < length pages
    → page ≡ get_or pages index page → paged_word i d pages w ≡ get_or page.words (w % 16) no_word
word-read i d pages w index page e h f =
    word-some i d pages w index e ∙ ap (λ (p : Page). get_or p.words (w % 16) no_word) (get_or_default pages index no_page page h ∙ sym f)

-- where no page's number changes, no word does
pub word-kept : (i : Image) (d e : Directory) (pages : List Page) → ((p : ℕ) → p < 2 ^ 26 → page_number e p ≡ page_number d p) → (w : ℕ) → w < 2 ^ 30 → paged_word i e pages w ≡ paged_word i d pages w
unfolding paged_word
word-kept i d e pages same w h = ap (λ n. cond (n == 0) (first_word i w) (word_in pages n w)) (same (w / 16) (omega arith))

-- a page with the words of the image, at the end and with its number, changes no word
pub word-added : (i : Image) (d e : Directory) (pages : List Page) (p : ℕ) (page : Page) → ArePages d pages
    → page_number d p ≡ 0 → page_number e p ≡ length pages + 1 → ((q : ℕ) → q < 2 ^ 26 → q ≢ p → page_number e q ≡ page_number d q)
    → ((k : ℕ) → k < 16 → get_or page.words k no_word ≡ first_word i (16 * p + k))
    → (w : ℕ) → w < 2 ^ 30 → paged_word i e (pages ++ page ∷ []) w ≡ paged_word i d pages w
word-added i d e pages p page sound absent made same begun w h = by (equal-or-not (w / 16) p)
  where
    new : w / 16 ≡ p → paged_word i e (pages ++ page ∷ []) w ≡ paged_word i d pages w
    new at =
        word-some i e (pages ++ page ∷ []) w (length pages) (ap (page_number e) at ∙ made)
        ∙ ap (λ (q : Page). get_or q.words (w % 16) no_word) (get_or-append_seam pages page [] no_page)
        ∙ begun (w % 16) (omega arith)
        ∙ ap (first_word i) (let k : 16 * p + w % 16 ≡ w = omega arith in k)
        ∙ sym (word-none i d pages w (ap (page_number d) at ∙ absent))

    old : w / 16 ≢ p → (page_number d (w / 16) ≡ 0) ⊎ ((k : ℕ) × (page_number d (w / 16) ≡ k + 1)) → paged_word i e (pages ++ page ∷ []) w ≡ paged_word i d pages w
    old n (inl z) = word-none i e (pages ++ page ∷ []) w (same (w / 16) (omega arith) n ∙ z) ∙ sym (word-none i d pages w z)
    old n (inr (k, f)) =
        word-some i e (pages ++ page ∷ []) w k (same (w / 16) (omega arith) n ∙ f)
        ∙ ap (λ (q : Page). get_or q.words (w % 16) no_word) (get_or_append_left pages (page ∷ []) no_page k (let there : page_number d (w / 16) ≤ length pages = sound.there (w / 16) (omega arith) in omega arith))
        ∙ sym (word-some i d pages w k f)

    by : (w / 16 ≡ p) ⊎ (w / 16 ≢ p) → paged_word i e (pages ++ page ∷ []) w ≡ paged_word i d pages w
    by (inl at) = new at
    by (inr n) = old n (zero-or-next (page_number d (w / 16)))

-- a word that is set in its page
pub word-set : (i : Image) (d : Directory) (pages : List Page) (w index : ℕ) (word : Word) (page changed : Page) → page_number d (w / 16) ≡ index + 1 → index < length pages
    → changed.words ≡ set page.words (w % 16) word → paged_word i d (set pages index changed) w ≡ word
word-set i d pages w index word page changed e h is =
    let full : length page.words ≡ 16 = page.full in
    word-some i d (set pages index changed) w index e
    ∙ ap (λ (q : Page). get_or q.words (w % 16) no_word) (get_or-set_same pages index changed no_page h)
    ∙ ap (λ l. get_or l (w % 16) no_word) is
    ∙ get_or-set_same page.words (w % 16) word no_word (omega arith)

-- and no other word
pub word-others : (i : Image) (d : Directory) (pages : List Page) (w index : ℕ) (word : Word) (page changed : Page) → ArePages d pages → w < 2 ^ 30 → page_number d (w / 16) ≡ index + 1
    → index < length pages → page ≡ get_or pages index page → changed.words ≡ set page.words (w % 16) word
    → (v : ℕ) → v < 2 ^ 30 → v ≢ w → paged_word i d (set pages index changed) v ≡ paged_word i d pages v
word-others i d pages w index word page changed sound low e h f is v within other = by (equal-or-not (v / 16) (w / 16)) (zero-or-next (page_number d (v / 16)))
  where
    by : (v / 16 ≡ w / 16) ⊎ (v / 16 ≢ w / 16) → (page_number d (v / 16) ≡ 0) ⊎ ((k : ℕ) × (page_number d (v / 16) ≡ k + 1)) → paged_word i d (set pages index changed) v ≡ paged_word i d pages v
    by (inl at) o =
        word-some i d (set pages index changed) v index (ap (page_number d) at ∙ e)
        ∙ ap (λ (q : Page). get_or q.words (v % 16) no_word) (get_or-set_same pages index changed no_page h)
        ∙ ap (λ l. get_or l (v % 16) no_word) is
        ∙ get_or-set_other page.words (w % 16) (v % 16) word no_word (λ same. other (omega arith))
        ∙ sym (word-read i d pages v index page (ap (page_number d) at ∙ e) h f)
    by (inr n) (inl z) = word-none i d (set pages index changed) v z ∙ sym (word-none i d pages v z)
    by (inr n) (inr (k, g)) =
        word-some i d (set pages index changed) v k g
        ∙ ap (λ (q : Page). get_or q.words (v % 16) no_word) (get_or-set_other pages index k changed no_page (λ same. n (sound.apart (v / 16) (w / 16) (omega arith) (omega arith) (omega arith) (omega arith))))
        ∙ sym (word-some i d pages v k g)

-- ---- the used words of a page, of a page that was not made, and of a leaf that was not made

sixteenth : (p k : ℕ) → k < 16 → ((16 * p + k) / 16 ≡ p) × ((16 * p + k) % 16 ≡ k)
sixteenth p k h = (omega arith, omega arith)

pub used-page : (i : Image) (d : Directory) (pages : List Page) (p index : ℕ) (page : Page) → page_number d p ≡ index + 1 → index < length pages → page ≡ get_or pages index page
    → used (listed_word page.words (16 * p)) (16 * p) 16 ≡ used (paged_word i d pages) (16 * p) 16
used-page i d pages p index page e h f = used-same (listed_word page.words (16 * p)) (paged_word i d pages) (16 * p) 16 (λ k within.
    let at = sixteenth p k within in
    ap (λ j. get_or page.words j no_word) (let j : 16 * p + k - 16 * p ≡ (16 * p + k) % 16 = omega arith in j)
    ∙ sym (word-read i d pages (16 * p + k) index page (ap (page_number d) at.0 ∙ e) h f))

pub used-no_page : (i : Image) (d : Directory) (pages : List Page) (p : ℕ) → page_number d p ≡ 0 → used (paged_word i d pages) (16 * p) 16 ≡ []
used-no_page i d pages p e = used-none (paged_word i d pages) (16 * p) 16 (λ k within.
    let none = word-none i d pages (16 * p + k) (ap (page_number d) (sixteenth p k within).0 ∙ e) in
    ap (λ (v : Word). v.time) none)

-- a block of pages has 4096 words, and a table of the directory has 512 blocks
pub used-no_leaf : (i : Image) (d : Directory) (pages : List Page) (block : ℕ) → block_number d.levels.blocks.entries.items block ≡ 0 → used (paged_word i d pages) (4096 * block) 4096 ≡ []
used-no_leaf i d pages block e = used-none (paged_word i d pages) (4096 * block) 4096 (λ k within.
    let at : (4096 * block + k) / 16 / 256 ≡ block = omega arith in
    let none = word-none i d pages (4096 * block + k) (number-none d.levels.blocks.entries.items d.levels.leaves.items ((4096 * block + k) / 16) (ap (block_number d.levels.blocks.entries.items) at ∙ e)) in
    ap (λ (v : Word). v.time) none)

pub used-no_table : (i : Image) (d : Directory) (pages : List Page) (table : ℕ) → get_or d.levels.blocks.entries.items table 0 ≡ 0 → used (paged_word i d pages) (2097152 * table) 2097152 ≡ []
used-no_table i d pages table e = used-none (paged_word i d pages) (2097152 * table) 2097152 (λ k within.
    let at : (2097152 * table + k) / 16 / 256 / 512 ≡ table = omega arith in
    let none = word-none i d pages (2097152 * table + k)
    (number-none d.levels.blocks.entries.items d.levels.leaves.items ((2097152 * table + k) / 16) (tables.number-none d.levels.blocks.entries.items ((2097152 * table + k) / 16 / 256) (ap (λ j. get_or d.levels.blocks.entries.items j 0) at ∙ e))) in
    ap (λ (v : Word). v.time) none)

-- a word of the image, before any step
pub first-is : (i : Image) (w v : ℕ) → w < 2 ^ 30 → v ≡ word (record { blocks = i.blocks; written = [] }) w → record { value = v; time = 0 } ≡ first_word i w
unfolding value
first-is i w v h e =
    let at : initial_value i w ≡ word (record { blocks = i.blocks; written = [] }) w = ap (λ b. cond b (word (start i).memory w) (cond (w == reservation_cell) (start i).reservation (register (start i) (w - 2 ^ 30)))) (lt-ltb w (2 ^ 30) h) in
    ap first (e ∙ sym at)
  where
    first : ℕ → Word
    first n = record { value = n; time = 0 }

-- one more word of a page
pub next-first : (words : List Word) (i : Image) (p k v : ℕ) → k < 16 → length words ≡ 16 → p < 2 ^ 26 → v ≡ word (record { blocks = i.blocks; written = [] }) (16 * p + k)
    → ((j : ℕ) → j < k → get_or words j no_word ≡ first_word i (16 * p + j)) → (j : ℕ) → j < k + 1 → get_or (set words k (record { value = v; time = 0 })) j no_word ≡ first_word i (16 * p + j)
next-first words i p k v h full low e before =
    below_more _ k
    (λ j within. get_or-set_other words k j (record { value = v; time = 0 }) no_word (λ same. absurd (omega arith)) ∙ before j within)
    (get_or-set_same words k (record { value = v; time = 0 }) no_word (omega arith) ∙ first-is i (16 * p + k) v (omega arith) e)

-- ---- one more page, block or table

-- the used ones of one more stretch of words
next-stretch : (f : ℕ → Word) (from size k : ℕ) → used f from (size * (k + 1)) ≡ used f from (size * k) ++ used f (from + size * k) size
next-stretch f from size k = ap (used f from) (let e : size * (k + 1) ≡ size * k + size = omega arith in e) ∙ used-add f from (size * k) size

-- and of one without any
no-stretch : (f : ℕ → Word) (from size k : ℕ) → used f (from + size * k) size ≡ [] → used f from (size * (k + 1)) ≡ used f from (size * k)
no-stretch f from size k none = next-stretch f from size k ∙ ap (λ l. used f from (size * k) ++ l) none ∙ append-nil (used f from (size * k))

pub next-page : (i : Image) (d : Directory) (pages : List Page) (block place index : ℕ) (page : Page) → page_number d (256 * block + place) ≡ index + 1 → index < length pages → page ≡ get_or pages index page
    → used (paged_word i d pages) (4096 * block) (16 * (place + 1))
    ≡ used (paged_word i d pages) (4096 * block) (16 * place) ++ used (listed_word page.words (16 * (256 * block + place))) (16 * (256 * block + place)) (length page.words)
next-page i d pages block place index page e h f =
    let p : ℕ = 256 * block + place in
    next-stretch (paged_word i d pages) (4096 * block) 16 place
    ∙ ap (λ l. used (paged_word i d pages) (4096 * block) (16 * place) ++ l)
    (ap (λ k. used (paged_word i d pages) k 16) (let k : 4096 * block + 16 * place ≡ 16 * p = omega arith in k)
    ∙ sym (used-page i d pages p index page e h f) ∙ ap (used (listed_word page.words (16 * p)) (16 * p)) (sym page.full))

pub next-no_page : (i : Image) (d : Directory) (pages : List Page) (block place : ℕ) → page_number d (256 * block + place) ≡ 0
    → used (paged_word i d pages) (4096 * block) (16 * (place + 1)) ≡ used (paged_word i d pages) (4096 * block) (16 * place)
next-no_page i d pages block place e =
    no-stretch (paged_word i d pages) (4096 * block) 16 place
    (ap (λ k. used (paged_word i d pages) k 16) (let k : 4096 * block + 16 * place ≡ 16 * (256 * block + place) = omega arith in k) ∙ used-no_page i d pages (256 * block + place) e)

pub next-block : (f : ℕ → Word) (table place : ℕ) → used f (2097152 * table) (4096 * (place + 1)) ≡ used f (2097152 * table) (4096 * place) ++ used f (4096 * (512 * table + place)) 4096
next-block f table place =
    next-stretch f (2097152 * table) 4096 place
    ∙ ap (λ k. used f (2097152 * table) (4096 * place) ++ used f k 4096) (let k : 2097152 * table + 4096 * place ≡ 4096 * (512 * table + place) = omega arith in k)

pub next-no_block : (i : Image) (d : Directory) (pages : List Page) (table place : ℕ) → block_number d.levels.blocks.entries.items (512 * table + place) ≡ 0
    → used (paged_word i d pages) (2097152 * table) (4096 * (place + 1)) ≡ used (paged_word i d pages) (2097152 * table) (4096 * place)
next-no_block i d pages table place e =
    no-stretch (paged_word i d pages) (2097152 * table) 4096 place
    (ap (λ k. used (paged_word i d pages) k 4096) (let k : 2097152 * table + 4096 * place ≡ 4096 * (512 * table + place) = omega arith in k) ∙ used-no_leaf i d pages (512 * table + place) e)

pub next-table : (f : ℕ → Word) (table : ℕ) → used f 0 (2097152 * (table + 1)) ≡ used f 0 (2097152 * table) ++ used f (2097152 * table) 2097152
next-table f table = next-stretch f 0 2097152 table ∙ ap (λ k. used f 0 (2097152 * table) ++ used f k 2097152) (let k : 0 + 2097152 * table ≡ 2097152 * table = omega arith in k)

pub next-no_table : (i : Image) (d : Directory) (pages : List Page) (table : ℕ) (made : Bool) → made ≡ false → (0 < get_or d.levels.blocks.entries.items table 0 → IsTrue made)
    → used (paged_word i d pages) 0 (2097152 * (table + 1)) ≡ used (paged_word i d pages) 0 (2097152 * table)
next-no_table i d pages table made e told =
    no-stretch (paged_word i d pages) 0 2097152 table
    (ap (λ k. used (paged_word i d pages) k 2097152) (let k : 0 + 2097152 * table ≡ 2097152 * table = omega arith in k)
    ∙ used-no_table i d pages table (no-number made e (get_or d.levels.blocks.entries.items table 0) told))
  where
    no-number : (b : Bool) → b ≡ false → (n : ℕ) → (0 < n → IsTrue b) → n ≡ 0
    no-number true f n h = absurd (true≢false f)
    no-number false f zero h = refl
    no-number false f (suc n) h = absurd (true≢false (sym (h (omega arith))))
