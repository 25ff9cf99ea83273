-- What the directory says of the pages' numbers, before and after a change.
use Rattle.std.proofs.Common.{◌≡◌, ◌≢◌, ◌⊎◌, ℕ, zero, suc, ◌+◌, ◌-◌, ◌*◌, ◌/◌, ◌%◌, ◌^◌, ◌<◌, ◌≤◌, cond, List, length, set, get_or, refl, sym, ◌∙◌, ap, inl, inr, arith, get_or-set_other, get_or-set_same}
use Rattle.std.proofs.lemmas.Bool.{eq-eqb, ne_eqb}
use Rattle.std.proofs.lemmas.List.{get_or_past, get_or_default}
use Rattle.rv_mem.specs.Blocks.{block_number}
use Rattle.rv_mem.specs.Directory.{IsDirectory, number_in}
use Rattle.rv_mem.proofs.BlocksLaws.{is-it}

-- a page in a block without a leaf has no number
pub number-none : (d l : List ℕ) (p : ℕ) → block_number d (p / 256) ≡ 0 → number_in d l p ≡ 0
unfolding number_in
number-none d l p e = ap (λ b. cond b 0 (get_or l (256 * (block_number d (p / 256) - 1) + p % 256) 0)) (eq-eqb (block_number d (p / 256)) 0 e)

-- and with a leaf it has the one in its entry there
some-at : (d l : List ℕ) (p n : ℕ) → block_number d (p / 256) ≡ n + 1 → number_in d l p ≡ get_or l (256 * n + p % 256) 0
unfolding number_in
some-at d l p n e =
    ap (λ b. cond b 0 (get_or l (256 * (block_number d (p / 256) - 1) + p % 256) 0)) (ne_eqb (block_number d (p / 256)) 0 (λ z. absurd (omega arith)))
    ∙ ap (λ n. get_or l (256 * n + p % 256) 0) (let k : block_number d (p / 256) - 1 ≡ n = omega arith in k)

zero-or-next : (n : ℕ) → (n ≡ 0) ⊎ ((k : ℕ) × (n ≡ k + 1))
zero-or-next zero = inl refl
zero-or-next (suc n) = inr (n, omega arith)

-- where no entry changes, and no leaf's number, no page's number does
pub number-same : (d e l m : List ℕ) → ((b : ℕ) → b < 2 ^ 18 → block_number e b ≡ block_number d b) → ((k : ℕ) → get_or m k 0 ≡ get_or l k 0) → (p : ℕ) → p < 2 ^ 26 → number_in e m p ≡ number_in d l p
number-same d e l m blocks same p low = go (zero-or-next (block_number d (p / 256)))
  where
    go : (block_number d (p / 256) ≡ 0) ⊎ ((k : ℕ) × (block_number d (p / 256) ≡ k + 1)) → number_in e m p ≡ number_in d l p
    go (inl z) = number-none e m p (blocks (p / 256) (omega arith) ∙ z) ∙ sym (number-none d l p z)
    go (inr (k, f)) = some-at e m p k (blocks (p / 256) (omega arith) ∙ f) ∙ same (256 * k + p % 256) ∙ sym (some-at d l p k f)

-- a new leaf at the end, of a block without one, changes no number
pub number-leaf : (d e l m : List ℕ) (b n : ℕ) → IsDirectory d l → n ≡ length l / 256 + 1 → block_number d b ≡ 0 → block_number e b ≡ n → ((c : ℕ) → c < 2 ^ 18 → c ≢ b → block_number e c ≡ block_number d c)
    → ((k : ℕ) → get_or m k 0 ≡ get_or l k 0) → (p : ℕ) → p < 2 ^ 26 → number_in e m p ≡ number_in d l p
number-leaf d e l m b n sound level absent made others same p low = at (is-it (p / 256) b) (zero-or-next (block_number d (p / 256)))
  where
    at : (p / 256 ≡ b) ⊎ (p / 256 ≢ b) → (block_number d (p / 256) ≡ 0) ⊎ ((k : ℕ) × (block_number d (p / 256) ≡ k + 1)) → number_in e m p ≡ number_in d l p
    at (inl new) o =
        some-at e m p (length l / 256) (ap (block_number e) new ∙ made ∙ level) ∙ same (256 * (length l / 256) + p % 256)
        ∙ get_or_past l (256 * (length l / 256) + p % 256) 0 (let whole = sound.whole in omega arith)
        ∙ sym (number-none d l p (ap (block_number d) new ∙ absent))
    at (inr old) (inl z) = number-none e m p (others (p / 256) (omega arith) old ∙ z) ∙ sym (number-none d l p z)
    at (inr old) (inr (k, f)) = some-at e m p k (others (p / 256) (omega arith) old ∙ f) ∙ same (256 * k + p % 256) ∙ sym (some-at d l p k f)

-- the entry of a page gives its number
pub number-entered : (d l : List ℕ) (p leaf n : ℕ) → IsDirectory d l → p < 2 ^ 26 → block_number d (p / 256) ≡ leaf + 1 → number_in d (set l (256 * leaf + p % 256) n) p ≡ n
number-entered d l p leaf n sound h made =
    let room : 256 * block_number d (p / 256) ≤ length l = sound.there (p / 256) (omega arith) in
    some-at d (set l (256 * leaf + p % 256) n) p leaf made ∙ get_or-set_same l (256 * leaf + p % 256) n 0 (omega arith)

-- and no other page's number
pub number-others : (d l : List ℕ) (p leaf n : ℕ) → IsDirectory d l → p < 2 ^ 26 → block_number d (p / 256) ≡ leaf + 1
    → (q : ℕ) → q < 2 ^ 26 → q ≢ p → number_in d (set l (256 * leaf + p % 256) n) q ≡ number_in d l q
number-others d l p leaf n sound h made q within other = go (zero-or-next (block_number d (q / 256)))
  where
    go : (block_number d (q / 256) ≡ 0) ⊎ ((k : ℕ) × (block_number d (q / 256) ≡ k + 1)) → number_in d (set l (256 * leaf + p % 256) n) q ≡ number_in d l q
    go (inl z) = number-none d (set l (256 * leaf + p % 256) n) q z ∙ sym (number-none d l q z)
    go (inr (k, f)) =
        some-at d (set l (256 * leaf + p % 256) n) q k f
        ∙ get_or-set_other l (256 * leaf + p % 256) (256 * k + q % 256) n 0 (λ e. other (same-page e (sound.apart (q / 256) (p / 256) (omega arith) (omega arith) (omega arith))))
        ∙ sym (some-at d l q k f)
      where
        same-page : 256 * k + q % 256 ≡ 256 * leaf + p % 256 → (block_number d (q / 256) ≡ block_number d (p / 256) → q / 256 ≡ p / 256) → q ≡ p
        same-page e apart = (let one : q / 256 ≡ p / 256 = apart (omega arith) in omega arith)

-- what is read in a leaf
pub number-read : (d l : List ℕ) (p leaf n : ℕ) → IsDirectory d l → p < 2 ^ 26 → block_number d (p / 256) ≡ leaf + 1 → n ≡ get_or l (256 * leaf + p % 256) n → number_in d l p ≡ n
number-read d l p leaf n sound h made e =
    let room : 256 * block_number d (p / 256) ≤ length l = sound.there (p / 256) (omega arith) in
    some-at d l p leaf made ∙ get_or_default l (256 * leaf + p % 256) 0 n (omega arith) ∙ sym e
