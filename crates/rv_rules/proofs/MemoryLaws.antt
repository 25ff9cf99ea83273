-- What memory holds after a store, and how its bytes lie in its words.
use Rattle.std.proofs.Common.{◌≡◌, ◌⊎◌, ℕ, zero, suc, ◌+◌, ◌*◌, ◌/◌, ◌%◌, ◌^◌, ◌<◌, ◌≤◌, Bool, true, false, cond, ◌==◌, nat_lt, List, [], ◌∷◌, length, set, take, drop, ◌++◌, slice_index, Option, Some, unwrap_or, refl, sym, ◌∙◌, ap, arith, Less, Equal, Greater, nat_cmp, is_eq, inl, inr, add-zero, append-nil, take-append-drop, drop-set-lt, length-set, ap₂}
use Rattle.std.specs.BTreeMap.{insert_entry, is_at}
use Rattle.std.specs.Int.{w16, w32, from_le_bytes, to_le_bytes, cast_unsigned}
use Rattle.rv_base.specs.declared.instr.LoadKind.{LoadKind}
use Rattle.rv_base.specs.declared.instr.LoadKind.TheVariants as loads
use Rattle.rv_spec.specs.Step.{load_width, load_value}
use Rattle.rv_rules.specs.Expected.{extract, splice}
use Rattle.std.specs.Map.{lookup}
use Rattle.std.specs.Ordering.{match_ordering}
use Rattle.std.proofs.lemmas.Bool.{eqb-true, eqb-false, ne_eqb, eq-eqb, ltb-true}
use Rattle.rv_spec.specs.Words.{Memory, block_byte, byte, store_bytes, bytes_from, word, sign_extend}

-- the comparison of numbers ties where they are equal
ties : (x k : ℕ) → is_eq (nat_cmp x k) ≡ (x == k)
ties x k = elim (nat_lt x k) as (λ b. nat_lt x k ≡ b → is_eq (cond b Less (cond (x == k) Equal Greater)) ≡ (x == k)) [
  | true ↦ λ e. sym (ne_eqb x k (λ same. (let less : x < k = ltb-true x k e in absurd (omega arith))))
  | false ↦ λ e. elim (x == k) as (λ c. is_eq (cond c Equal Greater) ≡ c) [ true ↦ refl | false ↦ refl ]
] refl

abbrev found : ℕ → List (ℕ × ℕ) → Option ℕ
found x es = lookup (is_at (nat_cmp x)) es

head-is : (x : ℕ) (e : ℕ × ℕ) (es : List (ℕ × ℕ)) → found x (e ∷ es) ≡ cond (x == e.0) (Some e.1) (found x es)
head-is x e es = ap (λ b. cond b (Some e.1) (found x es)) (ties x e.0)

swapped : {A : Type 0} (p q : Bool) (x y z : A) → (p ≡ true → q ≡ true → ⊥) → cond p x (cond q y z) ≡ cond q y (cond p x z)
swapped true true x y z h = absurd (h refl refl)
swapped true false x y z h = refl
swapped false q x y z h = refl

-- a key that is inserted has its value, and each other key keeps its own
pub found-insert : (es : List (ℕ × ℕ)) (a b x : ℕ) → found x (insert_entry nat_cmp es a b) ≡ cond (x == a) (Some b) (found x es)
found-insert [] a b x = head-is x (a, b) []
found-insert (e ∷ es) a b x =
    elim (nat_lt a e.0) as (λ l. nat_lt a e.0 ≡ l → found x (match_ordering (cond l Less (cond (a == e.0) Equal Greater)) ((a, b) ∷ e ∷ es) ((e.0, b) ∷ es) (e ∷ insert_entry nat_cmp es a b)) ≡ cond (x == a) (Some b) (found x (e ∷ es))) [
      | true ↦ λ less. head-is x (a, b) (e ∷ es)
      | false ↦ λ less.
          elim (a == e.0) as (λ q. (a == e.0) ≡ q → found x (match_ordering (cond q Equal Greater) ((a, b) ∷ e ∷ es) ((e.0, b) ∷ es) (e ∷ insert_entry nat_cmp es a b)) ≡ cond (x == a) (Some b) (found x (e ∷ es))) [
            | true ↦ λ same.
                let key : e.0 ≡ a = sym (eqb-true a e.0 same) in
                head-is x (e.0, b) es ∙ ap (λ k. cond (x == k) (Some b) (found x es)) key
                ∙ repeated (x == a) (Some b) (Some e.1) (found x es)
                ∙ ap (λ k. cond (x == a) (Some b) (cond (x == k) (Some e.1) (found x es))) (sym key)
                ∙ ap (cond (x == a) (Some b)) (sym (head-is x e es))
            | false ↦ λ other.
                head-is x e (insert_entry nat_cmp es a b) ∙ ap (cond (x == e.0) (Some e.1)) (found-insert es a b x)
                ∙ swapped (x == e.0) (x == a) (Some e.1) (Some b) (found x es) (λ p q. eqb-false a e.0 other (sym (eqb-true x a q) ∙ eqb-true x e.0 p))
                ∙ ap (cond (x == a) (Some b)) (sym (head-is x e es))
          ] refl
    ] refl
  where
    repeated : (p : Bool) (u v w : Option ℕ) → cond p u w ≡ cond p u (cond p v w)
    repeated true u v w = refl
    repeated false u v w = refl

-- the byte at an address after one byte is stored
pub byte-one : (m : Memory) (a b x : ℕ) → byte (record m { written = insert_entry nat_cmp m.written a b }) x ≡ cond (x == a) b (byte m x)
unfolding byte
byte-one m a b x = ap (λ o. unwrap_or o (block_byte m.blocks x)) (found-insert m.written a b x) ∙ pushed (x == a) b (found x m.written) (block_byte m.blocks x)
  where
    pushed : (p : Bool) (b : ℕ) (o : Option ℕ) (d : ℕ) → unwrap_or (cond p (Some b) o) d ≡ cond p b (unwrap_or o d)
    pushed true b o d = refl
    pushed false b o d = refl

-- an address that no byte of a store reaches keeps its byte
pub byte-outside : (m : Memory) (a : ℕ) (bs : List ℕ) (x : ℕ) → (x < a) ⊎ (a + length bs ≤ x) → byte (store_bytes m a bs) x ≡ byte m x
unfolding store_bytes
byte-outside m a [] x h = refl
byte-outside m a (b ∷ bs) x h =
    byte-outside (record m { written = insert_entry nat_cmp m.written a b }) (a + 1) bs x (later h)
    ∙ byte-one m a b x ∙ ap (λ p. cond p b (byte m x)) (ne_eqb x a (apart h))
  where
    later : (x < a) ⊎ (a + length (b ∷ bs) ≤ x) → (x < a + 1) ⊎ (a + 1 + length bs ≤ x)
    later (inl l) = inl (omega arith)
    later (inr r) = inr (omega arith)

    apart : (x < a) ⊎ (a + length (b ∷ bs) ≤ x) → x ≡ a → ⊥
    apart (inl l) e = omega arith
    apart (inr r) e = omega arith

-- an address within a store has the byte that was stored there
pub byte-inside : (m : Memory) (a : ℕ) (bs : List ℕ) (k : ℕ) → k < length bs → byte (store_bytes m a bs) (a + k) ≡ slice_index bs k
unfolding store_bytes
byte-inside m a [] k h = absurd (omega arith)
byte-inside m a (b ∷ bs) zero h =
    ap (byte (store_bytes (record m { written = insert_entry nat_cmp m.written a b }) (a + 1) bs)) (add-zero a)
    ∙ byte-outside (record m { written = insert_entry nat_cmp m.written a b }) (a + 1) bs a (inl (omega arith))
    ∙ byte-one m a b a ∙ ap (λ p. cond p b (byte m a)) (eq-eqb a a refl)
byte-inside m a (b ∷ bs) (suc k) h =
    ap (byte (store_bytes (record m { written = insert_entry nat_cmp m.written a b }) (a + 1) bs)) (let e : a + suc k ≡ a + 1 + k = omega arith in e)
    ∙ byte-inside (record m { written = insert_entry nat_cmp m.written a b }) (a + 1) bs k (omega arith)

-- ---- bytes within a word

-- the four bytes of a number of 32 bits
bytes-of : (b0 b1 b2 b3 : ℕ) → b0 < 256 → b1 < 256 → b2 < 256 → b3 < 256 →
    ((b0 + b1 * 256 + b2 * 65536 + b3 * 16777216) / 1 % 256 ≡ b0) × ((b0 + b1 * 256 + b2 * 65536 + b3 * 16777216) / 256 % 256 ≡ b1)
    × ((b0 + b1 * 256 + b2 * 65536 + b3 * 16777216) / 65536 % 256 ≡ b2) × ((b0 + b1 * 256 + b2 * 65536 + b3 * 16777216) / 16777216 % 256 ≡ b3)
bytes-of b0 b1 b2 b3 h0 h1 h2 h3 = (omega arith, omega arith, omega arith, omega arith)

-- the word that an aligned address begins is the four bytes from there on
pub word-aligned : (m : Memory) (a : ℕ) → a % 4 ≡ 0 → word m (a / 4) ≡ from_le_bytes w32 (bytes_from m a 4)
word-aligned m a aligned = ap (λ n. from_le_bytes w32 (bytes_from m n 4)) (let e : 4 * (a / 4) ≡ a = omega arith in e)

-- a byte of a word is the byte at its address
pub byte-of-word : (m : Memory) (a : ℕ) → ((x : ℕ) → byte m x < 2 ^ 8) → word m (a / 4) / 256 ^ (a % 4) % 2 ^ 8 ≡ byte m a
byte-of-word m a fits = go (a % 4) refl (omega arith)
  where
    n : ℕ
    n = 4 * (a / 4)

    go : (k : ℕ) → a % 4 ≡ k → k < 4 → word m (a / 4) / 256 ^ k % 2 ^ 8 ≡ byte m a
    go zero e h = (bytes-of (byte m n) (byte m (n + 1)) (byte m (n + 1 + 1)) (byte m (n + 1 + 1 + 1)) (fits n) (fits (n + 1)) (fits (n + 1 + 1)) (fits (n + 1 + 1 + 1))).0 ∙ ap (byte m) (let q : n ≡ a = omega arith in q)
    go (suc zero) e h = (bytes-of (byte m n) (byte m (n + 1)) (byte m (n + 1 + 1)) (byte m (n + 1 + 1 + 1)) (fits n) (fits (n + 1)) (fits (n + 1 + 1)) (fits (n + 1 + 1 + 1))).1 ∙ ap (byte m) (let q : n + 1 ≡ a = omega arith in q)
    go (suc (suc zero)) e h = (bytes-of (byte m n) (byte m (n + 1)) (byte m (n + 1 + 1)) (byte m (n + 1 + 1 + 1)) (fits n) (fits (n + 1)) (fits (n + 1 + 1)) (fits (n + 1 + 1 + 1))).2 ∙ ap (byte m) (let q : n + 1 + 1 ≡ a = omega arith in q)
    go (suc (suc (suc zero))) e h = (bytes-of (byte m n) (byte m (n + 1)) (byte m (n + 1 + 1)) (byte m (n + 1 + 1 + 1)) (fits n) (fits (n + 1)) (fits (n + 1 + 1)) (fits (n + 1 + 1 + 1))).3 ∙ ap (byte m) (let q : n + 1 + 1 + 1 ≡ a = omega arith in q)
    go (suc (suc (suc (suc k)))) e h = absurd (omega arith)

-- a half of a word, at an even address, is the two bytes from there on
halves : (b0 b1 b2 b3 : ℕ) → b0 < 256 → b1 < 256 → b2 < 256 → b3 < 256 →
    ((b0 + b1 * 256 + b2 * 65536 + b3 * 16777216) / 1 % 65536 ≡ b0 + b1 * 256) × ((b0 + b1 * 256 + b2 * 65536 + b3 * 16777216) / 65536 % 65536 ≡ b2 + b3 * 256)
halves b0 b1 b2 b3 h0 h1 h2 h3 = (omega arith, omega arith)

pub half-of-word : (m : Memory) (a : ℕ) → a % 2 ≡ 0 → ((x : ℕ) → byte m x < 2 ^ 8) → word m (a / 4) / 256 ^ (a % 4) % 2 ^ 16 ≡ from_le_bytes w16 (bytes_from m a 2)
half-of-word m a even fits = go (a % 4) refl (omega arith)
  where
    n : ℕ
    n = 4 * (a / 4)

    go : (k : ℕ) → a % 4 ≡ k → k < 4 → word m (a / 4) / 256 ^ k % 2 ^ 16 ≡ from_le_bytes w16 (bytes_from m a 2)
    go zero e h = (halves (byte m n) (byte m (n + 1)) (byte m (n + 1 + 1)) (byte m (n + 1 + 1 + 1)) (fits n) (fits (n + 1)) (fits (n + 1 + 1)) (fits (n + 1 + 1 + 1))).0
        ∙ ap (λ x. from_le_bytes w16 (bytes_from m x 2)) (let q : n ≡ a = omega arith in q)
    go (suc zero) e h = absurd (omega arith)
    go (suc (suc zero)) e h = (halves (byte m n) (byte m (n + 1)) (byte m (n + 1 + 1)) (byte m (n + 1 + 1 + 1)) (fits n) (fits (n + 1)) (fits (n + 1 + 1)) (fits (n + 1 + 1 + 1))).1
        ∙ ap (λ x. from_le_bytes w16 (bytes_from m x 2)) (let q : n + 1 + 1 ≡ a = omega arith in q)
    go (suc (suc (suc zero))) e h = absurd (omega arith)
    go (suc (suc (suc (suc k)))) e h = absurd (omega arith)

-- what is extracted of a word is what is loaded from its bytes
pub extract-loaded : (kind : LoadKind) (m : Memory) (a : ℕ) → a % load_width kind ≡ 0 → ((x : ℕ) → byte m x < 2 ^ 8) → extract kind (word m (a / 4)) (a % 4) ≡ load_value kind m a
unfolding extract load_value
extract-loaded loads.B m a e fits = ap (λ n. cast_unsigned w32 (sign_extend 8 n)) (byte-of-word m a fits)
extract-loaded loads.H m a e fits = ap (λ n. cast_unsigned w32 (sign_extend 16 n)) (half-of-word m a e fits)
extract-loaded loads.W m a e fits = word-aligned m a e
extract-loaded loads.Bu m a e fits = byte-of-word m a fits
extract-loaded loads.Hu m a e fits = half-of-word m a e fits

-- ---- a store within a word

-- the list with some elements from a place on
abbrev overlay : ℕ → List ℕ → List ℕ → List ℕ
overlay k [] xs = xs
overlay k (b ∷ bs) xs = overlay (suc k) bs (set xs k b)

set-take : (xs : List ℕ) (k b : ℕ) (ys : List ℕ) → k < length xs → take (suc k) (set xs k b) ++ ys ≡ take k xs ++ (b ∷ ys)
set-take [] k b ys h = absurd (omega arith)
set-take (x ∷ xs) zero b ys h = refl
set-take (x ∷ xs) (suc k) b ys h = let rest = set-take xs k b ys (omega arith) in λ i. x ∷ rest i

overlay-is : (k : ℕ) (bs xs : List ℕ) → k + length bs ≤ length xs → overlay k bs xs ≡ take k xs ++ bs ++ drop (k + length bs) xs
overlay-is k [] xs h = sym (ap₂ (λ l n. l ++ drop n xs) (append-nil (take k xs)) (add-zero k) ∙ take-append-drop k xs)
overlay-is k (b ∷ bs) xs h =
    overlay-is (suc k) bs (set xs k b) (omega (arith, length-set xs k b))
    ∙ ap₂ (λ l r. l ++ r) (set-take xs k b bs (omega arith))
    (drop-set-lt (suc k + length bs) xs k b (omega arith) ∙ ap (λ n. drop n xs) (let e : suc k + length bs ≡ k + suc (length bs) = omega arith in e))

abbrev with_byte : Memory → ℕ → ℕ → Memory
with_byte m x b = record m { written = insert_entry nat_cmp m.written x b }

before-one : (m : Memory) (x b len n : ℕ) → x < n → bytes_from (with_byte m x b) n len ≡ bytes_from m n len
before-one m x b zero n h = refl
before-one m x b (suc len) n h =
    let head = byte-one m x b n ∙ ap (λ p. cond p b (byte m n)) (ne_eqb n x (λ e. absurd (omega arith))) in
    let tail = before-one m x b len (n + 1) (omega arith) in
    λ i. head i ∷ tail i

within-one : (m : Memory) (x b len n k : ℕ) → x ≡ n + k → k < len → bytes_from (with_byte m x b) n len ≡ set (bytes_from m n len) k b
within-one m x b zero n k e h = absurd (omega arith)
within-one m x b (suc len) n zero e h =
    let head = byte-one m x b n ∙ ap (λ p. cond p b (byte m n)) (eq-eqb n x (omega arith)) in
    let tail = before-one m x b len (n + 1) (omega arith) in
    λ i. head i ∷ tail i
within-one m x b (suc len) n (suc k) e h =
    let head = byte-one m x b n ∙ ap (λ p. cond p b (byte m n)) (ne_eqb n x (λ same. absurd (omega arith))) in
    let tail = within-one m x b len (n + 1) k (omega arith) (omega arith) in
    λ i. head i ∷ tail i

within-store : (m : Memory) (x : ℕ) (bs : List ℕ) (len n k : ℕ) → x ≡ n + k → k + length bs ≤ len → bytes_from (store_bytes m x bs) n len ≡ overlay k bs (bytes_from m n len)
unfolding store_bytes
within-store m x [] len n k e h = refl
within-store m x (b ∷ bs) len n k e h =
    within-store (with_byte m x b) (x + 1) bs len n (suc k) (omega arith) (omega arith)
    ∙ ap (overlay (suc k) bs) (within-one m x b len n k e (omega arith))

-- the bytes of a word are those in memory
word-bytes : (m : Memory) (w : ℕ) → ((x : ℕ) → byte m x < 2 ^ 8) → to_le_bytes w32 (word m w) ≡ bytes_from m (4 * w) 4
word-bytes m w fits =
    let n : ℕ = 4 * w in
    let four = bytes-of (byte m n) (byte m (n + 1)) (byte m (n + 1 + 1)) (byte m (n + 1 + 1 + 1)) (fits n) (fits (n + 1)) (fits (n + 1 + 1)) (fits (n + 1 + 1 + 1)) in
    let first : word m w % 256 ≡ byte m n = omega (arith, four.0) in
    λ i. first i ∷ four.1 i ∷ four.2 i ∷ four.3 i ∷ []

-- the word after a store within it
pub word-stored : (m : Memory) (a : ℕ) (bs : List ℕ) → a % 4 + length bs ≤ 4 → ((x : ℕ) → byte m x < 2 ^ 8) → word (store_bytes m a bs) (a / 4) ≡ splice (word m (a / 4)) (a % 4) bs
unfolding splice
word-stored m a bs h fits =
    let n : ℕ = 4 * (a / 4) in
    let place : a ≡ n + a % 4 = omega arith in
    ap (from_le_bytes w32) (within-store m a bs 4 n (a % 4) place h ∙ overlay-is (a % 4) bs (bytes_from m n 4) h
    ∙ ap (λ l. take (a % 4) l ++ bs ++ drop (a % 4 + length bs) l) (sym (word-bytes m (a / 4) fits)))
