-- Laws of the list of used words.
use Rattle.std.proofs.Common.{◌≡◌, ℕ, zero, suc, ◌+◌, ◌-◌, ◌<◌, cond, nat_lt, List, [], ◌∷◌, ◌++◌, get_or, refl, sym, ◌∙◌, ap, arith, append_assoc, append-nil, add-zero, add-suc}
use Rattle.std.proofs.lemmas.Bool.{lt-ltb}
use Rattle.rv_mem.specs.declared.word.Word.{Word}
use Rattle.rv_mem.specs.Used.{no_word, if_used, used, listed_word}

pub used-zero : (f : ℕ → Word) (from : ℕ) → used f from 0 ≡ []
unfolding used
used-zero f from = refl

pub used-suc : (f : ℕ → Word) (from n : ℕ) → used f from (n + 1) ≡ used f from n ++ if_used (from + n) (f (from + n))
unfolding used
used-suc f from n = ap (used f from) (let e : n + 1 ≡ suc n = omega arith in e)

-- a word without a time is no entry, and one with a time is one
pub unused : (c : ℕ) (w : Word) → w.time ≡ 0 → if_used c w ≡ []
unused c w e = ap (λ t. cond (nat_lt 0 t) (record { cell = c; value = w.value; time = w.time } ∷ []) []) e

pub one-used : (c : ℕ) (w : Word) → 0 < w.time → if_used c w ≡ record { cell = c; value = w.value; time = w.time } ∷ []
one-used c w h = ap (λ b. cond b (record { cell = c; value = w.value; time = w.time } ∷ []) []) (lt-ltb 0 w.time h)

pub used-add : (f : ℕ → Word) (from n m : ℕ) → used f from (n + m) ≡ used f from n ++ used f (from + n) m
unfolding used
used-add f from n zero = ap (used f from) (add-zero n) ∙ sym (append-nil (used f from n))
used-add f from n (suc m) =
    ap (used f from) (add-suc n m)
    ∙ ap (λ l. l ++ if_used (from + (n + m)) (f (from + (n + m)))) (used-add f from n m)
    ∙ append_assoc (used f from n) (used f (from + n) m) (if_used (from + (n + m)) (f (from + (n + m))))
    ∙ ap (λ k. used f from n ++ (used f (from + n) m ++ if_used k (f k))) (let e : from + (n + m) ≡ from + n + m = omega arith in e)

pub used-same : (f g : ℕ → Word) (from n : ℕ) → ((k : ℕ) → k < n → f (from + k) ≡ g (from + k)) → used f from n ≡ used g from n
unfolding used
used-same f g from zero same = refl
used-same f g from (suc n) same =
    ap (λ l. l ++ if_used (from + n) (f (from + n))) (used-same f g from n (λ k h. same k (omega arith)))
    ∙ ap (λ w. used g from n ++ if_used (from + n) w) (same n (omega arith))

pub used-none : (f : ℕ → Word) (from n : ℕ) → ((k : ℕ) → k < n → (f (from + k)).time ≡ 0) → used f from n ≡ []
unfolding used
used-none f from zero none = refl
used-none f from (suc n) none =
    ap (λ l. l ++ if_used (from + n) (f (from + n))) (used-none f from n (λ k h. none k (omega arith)))
    ∙ unused (from + n) (f (from + n)) (none n (omega arith))

-- one more word of a list
read-word : (words : List Word) (first i : ℕ) → listed_word words first (first + i) ≡ get_or words i no_word
read-word words first i = ap (λ k. get_or words k no_word) (let k : first + i - first ≡ i = omega arith in k)

pub next-used : (words : List Word) (first i : ℕ) → 0 < (get_or words i no_word).time
    → used (listed_word words first) first (i + 1)
    ≡ used (listed_word words first) first i ++ record { cell = first + i; value = (get_or words i no_word).value; time = (get_or words i no_word).time } ∷ []
next-used words first i t =
    used-suc (listed_word words first) first i
    ∙ ap (λ v. used (listed_word words first) first i ++ if_used (first + i) v) (read-word words first i)
    ∙ ap (λ l. used (listed_word words first) first i ++ l) (one-used (first + i) (get_or words i no_word) t)

pub next-unused : (words : List Word) (first i : ℕ) → (get_or words i no_word).time ≡ 0
    → used (listed_word words first) first (i + 1) ≡ used (listed_word words first) first i
next-unused words first i t =
    used-suc (listed_word words first) first i
    ∙ ap (λ v. used (listed_word words first) first i ++ if_used (first + i) v) (read-word words first i)
    ∙ ap (λ l. used (listed_word words first) first i ++ l) (unused (first + i) (get_or words i no_word) t) ∙ append-nil (used (listed_word words first) first i)

-- what is appended to the old list and some more
pub appended : {A : Type 0} (now then old before after tail : List A) → now ≡ then ++ tail → then ≡ old ++ before → after ≡ before ++ tail → now ≡ old ++ after
appended now then old before after tail e f g = e ∙ ap (λ l. l ++ tail) f ∙ append_assoc old before tail ∙ ap (λ l. old ++ l) (sym g)
