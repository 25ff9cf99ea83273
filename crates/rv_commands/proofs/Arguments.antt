-- Words as a list, from the pattern that they fit.
use Rattle.std.proofs.Common.{◌≡◌, ◌≢◌, ◌⊎◌, inl, inr, ℕ, suc, ◌<◌, List, [], ◌∷◌, ◌++◌, length, drop, take, map, get_or, ◌-◌, ◌+◌, ◌≤◌, refl, sym, ◌∙◌, ap, arith, Option, Some, None}
use Rattle.std.proofs.Math.Seq.{drop-cons}
use Rattle.std.proofs.lemmas.List.{map-append, take_all, take_more}
use Rattle.rv_commands.specs.CommandLine.{MakeWords, make_words, making, number, pipe_command, pipe_words}

-- the list from its element at j on
from : {A : Type 0} (xs : List A) (j : ℕ) (a : A) → j < length xs → a ≡ get_or xs j a → drop j xs ≡ a ∷ drop (suc j) xs
from xs j a lt is = drop-cons xs j a lt ∙ ap (λ y. y ∷ drop (suc j) xs) (sym is)

ends : {A : Type 0} (xs : List A) (n : ℕ) → length xs ≡ n → drop n xs ≡ []
ends [] n e = rw (sym e) refl
ends (x ∷ xs) n e = rw (sym e) (ends xs (length xs) refl)

pub six : {A : Type 0} (xs : List A) (a b c d e f : A) → length xs ≡ 6 → a ≡ get_or xs 0 a → b ≡ get_or xs 1 b → c ≡ get_or xs 2 c → d ≡ get_or xs 3 d → e ≡ get_or xs 4 e → f ≡ get_or xs 5 f
    → xs ≡ a ∷ b ∷ c ∷ d ∷ e ∷ f ∷ []
six xs a b c d e f len ha hb hc hd he hf =
    from xs 0 a (omega arith) ha ∙ ap (λ r. a ∷ r)
    (from xs 1 b (omega arith) hb ∙ ap (λ r. b ∷ r)
    (from xs 2 c (omega arith) hc ∙ ap (λ r. c ∷ r)
    (from xs 3 d (omega arith) hd ∙ ap (λ r. d ∷ r)
    (from xs 4 e (omega arith) he ∙ ap (λ r. e ∷ r)
    (from xs 5 f (omega arith) hf ∙ ap (λ r. f ∷ r) (ends xs 6 len))))))

pub not-six : (v least : ℕ) (xs : List (List ℕ)) → length xs ≢ 6 → making v least xs ≡ None
not-six v least [] h = refl
not-six v least (a ∷ []) h = refl
not-six v least (a ∷ b ∷ []) h = refl
not-six v least (a ∷ b ∷ c ∷ []) h = refl
not-six v least (a ∷ b ∷ c ∷ d ∷ []) h = refl
not-six v least (a ∷ b ∷ c ∷ d ∷ e ∷ []) h = refl
not-six v least (a ∷ b ∷ c ∷ d ∷ e ∷ f ∷ []) h = absurd (h refl)
not-six v least (a ∷ b ∷ c ∷ d ∷ e ∷ f ∷ g ∷ gs) h = refl

no-workers : (v : ℕ) (elf input target : List ℕ) (s b : Option ℕ) → make_words v elf input target None s b ≡ None
no-workers v elf input target s b = refl

no-shard : (v : ℕ) (elf input target : List ℕ) (w b : Option ℕ) → make_words v elf input target w None b ≡ None
no-shard v elf input target None b = refl
no-shard v elf input target (Some w) b = refl

no-budget : (v : ℕ) (elf input target : List ℕ) (w s : Option ℕ) → make_words v elf input target w s None ≡ None
no-budget v elf input target None s = refl
no-budget v elf input target (Some w) None = refl
no-budget v elf input target (Some w) (Some s) = refl

-- six words, of whose last three one is no number in its range
pub misspelled : (v least : ℕ) (xs : List (List ℕ)) (elf input target w s b : List ℕ) → xs ≡ elf ∷ input ∷ target ∷ w ∷ s ∷ b ∷ []
    → (number least 64 w ≡ None) ⊎ ((number 1 65536 s ≡ None) ⊎ (number 1 8388608 b ≡ None)) → making v least xs ≡ None
misspelled v least xs elf input target w s b list (inl h) = ap (making v least) list ∙ rw h (no-workers v elf input target (number 1 65536 s) (number 1 8388608 b))
misspelled v least xs elf input target w s b list (inr (inl h)) = ap (making v least) list ∙ rw h (no-shard v elf input target (number least 64 w) (number 1 8388608 b))
misspelled v least xs elf input target w s b list (inr (inr h)) = ap (making v least) list ∙ rw h (no-budget v elf input target (number least 64 w) (number 1 65536 s))

-- a list that isn't empty, as it is before its last element, and that
last-apart : {A : Type 0} (xs : List A) (x : A) → 1 ≤ length xs → x ≡ get_or xs (length xs - 1) x → xs ≡ take (length xs - 1) xs ++ x ∷ []
last-apart xs x some is =
    let n = length xs - 1 in
    sym (take_all (n + 1) xs (omega (arith, some))) ∙ take_more xs n x (omega (arith, some)) ∙ ap (λ y. take n xs ++ y ∷ []) (sym is)

-- the words of a pipe are those of what it makes, and a last one
spelled-pipe : (xs : List (List ℕ)) (waiting : List ℕ) → pipe_command (xs ++ waiting ∷ []) ≡ pipe_words (making 1 2 xs) (number 1 64 waiting)
spelled-pipe [] waiting = refl
spelled-pipe (a ∷ []) waiting = refl
spelled-pipe (a ∷ b ∷ []) waiting = refl
spelled-pipe (a ∷ b ∷ c ∷ []) waiting = refl
spelled-pipe (a ∷ b ∷ c ∷ d ∷ []) waiting = refl
spelled-pipe (a ∷ b ∷ c ∷ d ∷ e ∷ []) waiting = refl
spelled-pipe (a ∷ b ∷ c ∷ d ∷ e ∷ f ∷ []) waiting = refl
spelled-pipe (a ∷ b ∷ c ∷ d ∷ e ∷ f ∷ g ∷ []) waiting = refl
spelled-pipe (a ∷ b ∷ c ∷ d ∷ e ∷ f ∷ g ∷ k ∷ ks) waiting = refl

pub piped-words : {A : Type 0} (f : A → List ℕ) (xs : List A) (w : A) → 1 ≤ length xs → w ≡ get_or xs (length xs - 1) w
    → pipe_command (map f xs) ≡ pipe_words (making 1 2 (map f (take (length xs - 1) xs))) (number 1 64 (f w))
piped-words f xs w some is =
    ap (λ ys. pipe_command (map f ys)) (last-apart xs w some is) ∙ ap pipe_command (map-append f (take (length xs - 1) xs) (w ∷ []))
    ∙ spelled-pipe (map f (take (length xs - 1) xs)) (f w)

pub no-waiting : (m : Option MakeWords) → pipe_words m None ≡ None
no-waiting None = refl
no-waiting (Some m) = refl
