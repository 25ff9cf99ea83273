-- Which fault is told first.
use Rattle.std.proofs.Common.{◌≡◌, ℕ, zero, suc, ◌+◌, Bool, true, false, cond, List, [], ◌∷◌, take, get_or, Some, None, refl, ◌∙◌, ap, arith}
use Rattle.std.proofs.lemmas.Bool.{false≢true}
use Rattle.std.specs.List.{AllByRecursion, position_from}
use Rattle.rv_spec.specs.Elf.{fault_tests, first_fault}
use Rattle.rv_elf.specs.Faults.{IsClear}

-- the first test that passes
first-is : (bs : List Bool) (n k : ℕ) → AllByRecursion (λ b. b ≡ false) (take k bs) → get_or bs k false ≡ true → position_from (λ b. b) n bs ≡ Some (n + k)
first-is [] n k clear e = absurd (false≢true e)
first-is (b ∷ bs) n zero clear e = ap (λ z. cond z (Some n) (position_from (λ b. b) (n + 1) bs)) e ∙ ap Some (let s : n ≡ n + 0 = omega arith in s)
first-is (b ∷ bs) n (suc k) clear e =
    ap (λ z. cond z (Some n) (position_from (λ b. b) (n + 1) bs)) clear.0
    ∙ first-is bs (n + 1) k clear.1 e
    ∙ ap Some (let s : n + 1 + k ≡ n + suc k = omega arith in s)

none-first : (bs : List Bool) (n : ℕ) → AllByRecursion (λ b. b ≡ false) bs → position_from (λ b. b) n bs ≡ None
none-first [] n clear = refl
none-first (b ∷ bs) n clear = ap (λ z. cond z (Some n) (position_from (λ b. b) (n + 1) bs)) clear.0 ∙ none-first bs (n + 1) clear.1

pub all-clear : (bs : List Bool) (n : ℕ) → position_from (λ b. b) n bs ≡ None → AllByRecursion (λ b. b ≡ false) bs
all-clear [] n e = tt
all-clear (true ∷ bs) n e = absurd (some-not-none n e)
  where
    some-not-none : (n : ℕ) → Some n ≡ None → ⊥
    some-not-none n e = cc
all-clear (false ∷ bs) n e = (refl, all-clear bs (n + 1) e)

one-more : (bs : List Bool) (k : ℕ) → AllByRecursion (λ b. b ≡ false) (take k bs) → get_or bs k false ≡ false → AllByRecursion (λ b. b ≡ false) (take (suc k) bs)
one-more [] k clear e = tt
one-more (b ∷ bs) zero clear e = (e, tt)
one-more (b ∷ bs) (suc k) clear e = (clear.0, one-more bs k clear.1 e)

-- a file that has none of the first k faults, and the next
pub fault-is : (file : List ℕ) (k : ℕ) → IsClear k file → get_or (fault_tests file) k false ≡ true → first_fault file ≡ Some (1 + k)
unfolding first_fault IsClear
fault-is file k clear e = first-is (fault_tests file) 1 k clear e

-- a file that has none of the first k faults, nor the next
pub clear-more : (file : List ℕ) (k : ℕ) → IsClear k file → get_or (fault_tests file) k false ≡ false → IsClear (suc k) file
unfolding IsClear
clear-more file k clear e = one-more (fault_tests file) k clear e

pub clear-none : (file : List ℕ) → IsClear 0 file
unfolding IsClear
clear-none file = tt

pub faultless : (file : List ℕ) → IsClear 16 file → first_fault file ≡ None
unfolding first_fault IsClear
faultless file clear = none-first (fault_tests file) 1 clear

pub clear-all : (file : List ℕ) → first_fault file ≡ None → AllByRecursion (λ b. b ≡ false) (fault_tests file)
unfolding first_fault
clear-all file e = all-clear (fault_tests file) 1 e
