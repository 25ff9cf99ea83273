-- Laws of files and of counts, for callers of any shelf.
use Rattle.std.proofs.Common.{◌≡◌, ◌≢◌, ℕ, ◌≤◌, List, [], ◌∷◌, ◌++◌, Some, Ordering, Less, Equal, Greater, nat_cmp, is_eq, false, cond, refl, sym, ap, ◌∙◌, arith}
use Rattle.std.proofs.lemmas.Cmp.{nat_list_cmp_total, tied_itself}
use Rattle.std.proofs.lemmas.Map.Lookups.{exact_bytes}
use Rattle.std.specs.Cmp.Lexicographic.{slice_cmp}
use Rattle.rv_host.specs.Counts.{Rose}
use Rattle.rv_host.specs.Files.{Files, file, found, or_empty, with_added, with_file}

abbrev compare : List ℕ → List ℕ → Ordering
compare a b = slice_cmp nat_cmp a b

same-name : (name : List ℕ) → compare name name ≡ Equal
same-name name = tied_itself nat_list_cmp_total name

never-equal : (o : Ordering) → (o ≡ Equal → ⊥) → is_eq o ≡ false
never-equal Less apart = refl
never-equal Equal apart = absurd (apart refl)
never-equal Greater apart = refl

other-name : (other name : List ℕ) → other ≢ name → is_eq (compare other name) ≡ false
other-name other name apart = never-equal (compare other name) (λ equal. apart (exact_bytes other name equal))

-- ---- one file is written

set-first : (e : List ℕ × List ℕ) (files : Files) (name bytes : List ℕ) (o : Ordering) → compare name e.0 ≡ o → found (with_file files name bytes) name ≡ Some bytes → found (with_file (e ∷ files) name bytes) name ≡ Some bytes
set-first e files name bytes Less is rest = rw (is, same-name name) refl
set-first e files name bytes Equal is rest = rw (is, is) refl
set-first e files name bytes Greater is rest = rw (is, is) rest

pub found-with_file : (files : Files) (name bytes : List ℕ) → found (with_file files name bytes) name ≡ Some bytes
found-with_file [] name bytes = rw (same-name name) refl
found-with_file (e ∷ files) name bytes = set-first e files name bytes (compare name e.0) refl (found-with_file files name bytes)

pub file-with_file : (files : Files) (name bytes : List ℕ) → file (with_file files name bytes) name ≡ bytes
file-with_file files name bytes = ap or_empty (found-with_file files name bytes)

twice-first : (e : List ℕ × List ℕ) (files : Files) (name a b : List ℕ) (o : Ordering) → compare name e.0 ≡ o → with_file (with_file files name a) name b ≡ with_file files name b
    → with_file (with_file (e ∷ files) name a) name b ≡ with_file (e ∷ files) name b
twice-first e files name a b Less is rest = rw (is, same-name name) refl
twice-first e files name a b Equal is rest = rw (is, is) refl
twice-first e files name a b Greater is rest = rw (is, is) (ap (λ fs. e ∷ fs) rest)

-- the last bytes that are written stay
pub with_file-twice : (files : Files) (name a b : List ℕ) → with_file (with_file files name a) name b ≡ with_file files name b
with_file-twice [] name a b = rw (same-name name) refl
with_file-twice (e ∷ files) name a b = twice-first e files name a b (compare name e.0) refl (with_file-twice files name a b)

pub with_added-with_file : (files : Files) (name a b : List ℕ) → with_added (with_file files name a) name b ≡ with_file files name (a ++ b)
with_added-with_file files name a b =
    ap (λ bytes. with_file (with_file files name a) name (bytes ++ b)) (file-with_file files name a) ∙ with_file-twice files name a (a ++ b)

other-first : (e : List ℕ × List ℕ) (files : Files) (name bytes other : List ℕ) (o : Ordering) → compare name e.0 ≡ o → other ≢ name → found (with_file files name bytes) other ≡ found files other
    → found (with_file (e ∷ files) name bytes) other ≡ found (e ∷ files) other
other-first e files name bytes other Less is apart rest = rw (is, other-name other name apart) refl
other-first e files name bytes other Equal is apart rest =
    let elsewhere : is_eq (compare other e.0) ≡ false = other-name other e.0 (λ same. apart (same ∙ sym (exact_bytes name e.0 is))) in
    rw (is, elsewhere) refl
other-first e files name bytes other Greater is apart rest = rw is (ap (cond (is_eq (compare other e.0)) (Some e.1)) rest)

-- no other name changes
pub found-with_file-other : (files : Files) (name bytes other : List ℕ) → other ≢ name → found (with_file files name bytes) other ≡ found files other
found-with_file-other [] name bytes other apart = rw (other-name other name apart) refl
found-with_file-other (e ∷ files) name bytes other apart = other-first e files name bytes other (compare name e.0) refl apart (found-with_file-other files name bytes other apart)

-- ---- counts

pub rose-before : (first before now : ℕ) → first ≤ before → Rose before now → Rose first now
rose-before first before now le rose = grind arith

pub rose-after : (before now last : ℕ) → Rose before now → now ≤ last → Rose before last
rose-after before now last rose le = grind arith
