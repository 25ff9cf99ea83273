-- What is done to the entries of a map in memory, as it is done to the files that they mean.
use Rattle.std.proofs.Common.{◌≡◌, ℕ, List, [], ◌∷◌, Option, Some, None, option_map, String, Vec, Global, Ordering, Less, Equal, Greater, string_bytes, string_cmp, nat_cmp, is_eq, Bool, true, false, cond, IsSome, refl, sym, ap, ◌∙◌, subst, is_some, true≢false}
use Rattle.std.proofs.lemmas.Cmp.{nat_list_cmp_total}
use Rattle.std.specs.Cmp.Lexicographic.{slice_cmp}
use Rattle.std.specs.List.{AllByRecursion}
use Rattle.std.specs.List.Sorted.{IsStrictlySortedBy}
use Rattle.std.specs.Map.{keys_of, lookup, set_value}
use Rattle.std.specs.Ordering.{match_ordering}
use Rattle.std.specs.BTreeMap.{insert_entry, is_at}
use Rattle.rv_host.specs.FileMap.{files_of}
use Rattle.rv_host.specs.Files.{found, with_file}

abbrev pub Entry : Type 0
Entry = String Global × Vec ℕ Global

-- how a name compares to a key
abbrev pub compare_name : List ℕ → String Global → Ordering
compare_name name key = slice_cmp nat_cmp name (string_bytes key)

files_of-match_ordering : (o : Ordering) (a b c : List Entry) → files_of (match_ordering o a b c) ≡ match_ordering o (files_of a) (files_of b) (files_of c)
files_of-match_ordering Less a b c = refl
files_of-match_ordering Equal a b c = refl
files_of-match_ordering Greater a b c = refl

pub files_of-insert_entry : (es : List Entry) (k : String Global) (v : Vec ℕ Global) → files_of (insert_entry string_cmp es k v) ≡ with_file (files_of es) (string_bytes k) v.items
files_of-insert_entry [] k v = refl
files_of-insert_entry (e ∷ es) k v = files_of-match_ordering (string_cmp k e.0) _ _ _ ∙ rw (files_of-insert_entry es k v) refl

found-or : (b : Bool) (v : Vec ℕ Global) (rest : Option (Vec ℕ Global)) (d : Option (List ℕ)) → option_map (λ x. x.items) rest ≡ d → option_map (λ x. x.items) (cond b (Some v) rest) ≡ cond b (Some v.items) d
found-or true v rest d e = refl
found-or false v rest d e = e

pub found-lookup : (name : List ℕ) (es : List Entry) → option_map (λ x. x.items) (lookup (is_at (compare_name name)) es) ≡ found (files_of es) name
found-lookup name [] = refl
found-lookup name (e ∷ es) = found-or (is_eq (compare_name name e.0)) e.1 _ _ (found-lookup name es)

-- a name that is below a key isn't found among the keys above that one
none-above : (name : List ℕ) (key : String Global) (es : List Entry) → compare_name name key ≡ Less → AllByRecursion (λ y. string_cmp key y ≡ Less) (keys_of es) → lookup (is_at (compare_name name)) es ≡ None
none-above name key [] below above = refl
none-above name key (e ∷ es) below above =
    let less : compare_name name e.0 ≡ Less = nat_list_cmp_total.trans name (string_bytes key) (string_bytes e.0) below above.0 in
    rw less (none-above name key es below above.1)

set-at : (name : List ℕ) (e : Entry) (es : List Entry) (v : Vec ℕ Global) (o : Ordering) → compare_name name e.0 ≡ o → (o ≡ Less → ⊥)
    → (o ≡ Greater → files_of (set_value (is_at (compare_name name)) es v) ≡ with_file (files_of es) name v.items)
    → files_of (set_value (is_at (compare_name name)) (e ∷ es) v) ≡ with_file (files_of (e ∷ es)) name v.items
set-at name e es v Less is not_less rest = absurd (not_less refl)
set-at name e es v Equal is not_less rest = rw is refl
set-at name e es v Greater is not_less rest = rw is (ap (λ fs. (string_bytes e.0, e.1.items) ∷ fs) (rest refl))

pub files_of-set_value : (name : List ℕ) (es : List Entry) (v : Vec ℕ Global) → IsStrictlySortedBy string_cmp (keys_of es) → IsSome (lookup (is_at (compare_name name)) es)
    → files_of (set_value (is_at (compare_name name)) es v) ≡ with_file (files_of es) name v.items
unfolding IsStrictlySortedBy
files_of-set_value name [] v sorted there = absurd (true≢false (sym there))
files_of-set_value name (e ∷ es) v sorted there =
    let Finds : Ordering → Type 0 = λ o. IsSome (cond (is_eq o) (Some e.1) (lookup (is_at (compare_name name)) es)) in
    set-at name e es v (compare_name name e.0) refl
    (λ less. true≢false (sym (subst Finds less there) ∙ ap is_some (none-above name e.0 es less sorted.0)))
    (λ greater. files_of-set_value name es v sorted.1 (subst Finds greater there))
