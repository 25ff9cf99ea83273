-- Files that are written part by part.
use Rattle.std.proofs.Common.{◌≡◌, ℕ, ◌+◌, ◌<◌, inl, inr, List, [], ◌++◌, length, take, drop, get_or, Option, Some, None, ◌∷◌, map, refl, sym, ap, subst, ◌∙◌, append_assoc}
use Rattle.std.proofs.Math.Seq.{take-append_seam}
use Rattle.std.proofs.lemmas.List.{take-append-drop, take_more, flat_map_more, map-append}
use Rattle.std.proofs.lemmas.Grind.{flat_map-append}
use Rattle.std.specs.List.{flat_map}
use Rattle.std.specs.Option.{option_map}
use Rattle.rv_host.specs.Files.{Files, with_added, with_file}
use Rattle.rv_host.specs.Transfers.{AddsPrefix}
use Rattle.rv_host.proofs.Lemmas.{with_added-with_file}
use Rattle.rv_host.specs.Counts.{Rose}
use Rattle.rv_host.specs.Views.{ShelfView}
use Rattle.rv_plan.specs.Plan.{Due, with_due}
use Rattle.rv_plan.specs.Endings.{IsTorn, WriteFails}

-- the bytes of the first parts
front-more : {X : Type 0} (f : X → List ℕ) (parts : List X) (i : ℕ) (d : X) → i < length parts → flat_map f (take (i + 1) parts) ≡ flat_map f (take i parts) ++ f (get_or parts i d)
front-more f parts i d lt = ap (flat_map f) (take_more parts i d lt) ∙ sym (flat_map_more f [] (take i parts) (get_or parts i d))

front-all : {X : Type 0} (f : X → List ℕ) (parts : List X) (i : ℕ) → flat_map f parts ≡ flat_map f (take i parts) ++ flat_map f (drop i parts)
front-all f parts i = ap (flat_map f) (sym (take-append-drop i parts)) ∙ flat_map-append f (take i parts) (drop i parts)

-- one more part is added
pub part-added : {X : Type 0} (f : X → List ℕ) (parts : List X) (i : ℕ) (d : X) (name : List ℕ) (before files after : Option Files) → i < length parts
    → files ≡ option_map (λ told. with_file told name (flat_map f (take i parts))) before
    → after ≡ option_map (λ told. with_added told name (f (get_or parts i d))) files
    → after ≡ option_map (λ told. with_file told name (flat_map f (take (i + 1) parts))) before
part-added f parts i d name None files after lt was is = rw (is, was) refl
part-added f parts i d name (Some told) files after lt was is =
    rw (is, was) (ap Some (with_added-with_file told name (flat_map f (take i parts)) (f (get_or parts i d)) ∙ ap (with_file told name) (sym (front-more f parts i d lt))))

torn : (name due a b : List ℕ) (told : Files) (after : Option Files) → due ≡ a ++ b → after ≡ Some (with_file told name a) → IsTorn told name due after
torn name due a b told after is was = inr (length a, was ∙ ap (λ bytes. Some (with_file told name bytes)) (sym (ap (take (length a)) is ∙ take-append_seam a b)))

parted : (due front part a b rest : List ℕ) → due ≡ (front ++ part) ++ rest → part ≡ a ++ b → due ≡ (front ++ a) ++ (b ++ rest)
parted due front part a b rest is halves = is ∙ ap (λ p. (front ++ p) ++ rest) halves ∙ simp append_assoc

-- a prefix of one more part is added
pub part-torn : {X : Type 0} (f : X → List ℕ) (parts : List X) (i : ℕ) (d : X) (name : List ℕ) (before files after : Option Files) → i < length parts
    → files ≡ option_map (λ told. with_file told name (flat_map f (take i parts))) before
    → AddsPrefix files after name (f (get_or parts i d))
    → (told : Files) → before ≡ Some told → IsTorn told name (flat_map f parts) after
part-torn f parts i d name before files after lt was (inl same) told is =
    torn name (flat_map f parts) (flat_map f (take i parts)) (flat_map f (drop i parts)) told after (front-all f parts i)
    (same ∙ was ∙ ap (option_map (λ t. with_file t name (flat_map f (take i parts)))) is)
part-torn f parts i d name before files after lt was (inr (n, adds)) told is =
    let front = flat_map f (take i parts) in
    let part = f (get_or parts i d) in
    let rest = flat_map f (drop (i + 1) parts) in
    let had : files ≡ Some (with_file told name front) = was ∙ ap (option_map (λ t. with_file t name front)) is in
    torn name (flat_map f parts) (front ++ take n part) (drop n part ++ rest) told after
    (parted (flat_map f parts) front part (take n part) (drop n part) rest (front-all f parts (i + 1) ∙ ap (λ a. a ++ rest) (front-more f parts i d lt)) (sym (take-append-drop n part)))
    (adds ∙ ap (option_map (λ t. with_added t name (take n part))) had ∙ ap Some (with_added-with_file told name front (take n part)))

-- ---- files one after the other

with_due-snoc : (told : Files) (first : List Due) (d : Due) → with_due told (first ++ d ∷ []) ≡ with_file (with_due told first) d.0 d.1
with_due-snoc told [] d = refl
with_due-snoc told (x ∷ xs) d = with_due-snoc (with_file told x.0 x.1) xs d

dues-more : {X : Type 0} (f : X → Due) (files : List X) (i : ℕ) (d : X) → i < length files → map f (take (i + 1) files) ≡ map f (take i files) ++ f (get_or files i d) ∷ []
dues-more f files i d lt = ap (map f) (take_more files i d lt) ∙ map-append f (take i files) (get_or files i d ∷ [])

-- one more file is written
pub file-added : {X : Type 0} (f : X → Due) (files : List X) (i : ℕ) (d : X) (before middle after : Option Files) → i < length files
    → middle ≡ option_map (λ told. with_due told (map f (take i files))) before
    → after ≡ option_map (λ told. with_due told (f (get_or files i d) ∷ [])) middle
    → after ≡ option_map (λ told. with_due told (map f (take (i + 1) files))) before
file-added f files i d None middle after lt was is = rw (is, was) refl
file-added f files i d (Some told) middle after lt was is =
    rw (is, was) (ap Some (sym (ap (with_due told) (dues-more f files i d lt) ∙ with_due-snoc told (map f (take i files)) (f (get_or files i d)))))

dues-order : {X : Type 0} (f : X → Due) (files : List X) (i : ℕ) (d : X) → i < length files → map f files ≡ map f (take i files) ++ f (get_or files i d) ∷ map f (drop (i + 1) files)
dues-order f files i d lt =
    ap (map f) (sym (take-append-drop (i + 1) files)) ∙ map-append f (take (i + 1) files) (drop (i + 1) files) ∙ ap (λ front. front ++ map f (drop (i + 1) files)) (dues-more f files i d lt)
    ∙ append_assoc (map f (take i files)) (f (get_or files i d) ∷ []) (map f (drop (i + 1) files))

-- writing fails at one file
pub file-torn : {X : Type 0} (f : X → Due) (files : List X) (i : ℕ) (d : X) (before middle after : ShelfView) → i < length files
    → middle.files ≡ option_map (λ told. with_due told (map f (take i files))) before.files
    → ((any : List ℕ) → middle.write_faults any ≡ before.write_faults any)
    → Rose (middle.write_faults (f (get_or files i d)).0) (after.write_faults (f (get_or files i d)).0)
    → ((told : Files) → middle.files ≡ Some told → IsTorn told (f (get_or files i d)).0 (f (get_or files i d)).1 after.files)
    → WriteFails (map f files) before after
file-torn f files i d before middle after lt was writes rose torn = record {
  first = map f (take i files);
  name = (f (get_or files i d)).0;
  bytes = (f (get_or files i d)).1;
  last = map f (drop (i + 1) files);
  order = dues-order f files i d lt;
  rose = subst (λ n. Rose n (after.write_faults (f (get_or files i d)).0)) (writes (f (get_or files i d)).0) rose;
  torn = λ told is. torn (with_due told (map f (take i files))) (was ∙ ap (option_map (λ t. with_due t (map f (take i files)))) is);
}
