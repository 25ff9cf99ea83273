-- Files that are read from the front.
use Rattle.std.proofs.Common.{◌≡◌, ◌≢◌, ℕ, ◌+◌, ◌≤◌, ◌⊎◌, inl, inr, List, ◌++◌, length, take, Option, Some, IfSome, subst, sym, ap, ◌∙◌, arith, length-append}
use Rattle.std.proofs.Math.Seq.{take-add}
use Rattle.std.proofs.lemmas.List.{length-take-le, take_all}
use Rattle.rv_host.specs.Files.{Files, file}
use Rattle.rv_host.specs.Transfers.{Reads}

-- what is known of the files, where they are told
at-told : (P : Files → Type 0) (files before : Option Files) (told : Files) → files ≡ before → before ≡ Some told → IfSome files P → P told
at-told P files before told same is known = subst (λ o. IfSome o P) (same ∙ is) known

-- one more piece of a file
more : (file bytes piece old : List ℕ) (count : ℕ) → bytes ≡ take (length bytes) file → count ≤ length piece → Reads file (length bytes) count old piece
    → bytes ++ take count piece ≡ take (length (bytes ++ take count piece)) file
more file bytes piece old count front fits read =
    let size : length (bytes ++ take count piece) ≡ length bytes + count = length-append bytes (take count piece) ∙ ap (λ n. length bytes + n) (length-take-le count piece fits) in
    ap (λ xs. xs ++ take count piece) front ∙ ap (λ ys. take (length bytes) file ++ ys) read.bytes ∙ sym (take-add (length bytes) count file) ∙ ap (λ n. take n file) (sym size)

pub front-more : (files before : Option Files) (name bytes piece old : List ℕ) (at count : ℕ) → files ≡ before → at ≡ length bytes → count ≤ length piece
    → IfSome files (λ told. Reads (file told name) at count old piece)
    → (told : Files) → before ≡ Some told → bytes ≡ take (length bytes) (file told name) → bytes ++ take count piece ≡ take (length (bytes ++ take count piece)) (file told name)
front-more files before name bytes piece old at count same place fits read told is front =
    more (file told name) bytes piece old count front fits (subst (λ n. Reads (file told name) n count old piece) place (at-told (λ t. Reads (file t name) at count old piece) files before told same is read))

whole : (file bytes : List ℕ) (limit : ℕ) → bytes ≡ take (length bytes) file → length file ≤ length bytes → length bytes ≤ limit → bytes ≡ take limit file
whole file bytes limit front all within = front ∙ take_all (length bytes) file all ∙ sym (take_all limit file (omega arith))

ended : (file bytes piece old : List ℕ) (count limit : ℕ) → count ≡ 0 → length old ≢ 0 → bytes ≡ take (length bytes) file → length bytes ≤ limit → (length old ≡ 0) ⊎ (length file ≤ length bytes) → bytes ≡ take limit file
ended file bytes piece old count limit none room front within (inl empty) = absurd (room empty)
ended file bytes piece old count limit none room front within (inr all) = whole file bytes limit front all within

-- no bytes are left
pub front-whole : (files before : Option Files) (name bytes piece old : List ℕ) (at count limit : ℕ) → files ≡ before → at ≡ length bytes → count ≡ 0 → length old ≢ 0 → length bytes ≤ limit
    → IfSome files (λ told. Reads (file told name) at count old piece)
    → (told : Files) → before ≡ Some told → bytes ≡ take (length bytes) (file told name) → bytes ≡ take limit (file told name)
front-whole files before name bytes piece old at count limit same place none room within read told is front =
    ended (file told name) bytes piece old count limit none room front within
    (subst (λ n. (length old ≡ 0) ⊎ (length (file told name) ≤ n)) place ((at-told (λ t. Reads (file t name) at count old piece) files before told same is read).none none))

-- all bytes up to the limit are read
pub front-filled : (file bytes : List ℕ) (limit : ℕ) → length bytes ≡ limit → bytes ≡ take (length bytes) file → bytes ≡ take limit file
front-filled file bytes limit size front = front ∙ ap (λ n. take n file) size
