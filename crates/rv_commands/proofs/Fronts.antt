-- The front of a record file, of which the first 173 bytes tell how long it is.
use Rattle.std.proofs.Common.{◌≡◌, ℕ, ◌+◌, ◌<◌, ◌≤◌, ◌^◌, Bool, true, false, ◌&&◌, List, [], ◌++◌, length, take, nat_le, refl, sym, ap, ◌∙◌, arith, inl, inr, if◌then◌else◌}
use Rattle.std.proofs.Math.Seq.{take-append_seam}
use Rattle.std.proofs.lemmas.List.{length-take, take_all}
use Rattle.std.proofs.lemmas.Bool.{cases_order, leb-true}
use Rattle.rv_base.specs.declared.layout.TheConstants.{HEADER_BYTES}
use Rattle.rv_base.specs.declared.limits.TheConstants.{OUTPUT_LIMIT}
use Rattle.rv_rules.proofs.Lemmas.{right-true}
use Rattle.rv_rules.specs.Reading.{header_of}
use Rattle.rv_file.specs.Front.{front_length, is_record}
use Rattle.rv_host.specs.Views.{ShelfView}
use Rattle.rv_plan.specs.FileCalls.{IsUnchanged}
use Rattle.rv_judge.specs.Held.{IsWholeFront}

pub unchanged-both : {s s' s'' : ShelfView} → IsUnchanged s s' → IsUnchanged s' s'' → IsUnchanged s s''
unchanged-both h k = record { files = k.files ∙ h.files; reads = λ name. k.reads name ∙ h.reads name; writes = λ name. k.writes name ∙ h.writes name }

-- nothing is the first bytes of each file
pub nothing : (bytes whole : List ℕ) → bytes ≡ [] → bytes ≡ take (length bytes) whole
nothing bytes whole none = rw none refl

-- bytes up to a place are the first ones, and all where there are fewer
pub first-bytes : (whole bytes : List ℕ) (n : ℕ) → bytes ≡ take n whole → bytes ≡ take (length bytes) whole
first-bytes whole bytes n is = elim (cases_order (length bytes) n) [
  | inl same ↦ is ∙ ap (λ k. take k whole) (sym same)
  | inr (inl less) ↦ let all : bytes ≡ whole = is ∙ take_all n whole (omega (arith, ap length is, length-take n whole)) in all ∙ sym (take_all (length bytes) whole (omega (arith, ap length all)))
  | inr (inr more) ↦ absurd (omega (arith, ap length is, length-take n whole))
]

pub cut-short : (whole bytes : List ℕ) (n : ℕ) → bytes ≡ take n whole → length bytes < n → bytes ≡ whole
cut-short whole bytes n is less = is ∙ take_all n whole (omega (arith, ap length is, length-take n whole))

pub front-least : (bytes : List ℕ) → HEADER_BYTES ≤ front_length bytes
front-least bytes = go (is_record bytes && nat_le (header_of bytes).length OUTPUT_LIMIT)
  where
    go : (b : Bool) → HEADER_BYTES ≤ (if b then HEADER_BYTES + (header_of bytes).length else HEADER_BYTES)
    go true = omega arith
    go false = omega arith

pub front-most : (bytes : List ℕ) → front_length bytes ≤ 2 ^ 32
front-most bytes = go (is_record bytes && nat_le (header_of bytes).length OUTPUT_LIMIT) refl
  where
    go : (b : Bool) → (is_record bytes && nat_le (header_of bytes).length OUTPUT_LIMIT) ≡ b → (if b then HEADER_BYTES + (header_of bytes).length else HEADER_BYTES) ≤ 2 ^ 32
    go true e = omega (arith, leb-true (header_of bytes).length OUTPUT_LIMIT (right-true (is_record bytes) (nat_le (header_of bytes).length OUTPUT_LIMIT) e))
    go false e = omega arith

-- the header of bytes that go on behind it
header-kept : (header more : List ℕ) → length header ≡ HEADER_BYTES → take HEADER_BYTES (header ++ more) ≡ header
header-kept header more full = ap (λ n. take n (header ++ more)) (sym full) ∙ take-append_seam header more

-- A front that is not whole was read to the file's end.
pub front-ends : (whole header front more : List ℕ) → length header ≡ HEADER_BYTES → front ≡ header ++ more → front ≡ take (front_length header) whole → length front ≤ front_length header → ¬ IsWholeFront front → front ≡ whole
front-ends whole header front more full is read most not_whole =
    let kept : take HEADER_BYTES front ≡ header = ap (take HEADER_BYTES) is ∙ header-kept header more full in
    elim (cases_order (length front) (front_length header)) [
      | inl same ↦ absurd (not_whole (omega (arith, same, front-least header), same ∙ ap front_length (sym kept)))
      | inr (inl less) ↦ cut-short whole front (front_length header) read less
      | inr (inr above) ↦ absurd (omega arith)
    ]
