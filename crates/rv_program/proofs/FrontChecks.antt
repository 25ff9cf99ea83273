-- The checks of a header for a program and an input, in order.
use Rattle.std.proofs.Common.{◌≡◌, ℕ, ◌+◌, ◌<◌, ◌≤◌, Bool, true, false, ◌||◌, not, List, [], ◌∷◌, ◌++◌, length, get_or, take, Some, None, refl, sym, ap, ◌∙◌, arith}
use Rattle.std.specs.Prelude.{bytes_eq, nat_le, ◌==◌, if◌then◌else◌}
use Rattle.std.proofs.lemmas.Bool.{le-leb, lt-leb, false_from_ne_true, eqb-true, eqb-false}
use Rattle.std.proofs.lemmas.List.{get_or-take}
use Rattle.std.proofs.lemmas.Slice.Eq.{bytes_eq-Decides}
use Rattle.sha2.specs.Sha512.{sha512}
use Rattle.rv_base.specs.declared.record.Header.{Header}
use Rattle.rv_spec.specs.Digest.{Lanes}
use Rattle.rv_spec.specs.Record.{magic}
use Rattle.rv_rules.specs.Checks.{Check, first_broken}
use Rattle.rv_rules.specs.Reading.{header_of, header_checks, number_checks}
use Rattle.rv_rules.proofs.Lemmas.{or-false}
use Rattle.rv_file.specs.Front.{is_record, header_in}
use Rattle.rv_file.proofs.Lemmas.{front-holds}
use Rattle.rv_program.proofs.Fronts.{header-in-front, magic-in-front}

-- ---- the magic of a version

-- the eighth byte of a magic
eighth : (bytes : List ℕ) (version : ℕ) → take 8 bytes ≡ magic version → get_or bytes 7 0 ≡ 0x30 + version
eighth bytes version e = sym (get_or-take 8 bytes 7 0 (omega arith)) ∙ ap (λ (xs : List ℕ). get_or xs 7 0) e

other : (bytes : List ℕ) (version : ℕ) → (get_or bytes 7 0 ≡ 0x30 + version → ⊥) → bytes_eq (take 8 bytes) (magic version) ≡ false
other bytes version differ = false_from_ne_true (bytes_eq (take 8 bytes) (magic version)) (λ e. differ (eighth bytes version ((bytes_eq-Decides (take 8 bytes) (magic version)).0 e)))

known-by : (bytes : List ℕ) (b : Bool) → (get_or bytes 7 0 == 0x32) ≡ b → is_record bytes ≡ bytes_eq (take 8 bytes) (magic (if b then 2 else 1))
known-by bytes true e =
    let is_two = eqb-true (get_or bytes 7 0) 0x32 e in
    ap (λ b. b || bytes_eq (take 8 bytes) (magic 2)) (other bytes 1 (λ one. absurd (omega (arith, is_two, one))))
known-by bytes false e =
    ap (λ b. bytes_eq (take 8 bytes) (magic 1) || b) (other bytes 2 (λ two. eqb-false (get_or bytes 7 0) 0x32 e two))
    ∙ or-false (bytes_eq (take 8 bytes) (magic 1))

abbrev magic_holds : List ℕ → Bool
magic_holds bytes = bytes_eq (take 8 bytes) (magic (header_of bytes).version)

known : (file front : List ℕ) → 173 ≤ length file → front ≡ take 173 file → is_record front ≡ magic_holds file
known file front room is =
    known-by front (get_or front 7 0 == 0x32) refl
    ∙ ap (λ (xs : List ℕ). bytes_eq xs (magic (header_of front).version)) (magic-in-front file front room is)
    ∙ ap (λ (h : Header). bytes_eq (take 8 file) (magic h.version)) (header-in-front file front room is)

some-if : (b : Bool) (k h : Header) → (if b then Some k else None) ≡ Some h → (b ≡ true) × (k ≡ h)
some-if true k h e = (refl, cc)
some-if false k h e = absurd cc

none-if : (b : Bool) (k : Header) → (if b then Some k else None) ≡ None → b ≡ false
none-if true k e = absurd cc
none-if false k e = refl

-- ---- the checks in order

-- those behind the magic
abbrev behind_magic : List ℕ → List ℕ → List ℕ → Header → List Check
behind_magic elf input file h =
    (3, bytes_eq h.elf (sha512 elf)) ∷ (4, bytes_eq h.input (sha512 input)) ∷ (number_checks h ++ (1, nat_le (173 + h.length) (length file)) ∷ [])

pub is-short : (lanes : Lanes) (elf input file : List ℕ) → length file < 173 → first_broken (header_checks true lanes elf input file) ≡ Some 1
is-short lanes elf input file lt =
    ap (λ a. first_broken ((1, a) ∷ (2, magic_holds file) ∷ behind_magic elf input file (header_of file))) (lt-leb 173 (length file) lt)

long : (lanes : Lanes) (elf input file : List ℕ) → 173 ≤ length file
    → first_broken (header_checks true lanes elf input file) ≡ first_broken ((2, magic_holds file) ∷ behind_magic elf input file (header_of file))
long lanes elf input file le = ap (λ a. first_broken ((1, a) ∷ (2, magic_holds file) ∷ behind_magic elf input file (header_of file))) (le-leb 173 (length file) le)

-- Some bytes are the first 173 of a file.
pub record IsFront (file front : List ℕ) : Type 0 where
  pub room : 173 ≤ length file
  pub is : front ≡ take 173 file

pub no-magic : (lanes : Lanes) (elf input file front : List ℕ) → IsFront file front → header_in front ≡ None → first_broken (header_checks true lanes elf input file) ≡ Some 2
no-magic lanes elf input file front f none =
    long lanes elf input file f.room
    ∙ ap (λ b. first_broken ((2, b) ∷ behind_magic elf input file (header_of file))) (sym (known file front f.room f.is) ∙ none-if (is_record front) (header_of front) none)

-- the header that was read is the file's
pub header-is : (file front : List ℕ) (h : Header) → IsFront file front → header_in front ≡ Some h → h ≡ header_of file
header-is file front h f some = sym (some-if (is_record front) (header_of front) h some).1 ∙ header-in-front file front f.room f.is

has-magic : (lanes : Lanes) (elf input file front : List ℕ) (h : Header) → IsFront file front → header_in front ≡ Some h
    → first_broken (header_checks true lanes elf input file) ≡ first_broken (behind_magic elf input file h)
has-magic lanes elf input file front h f some =
    long lanes elf input file f.room
    ∙ ap (λ b. first_broken ((2, b) ∷ behind_magic elf input file (header_of file))) (sym (known file front f.room f.is) ∙ (some-if (is_record front) (header_of front) h some).0)
    ∙ ap (λ (k : Header). first_broken (behind_magic elf input file k)) (sym (header-is file front h f some))

-- ---- the hashes, as they are compared

not-true : (x : Bool) → not x ≡ true → x ≡ false
not-true true e = absurd cc
not-true false e = refl

not-false : (x : Bool) → not x ≡ false → x ≡ true
not-false true e = refl
not-false false e = absurd cc

-- Whether a stated hash differs from a computed one was found to be r, of files whose hash is h.
pub record IsCompared (r : Bool) (stated computed h : List ℕ) : Type 0 where
  pub answer : r ≡ not (bytes_eq stated computed)
  pub is : computed ≡ h

differs : (r : Bool) (stated computed h : List ℕ) → IsCompared r stated computed h → r ≡ true → bytes_eq stated h ≡ false
differs r stated computed h q e = ap (bytes_eq stated) (sym q.is) ∙ not-true (bytes_eq stated computed) (sym q.answer ∙ e)

equals : (r : Bool) (stated computed h : List ℕ) → IsCompared r stated computed h → r ≡ false → bytes_eq stated h ≡ true
equals r stated computed h q e = ap (bytes_eq stated) (sym q.is) ∙ not-false (bytes_eq stated computed) (sym q.answer ∙ e)

-- ---- what is answered

broken-front : (cs ds : List Check) (rule : ℕ) → first_broken cs ≡ Some rule → first_broken (cs ++ ds) ≡ Some rule
broken-front [] ds rule e = absurd cc
broken-front ((k, true) ∷ cs) ds rule e = broken-front cs ds rule e
broken-front ((k, false) ∷ cs) ds rule e = e

-- A header was read from the first bytes of a file.
pub record IsReadOf (file front : List ℕ) (h : Header) : Type 0 where
  pub cut : IsFront file front
  pub read : header_in front ≡ Some h

pub wrong-program : (lanes : Lanes) (elf input file front : List ℕ) (h : Header) (r : Bool) (computed : List ℕ)
    → IsReadOf file front h → IsCompared r h.elf computed (sha512 elf) → r ≡ true → first_broken (header_checks true lanes elf input file) ≡ Some 3
wrong-program lanes elf input file front h r computed f q e =
    has-magic lanes elf input file front h f.cut f.read
    ∙ ap (λ b. first_broken ((3, b) ∷ (4, bytes_eq h.input (sha512 input)) ∷ (number_checks h ++ (1, nat_le (173 + h.length) (length file)) ∷ []))) (differs r h.elf computed (sha512 elf) q e)

right-program : (lanes : Lanes) (elf input file front : List ℕ) (h : Header) (r : Bool) (computed : List ℕ)
    → IsReadOf file front h → IsCompared r h.elf computed (sha512 elf) → r ≡ false
    → first_broken (header_checks true lanes elf input file) ≡ first_broken ((4, bytes_eq h.input (sha512 input)) ∷ (number_checks h ++ (1, nat_le (173 + h.length) (length file)) ∷ []))
right-program lanes elf input file front h r computed f q e =
    has-magic lanes elf input file front h f.cut f.read
    ∙ ap (λ b. first_broken ((3, b) ∷ (4, bytes_eq h.input (sha512 input)) ∷ (number_checks h ++ (1, nat_le (173 + h.length) (length file)) ∷ []))) (equals r h.elf computed (sha512 elf) q e)

-- Both hashes were compared, with these answers.
pub record AreCompared (elf input : List ℕ) (h : Header) (r s : Bool) (elf_hash input_hash : List ℕ) : Type 0 where
  pub elf_compared : IsCompared r h.elf elf_hash (sha512 elf)
  pub input_compared : IsCompared s h.input input_hash (sha512 input)
  pub right : r ≡ false

pub wrong-input : (lanes : Lanes) (elf input file front : List ℕ) (h : Header) (r s : Bool) (elf_hash input_hash : List ℕ)
    → IsReadOf file front h → AreCompared elf input h r s elf_hash input_hash → s ≡ true → first_broken (header_checks true lanes elf input file) ≡ Some 4
wrong-input lanes elf input file front h r s elf_hash input_hash f q e =
    right-program lanes elf input file front h r elf_hash f q.elf_compared q.right
    ∙ ap (λ b. first_broken ((4, b) ∷ (number_checks h ++ (1, nat_le (173 + h.length) (length file)) ∷ []))) (differs s h.input input_hash (sha512 input) q.input_compared e)

right-input : (lanes : Lanes) (elf input file front : List ℕ) (h : Header) (r s : Bool) (elf_hash input_hash : List ℕ)
    → IsReadOf file front h → AreCompared elf input h r s elf_hash input_hash → s ≡ false
    → first_broken (header_checks true lanes elf input file) ≡ first_broken (number_checks h ++ (1, nat_le (173 + h.length) (length file)) ∷ [])
right-input lanes elf input file front h r s elf_hash input_hash f q e =
    right-program lanes elf input file front h r elf_hash f q.elf_compared q.right
    ∙ ap (λ b. first_broken ((4, b) ∷ (number_checks h ++ (1, nat_le (173 + h.length) (length file)) ∷ []))) (equals s h.input input_hash (sha512 input) q.input_compared e)

pub wrong-number : (lanes : Lanes) (elf input file front : List ℕ) (h : Header) (r s : Bool) (elf_hash input_hash : List ℕ) (rule : ℕ)
    → IsReadOf file front h → AreCompared elf input h r s elf_hash input_hash → s ≡ false → first_broken (number_checks h) ≡ Some rule
    → first_broken (header_checks true lanes elf input file) ≡ Some rule
wrong-number lanes elf input file front h r s elf_hash input_hash rule f q e broken =
    right-input lanes elf input file front h r s elf_hash input_hash f q e
    ∙ broken-front (number_checks h) ((1, nat_le (173 + h.length) (length file)) ∷ []) rule broken

right-numbers : (lanes : Lanes) (elf input file front : List ℕ) (h : Header) (r s : Bool) (elf_hash input_hash : List ℕ)
    → IsReadOf file front h → AreCompared elf input h r s elf_hash input_hash → s ≡ false → first_broken (number_checks h) ≡ None
    → first_broken (header_checks true lanes elf input file) ≡ first_broken ((1, nat_le (173 + h.length) (length file)) ∷ [])
right-numbers lanes elf input file front h r s elf_hash input_hash f q e holds =
    right-input lanes elf input file front h r s elf_hash input_hash f q e
    ∙ front-holds (number_checks h) ((1, nat_le (173 + h.length) (length file)) ∷ []) holds

pub no-output : (lanes : Lanes) (elf input file front : List ℕ) (h : Header) (r s : Bool) (elf_hash input_hash : List ℕ)
    → IsReadOf file front h → AreCompared elf input h r s elf_hash input_hash → s ≡ false → first_broken (number_checks h) ≡ None → length file < 173 + h.length
    → first_broken (header_checks true lanes elf input file) ≡ Some 1
no-output lanes elf input file front h r s elf_hash input_hash f q e holds lt =
    right-numbers lanes elf input file front h r s elf_hash input_hash f q e holds
    ∙ ap (λ b. first_broken ((1, b) ∷ [])) (lt-leb (173 + h.length) (length file) lt)

pub all-hold : (lanes : Lanes) (elf input file front : List ℕ) (h : Header) (r s : Bool) (elf_hash input_hash : List ℕ)
    → IsReadOf file front h → AreCompared elf input h r s elf_hash input_hash → s ≡ false → first_broken (number_checks h) ≡ None → 173 + h.length ≤ length file
    → first_broken (header_checks true lanes elf input file) ≡ None
all-hold lanes elf input file front h r s elf_hash input_hash f q e holds le =
    right-numbers lanes elf input file front h r s elf_hash input_hash f q e holds
    ∙ ap (λ b. first_broken ((1, b) ∷ [])) (le-leb (173 + h.length) (length file) le)
