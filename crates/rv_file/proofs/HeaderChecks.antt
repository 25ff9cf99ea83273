-- The checks of a header, in order.
use Rattle.std.proofs.Common.{◌≡◌, ℕ, ◌+◌, ◌-◌, ◌<◌, ◌≤◌, Bool, true, false, ◌||◌, List, [], ◌∷◌, ◌++◌, length, get_or, take, Some, None, refl, sym, ap, ◌∙◌, arith}
use Rattle.std.specs.Prelude.{bytes_eq, ◌==◌, if◌then◌else◌}
use Rattle.std.proofs.lemmas.Bool.{leb-true, le-leb, lt-leb, false_from_ne_true, eqb-true, eqb-false}
use Rattle.std.proofs.lemmas.List.{get_or-take}
use Rattle.std.proofs.lemmas.Slice.Eq.{bytes_eq-Decides}
use Rattle.rv_base.specs.declared.record.Header.{Header}
use Rattle.rv_spec.specs.Record.{magic}
use Rattle.rv_rules.specs.Reading.{header_of}
use Rattle.rv_rules.specs.Checks.{Check, first_broken}
use Rattle.rv_row.proofs.Lemmas.{all-hold}
use Rattle.rv_rules.proofs.Lemmas.{or-false}
use Rattle.rv_file.specs.Front.{is_record}
use Rattle.rv_rules.specs.Reading.{number_checks}
use Rattle.rv_file.proofs.FileLaws.{all_checks, from_3, from_8, from_7, from_6, is_long, is_known, output_there, output_holds, end_holds, counts_hold, size_holds}

-- the eighth byte of a magic
eighth : (bytes : List ℕ) (version : ℕ) → take 8 bytes ≡ magic version → get_or bytes 7 0 ≡ 0x30 + version
eighth bytes version e = sym (get_or-take 8 bytes 7 0 (omega arith)) ∙ ap (λ (xs : List ℕ). get_or xs 7 0) e

other : (bytes : List ℕ) (version : ℕ) → (get_or bytes 7 0 ≡ 0x30 + version → ⊥) → bytes_eq (take 8 bytes) (magic version) ≡ false
other bytes version differ = false_from_ne_true (bytes_eq (take 8 bytes) (magic version)) (λ e. differ (eighth bytes version ((bytes_eq-Decides (take 8 bytes) (magic version)).0 e)))

known-by : (bytes : List ℕ) (b : Bool) → (get_or bytes 7 0 == 0x32) ≡ b → is_record bytes ≡ bytes_eq (take 8 bytes) (magic (if b then 2 else 1))
known-by bytes true e =
    let is_two = eqb-true (get_or bytes 7 0) 0x32 e in
    ap (λ b. b || bytes_eq (take 8 bytes) (magic 2)) (other bytes 1 (λ one. absurd (omega (arith, is_two, one))))
known-by bytes false e =
    ap (λ b. bytes_eq (take 8 bytes) (magic 1) || b) (other bytes 2 (λ two. eqb-false (get_or bytes 7 0) 0x32 e two))
    ∙ or-false (bytes_eq (take 8 bytes) (magic 1))

pub known : (bytes : List ℕ) → is_record bytes ≡ bytes_eq (take 8 bytes) (magic (header_of bytes).version)
known bytes = known-by bytes (get_or bytes 7 0 == 0x32) refl

pub broken-front : (cs ds : List Check) (rule : ℕ) → first_broken cs ≡ Some rule → first_broken (cs ++ ds) ≡ Some rule
broken-front [] ds rule e = absurd cc
broken-front ((k, true) ∷ cs) ds rule e = broken-front cs ds rule e
broken-front ((k, false) ∷ cs) ds rule e = e

pub front-holds : (cs ds : List Check) → first_broken cs ≡ None → first_broken (cs ++ ds) ≡ first_broken ds
front-holds [] ds e = refl
front-holds ((k, true) ∷ cs) ds e = front-holds cs ds e
front-holds ((k, false) ∷ cs) ds e = absurd cc

pub opens : (file : List ℕ) → is_long file ≡ true → is_known file ≡ true → first_broken (all_checks file) ≡ first_broken (number_checks (header_of file) ++ (1, output_there file) ∷ [])
opens file long known = ap (λ a. first_broken ((1, a) ∷ (2, is_known file) ∷ from_3 file)) long ∙ ap (λ b. first_broken ((2, b) ∷ from_3 file)) known

pub room : (file : List ℕ) → first_broken (all_checks file) ≡ None → (173 ≤ length file) × (173 + (header_of file).length ≤ length file)
room file e =
    let h = header_of file in
    let c1 = all-hold (1, is_long file) ((2, is_known file) ∷ from_3 file) e in
    let c2 = all-hold (2, is_known file) (from_3 file) c1.1 in
    let c5 = all-hold (5, size_holds h) (from_6 file) c2.1 in
    let c6 = all-hold (6, counts_hold h) (from_7 file) c5.1 in
    let c7 = all-hold (7, end_holds h) (from_8 file) c6.1 in
    let c8 = all-hold (8, output_holds h) ((1, output_there file) ∷ []) c7.1 in
    let c9 = all-hold (1, output_there file) [] c8.1 in
    (leb-true 173 (length file) c1.0, leb-true (173 + h.length) (length file) c9.0)

-- ---- what the checks of a header answer

pub short-file : (file : List ℕ) → length file < 173 → first_broken (all_checks file) ≡ Some 1
short-file file lt = ap (λ a. first_broken ((1, a) ∷ (2, is_known file) ∷ from_3 file)) (lt-leb 173 (length file) lt)

pub wrong-magic : (file : List ℕ) → 173 ≤ length file → is_known file ≡ false → first_broken (all_checks file) ≡ Some 2
wrong-magic file le wrong =
    ap (λ a. first_broken ((1, a) ∷ (2, is_known file) ∷ from_3 file)) (le-leb 173 (length file) le)
    ∙ ap (λ b. first_broken ((2, b) ∷ from_3 file)) wrong

numbers-first : (file : List ℕ) (h : Header) → 173 ≤ length file → is_known file ≡ true → h ≡ header_of file → first_broken (all_checks file) ≡ first_broken (number_checks h ++ (1, output_there file) ∷ [])
numbers-first file h le right is =
    opens file (le-leb 173 (length file) le) right
    ∙ ap (λ (k : Header). first_broken (number_checks k ++ (1, output_there file) ∷ [])) (sym is)

pub number-rule : (file : List ℕ) (h : Header) (rule : ℕ) → 173 ≤ length file → is_known file ≡ true → h ≡ header_of file → first_broken (number_checks h) ≡ Some rule → first_broken (all_checks file) ≡ Some rule
number-rule file h rule le right is broken = numbers-first file h le right is ∙ broken-front (number_checks h) ((1, output_there file) ∷ []) rule broken

pub output-missing : (file : List ℕ) (h : Header) → 173 ≤ length file → is_known file ≡ true → h ≡ header_of file → first_broken (number_checks h) ≡ None → length file - 173 < h.length → first_broken (all_checks file) ≡ Some 1
output-missing file h le right is holds lt =
    let stated : h.length ≡ (header_of file).length = ap (λ (k : Header). k.length) is in
    numbers-first file h le right is
    ∙ front-holds (number_checks h) ((1, output_there file) ∷ []) holds
    ∙ ap (λ b. first_broken ((1, b) ∷ [])) (lt-leb (173 + (header_of file).length) (length file) (omega (arith, stated)))

pub all-good : (file : List ℕ) (h : Header) → 173 ≤ length file → is_known file ≡ true → h ≡ header_of file → first_broken (number_checks h) ≡ None → h.length ≤ length file - 173 → first_broken (all_checks file) ≡ None
all-good file h le right is holds there =
    let stated : h.length ≡ (header_of file).length = ap (λ (k : Header). k.length) is in
    numbers-first file h le right is
    ∙ front-holds (number_checks h) ((1, output_there file) ∷ []) holds
    ∙ ap (λ b. first_broken ((1, b) ∷ [])) (le-leb (173 + (header_of file).length) (length file) (omega (arith, stated)))
