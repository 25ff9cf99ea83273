use Rattle.std.proofs.Common.{◌≡◌, ℕ, ◌-◌, true, false, ◌==◌, ◌||◌, List, [], ◌∷◌, ◌++◌, take, drop, length, replicate, nat_eq, is_none, is_some, Option, Some, None, refl, sym, ◌∙◌, ap, ap₂}
use Rattle.std.specs.Int.{w32, to_le_bytes}
use Rattle.std.specs.List.{starts_with}
use Rattle.std.proofs.lemmas.Bool.{eq-eqb}
use Rattle.std.proofs.Math.Seq.{take-append_seam}
use Rattle.rv_base.specs.declared.rules.TheConstants.{PC, NEXT, OUTPUT_BYTE, ENDS_EARLY, END_OTHER}
use Rattle.rv_base.specs.declared.record.End.{End}
use Rattle.rv_base.specs.declared.record.Place.{Place}
use Rattle.rv_rules.specs.Expected.{Expected}
use Rattle.rv_rules.specs.RowRules.{due, row_checks, row_rule, ends_as}
use Rattle.rv_rules.specs.Checks.{Check, first_broken}
use Rattle.rv_row.specs.declared.rows.Row.{Row}
use Rattle.rv_row.specs.RowReading.{row_view}
use Rattle.rv_rowcheck.specs.RowChecking.{access_checks}
use Rattle.rv_rowcheck.proofs.checking.broken.Goals as goal

-- the bytes put are the first of the word
put-taken : (put word : List ℕ) (count : ℕ) → count ≡ length put → word ≡ put ++ replicate (4 - count) 0 → take count word ≡ put
put-taken put word count long spelled = ap₂ take long spelled ∙ take-append_seam put (replicate (4 - count) 0)

-- what the checks in front answer, where one of them is broken
broken-first : (rule : ℕ) (front behind : List Check) → first_broken front ≡ Some rule → first_broken (front ++ behind) ≡ Some rule
broken-first rule [] behind is = absurd cc
broken-first rule ((n, true) ∷ front) behind is = broken-first rule front behind is
broken-first rule ((n, false) ∷ front) behind is = is

-- and where none is
none-first : (front behind : List Check) → first_broken front ≡ None → first_broken (front ++ behind) ≡ first_broken behind
none-first [] behind is = refl
none-first ((n, true) ∷ front) behind is = none-first front behind is
none-first ((n, false) ∷ front) behind is = absurd cc

-- the checks of the accesses, in the words of the rules, and the others
abbrev accesses_of : Row → Expected → ℕ → List Check
accesses_of row e step = access_checks step row.accesses.items e.touches

abbrev others_of : Row → Expected → Place → Option End → List ℕ → List Check
others_of row e place last output =
    (NEXT, row.next == e.next) ∷ (OUTPUT_BYTE, starts_with nat_eq (drop place.output output) e.put) ∷ (ENDS_EARLY, is_none e.end || is_some last) ∷ (END_OTHER, ends_as last e.end) ∷ []

split-checks : (version : ℕ) (row : Row) (step : ℕ) (place : Place) (last : Option End) (input output : List ℕ) → row.pc ≡ place.pc
    → let e : Expected = due version (row_view row) place input in row_rule version (row_view row) step place last input output ≡ first_broken (accesses_of row e step ++ others_of row e place last output)
unfolding row_checks
split-checks version row step place last input output here =
    let e : Expected = due version (row_view row) place input in
    ap (λ b. first_broken ((PC, b) ∷ (accesses_of row e step ++ others_of row e place last output))) (eq-eqb row.pc place.pc here)

pub returns-in-Some : goal.returns-in-Some
returns-in-Some c version input here as_due =
    let e : Expected = due version (row_view c.args.row.now) c.args.place input in
    let found : first_broken (accesses_of c.args.row.now e c.args.step) ≡ Some c.in-Some.rule =
    ap₂ (λ xs ys. first_broken (access_checks c.args.step xs ys)) (sym c.as_slice.ensures.value) (sym (c.as_slice-2.ensures.value ∙ as_due.touches)) ∙ sym c.broken_access.ensures ∙ c.in-Some.is in
    sym (split-checks version c.args.row.now c.args.step c.args.place c.args.last input c.args.output.now here
    ∙ broken-first c.in-Some.rule (accesses_of c.args.row.now e c.args.step) (others_of c.args.row.now e c.args.place c.args.last c.args.output.now) found)

pub returns : goal.returns
returns c version input here as_due =
    let e : Expected = due version (row_view c.args.row.now) c.args.place input in
    let none : first_broken (accesses_of c.args.row.now e c.args.step) ≡ None =
    ap₂ (λ xs ys. first_broken (access_checks c.args.step xs ys)) (sym c.as_slice.ensures.value) (sym (c.as_slice-2.ensures.value ∙ as_due.touches)) ∙ sym c.broken_access.ensures ∙ c.in_default.is in
    let next : (c.args.row.now.next == c.args.due.now.next) ≡ (c.args.row.now.next == e.next) = ap (λ n. c.args.row.now.next == n) as_due.next in
    let put : take c.args.due.now.put (to_le_bytes w32 c.args.due.now.word) ≡ e.put = put-taken e.put (to_le_bytes w32 c.args.due.now.word) c.args.due.now.put as_due.put as_due.word in
    let bytes : c.bytes_agree.result ≡ starts_with nat_eq (drop c.args.place.output c.args.output.now) e.put =
    c.bytes_agree.ensures ∙ ap (λ bs. starts_with nat_eq (drop c.args.place.output c.args.output.now) bs) put in
    let early : c.ends_no_earlier.result ≡ (is_none e.end || is_some c.args.last) = c.ends_no_earlier.ensures ∙ ap (λ o. is_none o || is_some c.args.last) as_due.end in
    let ends : c.ends_as.result ≡ ends_as c.args.last e.end = c.ends_as.ensures ∙ ap (λ o. ends_as c.args.last o) as_due.end in
    c.first_broken.ensures
    ∙ (λ i. first_broken ((NEXT, next i) ∷ (OUTPUT_BYTE, bytes i) ∷ (ENDS_EARLY, early i) ∷ (END_OTHER, ends i) ∷ []))
    ∙ sym (split-checks version c.args.row.now c.args.step c.args.place c.args.last input c.args.output.now here ∙ none-first (accesses_of c.args.row.now e c.args.step) (others_of c.args.row.now e c.args.place c.args.last c.args.output.now) none)
