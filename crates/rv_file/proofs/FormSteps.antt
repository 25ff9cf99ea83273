-- The steps of parsing, one after another.
use Rattle.std.proofs.Common.{◌≡◌, ℕ, ◌+◌, List, [], ◌∷◌, length, drop, None, Result, Ok, Err, sym, ap, ◌∙◌}
use Rattle.std.specs.Prelude.{nat_le, ◌==◌}
use Rattle.rv_base.specs.declared.record.Header.{Header}
use Rattle.rv_base.specs.declared.record.Refusal.{Refusal}
use Rattle.rv_spec.specs.Words.{u32_at}
use Rattle.rv_rules.specs.Reading.{header_of}
use Rattle.rv_rules.specs.Checks.{unless_broken, ◌>>=◌}
use Rattle.rv_file.specs.Skipping.{shards_left, entries_left, form_left}
use Rattle.rv_file.proofs.FileLaws.{all_checks}

abbrev opened : List ℕ → Result Header Refusal
opened file = unless_broken 0 0 (all_checks file) (header_of file)

abbrev numbered : Header → List ℕ → Result (List ℕ) Refusal
numbered h table = unless_broken h.shards 0 ((1, nat_le 4 (length table)) ∷ []) (drop 4 table)

abbrev at_end : Header → ℕ → List ℕ → Result (Header × ℕ) Refusal
at_end h count left = unless_broken h.shards count ((27, length left == 0) ∷ []) (h, count)

abbrev at_entries : Header → List ℕ → List ℕ → Result (Header × ℕ) Refusal
at_entries h table entries = entries_left (u32_at table 0) h 0 None entries >>= at_end h (u32_at table 0)

abbrev at_table : Header → List ℕ → Result (Header × ℕ) Refusal
at_table h table = numbered h table >>= at_entries h table

abbrev at_shards : List ℕ → Header → Result (Header × ℕ) Refusal
at_shards file h = shards_left h.shards h 0 (drop (173 + h.length) file) >>= at_table h

pub header-refused : (file : List ℕ) (e : Refusal) → opened file ≡ Err e → form_left file ≡ Err e
unfolding form_left
header-refused file e is = ap (λ r. r >>= at_shards file) is

reaches-shards : (file start : List ℕ) (h : Header) → opened file ≡ Ok h → start ≡ drop (173 + h.length) file → form_left file ≡ (shards_left h.shards h 0 start >>= at_table h)
unfolding form_left
reaches-shards file start h is from = ap (λ r. r >>= at_shards file) is ∙ ap (λ (xs : List ℕ). shards_left h.shards h 0 xs >>= at_table h) (sym from)

pub shards-refused : (file start : List ℕ) (h : Header) (e : Refusal) → opened file ≡ Ok h → start ≡ drop (173 + h.length) file → shards_left h.shards h 0 start ≡ Err e → form_left file ≡ Err e
shards-refused file start h e is from refused = reaches-shards file start h is from ∙ ap (λ r. r >>= at_table h) refused

reaches-table : (file start table : List ℕ) (h : Header) → opened file ≡ Ok h → start ≡ drop (173 + h.length) file → shards_left h.shards h 0 start ≡ Ok table → form_left file ≡ at_table h table
reaches-table file start table h is from went = reaches-shards file start h is from ∙ ap (λ r. r >>= at_table h) went

pub count-refused : (file start table : List ℕ) (h : Header) (e : Refusal) → opened file ≡ Ok h → start ≡ drop (173 + h.length) file → shards_left h.shards h 0 start ≡ Ok table
    → numbered h table ≡ Err e → form_left file ≡ Err e
count-refused file start table h e is from went refused = reaches-table file start table h is from went ∙ ap (λ r. r >>= at_entries h table) refused

reaches-entries : (file start table entries : List ℕ) (h : Header) (count : ℕ) → opened file ≡ Ok h → start ≡ drop (173 + h.length) file → shards_left h.shards h 0 start ≡ Ok table
    → numbered h table ≡ Ok entries → count ≡ u32_at table 0 → form_left file ≡ (entries_left count h 0 None entries >>= at_end h count)
reaches-entries file start table entries h count is from went counted stated =
    reaches-table file start table h is from went ∙ ap (λ r. r >>= at_entries h table) counted
    ∙ ap (λ n. entries_left n h 0 None entries >>= at_end h n) (sym stated)

pub entries-refused : (file start table entries : List ℕ) (h : Header) (count : ℕ) (e : Refusal) → opened file ≡ Ok h → start ≡ drop (173 + h.length) file → shards_left h.shards h 0 start ≡ Ok table
    → numbered h table ≡ Ok entries → count ≡ u32_at table 0 → entries_left count h 0 None entries ≡ Err e → form_left file ≡ Err e
entries-refused file start table entries h count e is from went counted stated refused =
    reaches-entries file start table entries h count is from went counted stated ∙ ap (λ r. r >>= at_end h count) refused

pub reaches-end : (file start table entries left : List ℕ) (h : Header) (count : ℕ) → opened file ≡ Ok h → start ≡ drop (173 + h.length) file → shards_left h.shards h 0 start ≡ Ok table
    → numbered h table ≡ Ok entries → count ≡ u32_at table 0 → entries_left count h 0 None entries ≡ Ok left → form_left file ≡ unless_broken h.shards count ((27, length left == 0) ∷ []) (h, count)
reaches-end file start table entries left h count is from went counted stated over =
    reaches-entries file start table entries h count is from went counted stated ∙ ap (λ r. r >>= at_end h count) over
