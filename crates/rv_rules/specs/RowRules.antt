-- The rules of one row of a record, by its own old values: it looks at no other row and at no memory.
use Rattle.std.specs.Prelude.{ℕ, ◌+◌, Bool, true, false, ◌&&◌, ◌||◌, List, [], ◌∷◌, length, drop, map, find, Option, Some, None, is_none, is_some, option_map, unwrap_or, bytes_eq, nat_lt, nat_eq, ◌==◌}
use Rattle.std.specs.List.{list_all, starts_with}
use Rattle.rv_base.specs.declared.rules.TheConstants.{PC, SLOT, CELL, VALUE, TIME_ORDER, NEXT, OUTPUT_BYTE, ENDS_EARLY, END_OTHER}
use Rattle.rv_base.specs.declared.cells.TheConstants.{FETCH_SLOT, RS1_SLOT, RS2_SLOT, A1_SLOT, A2_SLOT, MEMORY_SLOT, RD_SLOT, RESERVATION_SLOT}
use Rattle.rv_base.specs.declared.record.Access.{Access}
use Rattle.rv_base.specs.declared.record.End.{End}
use Rattle.rv_base.specs.declared.record.Place.{Place}
use Rattle.rv_base.specs.declared.record.Seen.{Seen}
use Rattle.rv_spec.specs.Cells.{time_of}
use Rattle.rv_spec.specs.Trace.{Row}
use Rattle.rv_rules.specs.Expected.{Expected, expected}
use Rattle.rv_rules.specs.Checks.{Check, first_broken}

-- the value of a slot: the old value of the row's first access there, or 0
abbrev pub old_in : List Access → ℕ → ℕ
old_in accesses slot = unwrap_or (option_map (λ a. a.old) (find (λ a. a.slot == slot) accesses)) 0

abbrev pub seen : List Access → Seen
seen accesses =
    let old = old_in accesses in
    record { s1 = old FETCH_SLOT; s2 = old RS1_SLOT; s3 = old RS2_SLOT; s4 = old A1_SLOT; s5 = old A2_SLOT; s6 = old MEMORY_SLOT; s7 = old RD_SLOT; s8 = old RESERVATION_SLOT }

abbrev pub same_end : End → Option End → Bool
same_end e None = false
same_end e (Some f) = e.kind == f.kind && e.code == f.code

-- the end of a row is that of the header, where it is the last row
abbrev pub ends_as : Option End → Option End → Bool
ends_as None e = true
ends_as (Some last) e = same_end last e

-- the step that the row has to make
abbrev pub due : ℕ → Row → Place → List ℕ → Expected
due version row place input = expected version row.pc (seen row.accesses) input place.input

-- the rules of one row, against its expected step
unfoldable pub row_checks : ℕ → Row → ℕ → Place → Option End → List ℕ → List ℕ → List Check
row_checks version row step place last input output =
    let e = due version row place input in
    (PC, row.pc == place.pc)
    ∷ (SLOT, bytes_eq (map (λ a. a.slot) row.accesses) (map (λ t. t.slot) e.touches))
    ∷ (CELL, bytes_eq (map (λ a. a.cell) row.accesses) (map (λ t. t.cell) e.touches))
    ∷ (VALUE, bytes_eq (map (λ a. a.new) row.accesses) (map (λ t. t.new) e.touches))
    ∷ (TIME_ORDER, list_all (λ a. nat_lt a.prev (time_of step a.slot)) row.accesses)
    ∷ (NEXT, row.next == e.next)
    ∷ (OUTPUT_BYTE, starts_with nat_eq (drop place.output output) e.put)
    ∷ (ENDS_EARLY, is_none e.end || is_some last)
    ∷ (END_OTHER, ends_as last e.end)
    ∷ []

-- the least rule that the row breaks; last is the header's end where the row is the last of the file
abbrev pub row_rule : ℕ → Row → ℕ → Place → Option End → List ℕ → List ℕ → Option ℕ
row_rule version row step place last input output = first_broken (row_checks version row step place last input output)

-- the place after the row
unfoldable pub place_after : ℕ → Row → Place → List ℕ → Place
place_after version row place input =
    let e = due version row place input in
    record { pc = e.next; input = place.input + e.took; output = place.output + length e.put }
