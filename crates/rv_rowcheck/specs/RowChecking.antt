-- What checking a row answers, and what stands after it.
use Rattle.std.specs.Prelude.{◌≡◌, ℕ, ◌%◌, ◌≤◌, List, [], ◌∷◌, length, map, bytes_eq, nat_lt, slice_index, Option, Some, None, Result, Ok, Err}
use Rattle.rv_base.specs.declared.cells.TheConstants.{SLOTS}
use Rattle.std.specs.List.{list_all}
use Rattle.rv_base.specs.declared.rules.TheConstants.{SLOT, CELL, VALUE, TIME_ORDER}
use Rattle.rv_base.specs.declared.record.Access.{Access}
use Rattle.rv_base.specs.declared.record.End.{End}
use Rattle.rv_base.specs.declared.record.Place.{Place}
use Rattle.rv_base.specs.declared.record.Touch.{Touch}
use Rattle.rv_spec.specs.Cells.{time_of}
use Rattle.rv_spec.specs.Trace.{Row as Traced}
use Rattle.rv_rules.specs.Checks.{Check}
use Rattle.rv_rules.specs.RowRules.{old_in, due, row_rule, place_after}
use Rattle.rv_isa.specs.declared.expected.Expected.{Expected}
use Rattle.rv_isa.specs.Represented.{RepresentsExpected}
use Rattle.rv_row.specs.declared.rows.Row.{Row}
use Rattle.rv_row.specs.RowReading.{row_view}

-- a place before which a run can stand: at the address of an instruction, within the input and the output
pub record IsPlace (place : Place) (input output : List ℕ) : Type 0 where
  pub aligned : place.pc % 4 ≡ 0
  pub taken : place.input ≤ length input
  pub put : place.output ≤ length output

-- the place after the row, where it breaks no rule, or else the least rule that it breaks
abbrev pub AnswersRow : ℕ → Traced → ℕ → Place → Option End → List ℕ → List ℕ → Result Place ℕ → Type 0
AnswersRow version row step place last input output (Ok after) = (row_rule version row step place last input output ≡ None) × (after ≡ place_after version row place input)
AnswersRow version row step place last input output (Err rule) = row_rule version row step place last input output ≡ Some rule

-- for each slot the old value of the first access there, or 0
abbrev pub OldValues : List Access → List ℕ → Type 0
OldValues accesses values = (slot : ℕ) → slot ≤ SLOTS → slice_index values slot ≡ old_in accesses slot

-- the rules of a row's accesses, against those that are expected
abbrev pub access_checks : ℕ → List Access → List Touch → List Check
access_checks step accesses touches =
    (SLOT, bytes_eq (map (λ a. a.slot) accesses) (map (λ t. t.slot) touches))
    ∷ (CELL, bytes_eq (map (λ a. a.cell) accesses) (map (λ t. t.cell) touches))
    ∷ (VALUE, bytes_eq (map (λ a. a.new) accesses) (map (λ t. t.new) touches))
    ∷ (TIME_ORDER, list_all (λ a. nat_lt a.prev (time_of step a.slot)) accesses)
    ∷ []

-- a row at its place breaks this rule first, or none, where this is its expected step in a version and on an input
abbrev pub BreaksAgainst : Row → Expected → ℕ → Place → Option End → List ℕ → Option ℕ → Type 0
BreaksAgainst row e step place last output rule =
    (version : ℕ) (input : List ℕ) → row.pc ≡ place.pc → RepresentsExpected (due version (row_view row) place input) e → rule ≡ row_rule version (row_view row) step place last input output
