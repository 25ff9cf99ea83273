-- The upgrade of a record file from version 1 to version 2, and what blocks it (this project's own).
use Rattle.std.specs.Prelude.{ℕ, ◌-◌, ◌&&◌, List, length, Option, Some, None, is_some, option_map, unwrap_or, slice_get, slice_set, ◌==◌, if◌then◌else◌}
use Rattle.rv_base.specs.declared.layout.TheConstants.{VERSION_AT}
use Rattle.rv_base.specs.declared.machine.TheConstants.{ILLEGAL_WORD}
use Rattle.rv_base.specs.declared.record.Access.{Access}
use Rattle.rv_spec.specs.Decode.{decode_atomic}
use Rattle.rv_spec.specs.Trace.{Row}
use Rattle.rv_spec.specs.Record.{Parts, all_rows}
use Rattle.rv_upgrade.specs.declared.reasons.Blocked.{Blocked}
use Rattle.rv_upgrade.specs.declared.reasons.Blocked.TheVariants.{New, Atomic}

-- the old value of a row's first access
abbrev pub first_old : Row → ℕ
first_old r = unwrap_or (option_map (λ (a : Access). a.old) (slice_get r.accesses 0)) 0

-- that of the last row's: in an accepted file, the word that the last step fetched
unfoldable pub last_word : Parts → ℕ
last_word p = unwrap_or (option_map first_old (slice_get (all_rows p) (length (all_rows p) - 1))) 0

-- Why a file has no upgrade, if it has none: its version is 2, or it ends as at an illegal word where its last row shows a word of extension A.
unfoldable pub blocked : Parts → Option Blocked
blocked p =
    if p.header.version == 2 then Some New
    else (if p.header.end.kind == ILLEGAL_WORD && is_some (decode_atomic (last_word p)) then Some (Atomic (last_word p)) else None)

-- the file with the version's digit made 2
abbrev pub upgraded : List ℕ → List ℕ
upgraded file = slice_set file VERSION_AT 0x32

-- the parts with version 2
abbrev pub upgraded_parts : Parts → Parts
upgraded_parts p = record p { header = record p.header { version = 2 } }
