use Rattle.std.proofs.Common.{◌≡◌, ◌++◌, take, string_bytes}
use Rattle.std.specs.List.{flat_map}
use Rattle.rv_row.specs.RowReading.{row_view}
use Rattle.rv_text.specs.Listing.{access_line, step_line}
use Rattle.rv_text.proofs.listing.push_row.Given as goal

abbrev pub invariant-loop-access : goal.invariant-loop-access
invariant-loop-access l =
    string_bytes l.text ≡ string_bytes l.fn.text ++ (step_line l.version l.step (row_view l.row) ++ flat_map (access_line l.step) (take l.access-index l.row.accesses.items))
