use Rattle.std.proofs.Common.{◌++◌, ◌≤◌, length, string_bytes, ap, ◌∙◌, arith}
use Rattle.std.specs.List.{flat_map}
use Rattle.std.proofs.lemmas.List.{take_all}
use Rattle.rv_row.specs.RowReading.{row_view}
use Rattle.rv_text.specs.Listing.{access_line, step_line, row_lines}
use Rattle.rv_text.proofs.listing.push_row.Goals as goal

pub returns : goal.returns
unfolding row_lines
returns c =
    let all = c.args.row.now.accesses.items in
    let past : length all ≤ c.loop-access.access-index = omega (arith, ap length c.deref-access-items.ensures.0, c.loop-access-test.false) in
    c.loop-access.invariant
    ∙ ap (λ xs. string_bytes c.args.text.now ++ (step_line c.args.version c.args.step (row_view c.args.row.now) ++ flat_map (access_line c.args.step) xs)) (take_all c.loop-access.access-index all past)
