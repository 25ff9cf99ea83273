use Rattle.std.proofs.Common.{◌++◌, ◌∷◌, [], codes, decimal, string_bytes, ap, ◌∙◌}
use Rattle.rv_text.specs.Listing.{access_line, cell_name, stamped}
use Rattle.rv_text.proofs.Joined.{access-joined}
use Rattle.rv_text.proofs.listing.push_access.Goals as goal

pub returns : goal.returns
unfolding access_line
returns c =
    let a = c.args.access.now in
    access-joined (string_bytes c.args.text.now) (codes "  slot " ++ decimal a.slot) (32 ∷ []) (cell_name a.cell) (32 ∷ stamped a.old a.prev) (32 ∷ stamped a.new c.time_of-time.result) (10 ∷ [])
    _ _ _ _ _ _
    c.in_ok-write.ensures.bytes c.in_ok-push_str.ensures.bytes c.in_ok-push_cell.ensures c.in_ok-push_stamped.ensures c.in_ok-push_stamped-2.ensures c.in_ok-push_str-2.ensures.bytes
    ∙ ap (λ t. string_bytes c.args.text.now ++ ((codes "  slot " ++ decimal a.slot) ++ (32 ∷ cell_name a.cell) ++ (32 ∷ stamped a.old a.prev) ++ (32 ∷ stamped a.new t) ++ (10 ∷ []))) c.time_of-time.ensures
