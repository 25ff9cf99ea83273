use Rattle.std.proofs.Common.{rules, ◌≡◌, ◌*◌, ◌++◌, ◌∷◌, [], ap, ◌∙◌, string_bytes, arith, append_assoc}
use Rattle.std.proofs.lemmas.Bool.Decides.{nat_tests}
use Rattle.rv_text.proofs.Padded.{on-ok}
use Rattle.rv_text.specs.Listing.{cell_name, hex8}
use Rattle.rv_text.proofs.listing.push_cell.Goals as goal

pub returns-in_ok-push_str : goal.returns-in_ok-push_str
unfolding cell_name
returns-in_ok-push_str c =
    let is : 109 ∷ hex8 (4 * c.args.cell) ≡ cell_name c.args.cell = grind (arith, nat_tests) in
    let all : string_bytes c.push_str.new.self ≡ string_bytes c.args.text.now ++ 109 ∷ [] = c.in_ok-push_str.ensures.bytes in
    on-ok c.push_hex8.result (λ e. e ∙ ap (λ t. t ++ hex8 (4 * c.args.cell)) all ∙ append_assoc (string_bytes c.args.text.now) (109 ∷ []) (hex8 (4 * c.args.cell)) ∙ ap (λ t. string_bytes c.args.text.now ++ t) is) c.push_hex8.ensures

pub returns-then-cell-lt-RESERVATION_CELL : goal.returns-then-cell-lt-RESERVATION_CELL
unfolding cell_name
returns-then-cell-lt-RESERVATION_CELL c = search rules

pub returns-else-cell-lt-RESERVATION_CELL : goal.returns-else-cell-lt-RESERVATION_CELL
unfolding cell_name
returns-else-cell-lt-RESERVATION_CELL c = search rules
