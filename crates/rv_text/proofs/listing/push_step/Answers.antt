use Rattle.std.proofs.Common.{◌++◌, ◌∷◌, [], List, ℕ, codes, decimal, string_bytes, ap, ◌∙◌}
use Rattle.rv_row.specs.RowReading.{row_view}
use Rattle.rv_text.specs.Listing.{step_line, hex8, word_text}
use Rattle.rv_text.proofs.Joined.{step-joined}
use Rattle.rv_text.proofs.listing.push_step.Goals as goal

pub returns : goal.returns
unfolding step_line
returns c =
    let r = row_view c.args.row.now in
    let old = string_bytes c.args.text.now in
    let a = codes "step " ++ decimal c.args.step in
    let w = c.fetched-word.result in
    let of : ℕ → List ℕ = λ (v : ℕ). old ++ (a ++ codes " pc " ++ hex8 r.pc ++ codes " word " ++ hex8 v ++ (32 ∷ word_text c.args.version v) ++ 10 ∷ []) in
    step-joined old a (codes " pc ") (hex8 r.pc) (codes " word ") (hex8 w) (32 ∷ []) (word_text c.args.version w) (10 ∷ [])
    _ _ _ _ _ _ _ _
    c.in_ok-write.ensures.bytes c.in_ok-push_str.ensures.bytes c.in_ok-push_hex8.ensures c.in_ok-push_str-2.ensures.bytes c.in_ok-push_hex8-2.ensures c.in_ok-push_str-3.ensures.bytes (c.in_ok-push_str-4.ensures.bytes ∙ ap (λ t. string_bytes c.push_str-3.new.self ++ t) (c.as_str.ensures.value ∙ c.word_text.ensures)) c.in_ok-push_str-5.ensures.bytes
    ∙ ap of c.fetched-word.ensures
