use Rattle.std.proofs.Common.{◌≡◌, ◌*◌, ◌++◌, length, string_bytes, drop, sym, ap, ◌∙◌, arith}
use Rattle.std.proofs.lemmas.List.{append-nil}
use Rattle.rv_text.proofs.RowSteps.{take-rest}
use Rattle.rv_text.proofs.Shards.{digests, rows-behind-head}
use Rattle.rv_text.proofs.Within.{within-before}
use Rattle.rv_text.proofs.listing.push_shard.Goals as goal

pub returns-then-first-rows : goal.returns-then-first-rows
returns-then-first-rows c s tail fits is =
    let before = within-before c.args.header.now.version c.args.from c.args.until (c.args.i * c.args.header.now.size) s.rows (omega (arith, fits.count, fits.rows, c.rows_of-rows.ensures, c.if-first-rows.true)) in
    sym (append-nil (string_bytes c.args.text.now)) ∙ ap (λ t. string_bytes c.args.text.now ++ t) (sym before)

pub returns : goal.returns
returns c s tail fits is =
    let count : length s.rows ≡ c.rows_of-rows.result = fits.count ∙ fits.rows ∙ sym c.rows_of-rows.ensures in
    c.push_rows.ensures s.rows (digests s ++ tail) fits.each count (take-rest 32 c.args.bytes.now ∙ ap (drop 32) is ∙ rows-behind-head s tail)
