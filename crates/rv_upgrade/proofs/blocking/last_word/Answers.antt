use Rattle.std.proofs.Common.{◌≡◌, ◌<◌, ◌+◌, ◌-◌, ◌++◌, length, drop, ap, sym, ◌∙◌, arith}
use Rattle.std.specs.List.{flat_map}
use Rattle.rv_base.specs.declared.record.Header.{Header}
use Rattle.rv_spec.specs.Record.{shard_rows, row_bytes}
use Rattle.rv_text.proofs.Lemmas.{take-rest, digests, rows-behind-head}
use Rattle.rv_upgrade.specs.LastShard.{BeginWithLast}
use Rattle.rv_upgrade.proofs.LastRow.{of-last-shard}
use Rattle.rv_upgrade.proofs.blocking.last_word.Goals as goal

pub overflow_sub-last : goal.overflow_sub-last
overflow_sub-last c = let some = c.last_shard-shard.ensures.some in omega (arith, some, ap (λ (h : Header). h.shards) c.header-header.ensures)

pub overflow_sub-before : goal.overflow_sub-before
overflow_sub-before c = let rows = c.last_shard-shard.ensures.rows in omega (arith, rows, c.rows_of-rows.ensures, ap (λ (h : Header). shard_rows h.size h.steps (h.shards - 1)) c.header-header.ensures)

pub returns : goal.returns
returns c =
    let p = c.args.parsed.now in
    let b : BeginWithLast p c.last_shard-shard.result.now = c.last_shard-shard.ensures in
    let rows : c.rows_of-rows.result ≡ length b.shard.rows = c.rows_of-rows.ensures ∙ ap (λ (h : Header). shard_rows h.size h.steps (h.shards - 1)) c.header-header.ensures ∙ sym (b.fits.count ∙ b.fits.rows) in
    let some : 0 < length b.shard.rows = omega (arith, b.rows, b.fits.count, b.fits.rows) in
    let before = c.rows_of-rows.result - 1 in
    let last : before + 1 ≡ length b.shard.rows = omega (arith, rows, some) in
    let of = of-last-shard p c.last_shard-shard.result.now b before last in
    let row : c.behind_rows-row.result.now ≡ flat_map row_bytes (drop before b.shard.rows) ++ (digests b.shard ++ b.rest) =
    c.behind_rows-row.ensures b.shard.rows (digests b.shard ++ b.rest) b.fits.each (omega (arith, last)) (take-rest 32 c.last_shard-shard.result.now ∙ ap (drop 32) b.are ∙ rows-behind-head b.shard b.rest) in
    c.first_value.ensures of.0 of.1 of.2 (row ∙ of.3) ∙ sym of.4
