use Rattle.std.proofs.Common.{◌++◌, drop, ap, ◌∙◌}
use Rattle.rv_text.proofs.Lemmas.{take-rest, digests, rows-behind-head}
use Rattle.rv_query.proofs.following.follow_shard.Goals as goal

pub returns : goal.returns
returns c s tail fit most is =
    let both = c.follow_rows.ensures s.rows (digests s ++ tail) fit most (take-rest 32 c.args.bytes.now ∙ ap (drop 32) is ∙ rows-behind-head s tail) in
    (record { rest = digests s ++ tail; fit = fit; are = both.0 }, both.1)
