use Rattle.std.proofs.Common.{List, ℕ, drop, sym, ap, subst, ◌∙◌}
use Rattle.rv_settle.specs.Spelled.{SpellRows}
use Rattle.rv_settle.proofs.Spelling.{digests_and, behind-head, behind-digests}
use Rattle.rv_settle.proofs.collecting.collect_shard.Goals as goal

pub returns : goal.returns
returns c h i s rest rows_are sp =
    let bytes = c.args.bytes.now in
    let e = c.in_ok-rest.ensures s.rows (digests_and s rest) (sp.fits.count ∙ sym rows_are) (subst (λ (xs : List ℕ). SpellRows s.rows xs (digests_and s rest)) (sym c.behind.ensures) (behind-head h i s bytes rest sp)) in
    (c.behind-2.ensures ∙ ap (λ (xs : List ℕ). drop 256 xs) e.0 ∙ behind-digests h i s rest sp.fits, e.1)
