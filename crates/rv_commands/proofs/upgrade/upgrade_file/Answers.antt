use Rattle.std.proofs.Common.{◌≡◌, List, ℕ, [], ◌++◌, length, sym, ap, ◌∙◌, append-nil, refl, arith}
use Rattle.rv_base.specs.declared.record.Header.{Header}
use Rattle.rv_spec.specs.Digest.{sha_lanes}
use Rattle.rv_rules.proofs.Lemmas.{bytes-are}
use Rattle.rv_commands.specs.Commands.{upgrade_words}
use Rattle.rv_commands.specs.Lines.{upgraded_line}
use Rattle.rv_commands.proofs.Upgrading.{has-version, upgrade-written}
use Rattle.rv_commands.proofs.upgrade.upgrade_file.Goals as goal

pub upgrade-requires : goal.upgrade-requires
upgrade-requires g c = has-version c.in-Ok.parsed c.args.file.now c.in-Ok.ensures.spelled

pub returns : goal.returns
returns g c =
    let file = c.args.file.now in
    let p = c.in-Ok.parsed in
    let bytes : List ℕ = c.list-2.result.now ++ [] in
    let listed : c.list.result.now ≡ bytes = c.list.ensures ∙ sym c.list-2.ensures ∙ sym (append-nil c.list-2.result.now) in
    upgrade-written (upgrade_words c.args.words.now) file bytes p _ _ _ (c.reading.ensures sha_lanes) c.upgraded_is_accepted.ensures c.upgraded_is_the_record.ensures (bytes-are file (λ i. omega (arith, c.type_inv.file i))) c.in-Ok.ensures.spelled
    (sym c.blocked.ensures ∙ c.in_default.is) (append-nil c.list-2.result.now ∙ c.list-2.ensures ∙ c.in-Ok-upgrade.ensures) refl
    (c.in-Ok-upgraded_line.ensures ∙ ap (λ (h : Header). upgraded_line h.steps (length c.list.result.now)) c.header-steps.ensures ∙ ap (λ (b : List ℕ). upgraded_line p.header.steps (length b)) listed)
    c.in_ok-write_files.ensures
