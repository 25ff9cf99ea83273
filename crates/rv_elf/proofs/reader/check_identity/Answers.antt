use Rattle.std.proofs.Common.{inl, inr, sym, ◌∙◌}
use Rattle.rv_elf.proofs.HeaderLaws.{clear-1, clear-3, clear-5, fault-1, fault-2, fault-3, fault-4, fault-5, whole-magic, little-words}
use Rattle.rv_elf.proofs.reader.check_identity.Goals as goal
use Rattle.rv_elf.proofs.reader.check_identity.Goals.{then-file-ne1-3-via-then-file-ne1-3, then-file-ne1-3-via-else-file-ne1-3+then-get32-ne1}

pub returns-then-file-lt52-clause-fault : goal.returns-then-file-lt52-clause-fault
returns-then-file-lt52-clause-fault c = fault-1 c.args.file.now c.if-file-lt52.true

pub returns-then-not-starts_with-clause-fault : goal.returns-then-not-starts_with-clause-fault
returns-then-not-starts_with-clause-fault c = fault-2 c.args.file.now (clear-1 c.args.file.now c.if-file-lt52.false) (sym c.starts_with.ensures.value ∙ c.if-not-starts_with.true)

pub returns-then-file-ne1-clause-fault : goal.returns-then-file-ne1-clause-fault
returns-then-file-ne1-clause-fault c =
    fault-3 c.args.file.now (whole-magic c.args.file.now c.if-file-lt52.false (sym c.starts_with.ensures.value ∙ c.if-not-starts_with.false)) c.if-file-ne1.true

pub returns-then-file-ne1-2-clause-fault : goal.returns-then-file-ne1-2-clause-fault
returns-then-file-ne1-2-clause-fault c =
    let magic = whole-magic c.args.file.now c.if-file-lt52.false (sym c.starts_with.ensures.value ∙ c.if-not-starts_with.false) in
    fault-4 c.args.file.now (clear-3 c.args.file.now magic c.if-file-ne1.false) c.if-file-ne1-2.true

pub returns-then-file-ne1-3-clause-fault : goal.returns-then-file-ne1-3-clause-fault
returns-then-file-ne1-3-clause-fault c =
    let before = little-words c.args.file.now c.if-file-lt52.false (sym c.starts_with.ensures.value ∙ c.if-not-starts_with.false) c.if-file-ne1.false c.if-file-ne1-2.false in
    elim c.then-file-ne1-3.branch [
      | then-file-ne1-3-via-then-file-ne1-3 w ↦ fault-5 c.args.file.now before (inl w.if-file-ne1-3.true)
      | then-file-ne1-3-via-else-file-ne1-3+then-get32-ne1 w ↦ fault-5 c.args.file.now before (inr (λ e. w.if-get32-ne1.true (w.get32.ensures ∙ e)))
    ]

pub returns-clause-clear : goal.returns-clause-clear
returns-clause-clear c =
    let before = little-words c.args.file.now c.if-file-lt52.false (sym c.starts_with.ensures.value ∙ c.if-not-starts_with.false) c.if-file-ne1.false c.if-file-ne1-2.false in
    clear-5 c.args.file.now before c.if-file-ne1-3.false (sym c.get32.ensures ∙ c.if-get32-ne1.false)
