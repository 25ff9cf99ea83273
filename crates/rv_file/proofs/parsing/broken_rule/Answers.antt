use Rattle.std.proofs.Common.{sym, ◌∙◌}
use Rattle.rv_file.proofs.HeaderChecks.{short-file, wrong-magic, number-rule, output-missing, all-good}
use Rattle.rv_file.proofs.parsing.broken_rule.Goals as goal

pub returns-then-file-lt-HEADER_BYTES : goal.returns-then-file-lt-HEADER_BYTES
returns-then-file-lt-HEADER_BYTES c = sym (short-file c.args.file.now c.if-file-lt-HEADER_BYTES.true)

pub returns-then-not-has_magic : goal.returns-then-not-has_magic
returns-then-not-has_magic c = sym (wrong-magic c.args.file.now c.if-file-lt-HEADER_BYTES.false (sym c.has_magic.ensures ∙ c.if-not-has_magic.true))

pub returns-in-Some : goal.returns-in-Some
returns-in-Some c =
    sym (number-rule c.args.file.now c.header_fields-header.result c.in-Some.rule c.if-file-lt-HEADER_BYTES.false (sym c.has_magic.ensures ∙ c.if-not-has_magic.false) c.header_fields-header.ensures (sym c.broken_number.ensures ∙ c.in-Some.is))

pub returns-then-file-header : goal.returns-then-file-header
returns-then-file-header c =
    sym (output-missing c.args.file.now c.header_fields-header.result c.if-file-lt-HEADER_BYTES.false (sym c.has_magic.ensures ∙ c.if-not-has_magic.false) c.header_fields-header.ensures (sym c.broken_number.ensures ∙ c.in_default.is) c.if-file-header.true)

pub returns : goal.returns
returns c =
    sym (all-good c.args.file.now c.header_fields-header.result c.if-file-lt-HEADER_BYTES.false (sym c.has_magic.ensures ∙ c.if-not-has_magic.false) c.header_fields-header.ensures (sym c.broken_number.ensures ∙ c.in_default.is) c.if-file-header.false)
