use Rattle.std.proofs.Common.{◌%◌, ◌≤◌, ap, sym, ◌∙◌, subst, arith, map}
use Rattle.std.specs.List.{All}
use Rattle.rv_spec.specs.Elf.{some_overlap}
use Rattle.rv_elf.specs.ByAddress.{IsImage}
use Rattle.rv_elf.proofs.ImageLaws.{image-is}
use Rattle.rv_elf.specs.Index.{IsIndex}
use Rattle.rv_elf.specs.Segments.{described}
use Rattle.rv_elf.proofs.HeaderLaws.{whole-header, whole-table}
use Rattle.rv_elf.proofs.ReadLaws.{misplaced, without-fault, kept-loads, kept-apart, kept-fit}
use Rattle.rv_elf.proofs.reader.read.Goals as goal

pub of-scan-requires-clause-whole : goal.of-scan-requires-clause-whole
of-scan-requires-clause-whole c = whole-header c.args.file.now c.in_ok-check_header.ensures.clear

pub of-scan-requires-clause-table : goal.of-scan-requires-clause-table
of-scan-requires-clause-table c = whole-table c.args.file.now c.in_ok-check_header.ensures.clear

pub get32-entry-requires : goal.get32-entry-requires
get32-entry-requires c = let whole = whole-header c.args.file.now c.in_ok-check_header.ensures.clear in omega arith

pub returns-then-entry-ne0-clause-fault : goal.returns-then-entry-ne0-clause-fault
returns-then-entry-ne0-clause-fault c =
    let file = c.args.file.now in
    misplaced file (c.in_ok-check_segments.ensures.clear file c.in_ok-check_header.ensures.clear c.of-scan.ensures)
    (λ e. c.if-entry-ne0.true (ap (λ n. n % 4) c.get32-entry.ensures ∙ e))

pub by_address-requires-clause-fits : goal.by_address-requires-clause-fits
by_address-requires-clause-fits c =
    let file = c.args.file.now in
    let clear = c.in_ok-check_segments.ensures.clear file c.in_ok-check_header.ensures.clear c.of-scan.ensures in
    subst (λ l. All (λ t. t.file_size ≤ t.memory_size) l) (sym c.as_slice.ensures.value) (kept-fit file clear c.of-scan.result c.of-scan.ensures)

pub by_address-requires-clause-apart : goal.by_address-requires-clause-apart
by_address-requires-clause-apart c =
    let file = c.args.file.now in
    let clear = c.in_ok-check_segments.ensures.clear file c.in_ok-check_header.ensures.clear c.of-scan.ensures in
    ap (λ l. some_overlap (map described l)) c.as_slice.ensures.value ∙ kept-apart file clear c.of-scan.result c.of-scan.ensures

pub of-requires-clause-faultless : goal.of-requires-clause-faultless
of-requires-clause-faultless c =
    let file = c.args.file.now in
    let clear = c.in_ok-check_segments.ensures.clear file c.in_ok-check_header.ensures.clear c.of-scan.ensures in
    without-fault file clear (ap (λ n. n % 4) (sym c.get32-entry.ensures) ∙ c.if-entry-ne0.false)

pub of-requires-clause-indexed : goal.of-requires-clause-indexed
of-requires-clause-indexed c =
    let file = c.args.file.now in
    let clear = c.in_ok-check_segments.ensures.clear file c.in_ok-check_header.ensures.clear c.of-scan.ensures in
    subst (IsIndex c.by_address.result.items) (ap (map described) c.as_slice.ensures.value ∙ kept-loads file clear c.of-scan.result c.of-scan.ensures) c.by_address.ensures

pub returns-clause-faultless : goal.returns-clause-faultless
returns-clause-faultless c =
    let file = c.args.file.now in
    let clear = c.in_ok-check_segments.ensures.clear file c.in_ok-check_header.ensures.clear c.of-scan.ensures in
    without-fault file clear (ap (λ n. n % 4) (sym c.get32-entry.ensures) ∙ c.if-entry-ne0.false)

pub returns-clause-bytes : goal.returns-clause-bytes
returns-clause-bytes c =
    let file = c.args.file.now in
    let clear = c.in_ok-check_segments.ensures.clear file c.in_ok-check_header.ensures.clear c.of-scan.ensures in
    subst (IsImage file) (sym c.of.ensures) (image-is 1 file (without-fault file clear (ap (λ n. n % 4) (sym c.get32-entry.ensures) ∙ c.if-entry-ne0.false)))
