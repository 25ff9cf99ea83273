use Rattle.std.proofs.Common.{◌+◌, [], Err, ap, length, refl, sym, ◌∙◌}
use Rattle.rv_base.specs.declared.layout.TheConstants.{HEADER_BYTES}
use Rattle.rv_base.specs.declared.record.Header.{Header}
use Rattle.rv_spec.specs.Digest.{sha_lanes}
use Rattle.rv_judge.proofs.Lemmas.{header-checked}
use Rattle.rv_plan.proofs.Lemmas.{handed-on}
use Rattle.rv_commands.specs.Commands.{join_words}
use Rattle.rv_commands.specs.Joining.{opened_of}
use Rattle.rv_commands.specs.Parts.{begun}
use Rattle.rv_commands.proofs.Joining.{checked-front, first-added, first-part, first-refused, front-checks, none-joined}
use Rattle.rv_commands.proofs.join.begin.Goals as goal

pub returns-in-Err-check_front : goal.returns-in-Err-check_front
returns-in-Err-check_front c =
    first-refused (join_words c.args.words.now) c.args.program.now.elf c.args.program.now.input c.args.file.now (opened_of c.in-Ok.part) c.in-Err-check_front.refusal c.in-Ok.ensures.exact (sym (c.in-Err-check_front.ensures.exact sha_lanes))

pub add_part-requires-clause-checked : goal.add_part-requires-clause-checked
add_part-requires-clause-checked c =
    header-checked sha_lanes c.args.program.now.elf c.args.program.now.input c.in-Ok.part.front.now c.in-Ok-check_front.header (sym (c.in-Ok-check_front.ensures.exact sha_lanes))

pub add_part-requires-clause-front : goal.add_part-requires-clause-front
add_part-requires-clause-front c =
    let front = checked-front c.args.words.now.parts 0 c.args.program.now.elf c.args.program.now.input c.args.file.now (opened_of c.in-Ok.part) c.in-Ok-check_front.header c.in-Ok.ensures.exact (sym (c.in-Ok-check_front.ensures.exact sha_lanes)) c.in-Ok-check_front.ensures.room in
    ap length c.in-Ok-copy_of.ensures ∙ front.is ∙ ap (λ (h : Header). HEADER_BYTES + h.length) front.same

pub returns-in_err-add_part : goal.returns-in_err-add_part
returns-in_err-add_part c =
    let w = join_words c.args.words.now in
    let elf = c.args.program.now.elf in
    let input = c.args.program.now.input in
    let x = c.in-Ok.part in
    let h = c.in-Ok-check_front.header in
    let checked = sym (c.in-Ok-check_front.ensures.exact sha_lanes) in
    let front = checked-front w.parts 0 elf input c.args.file.now (opened_of x) h c.in-Ok.ensures.exact checked c.in-Ok-check_front.ensures.room in
    rw (handed-on c.from_residual.result c.in_err-add_part.field-0.0 c.from_residual.ensures.1)
    (first-part w elf input c.args.file.now x c.add_part.new.joining (Err c.in_err-add_part.field-0.0) c.in-Ok.ensures.exact (front-checks elf input x.front.now h checked front.same)
    (c.in_err-add_part.ensures (begun x.front.now) []
    (none-joined w.parts elf input x.front.now (record { front = c.in-Ok-copy_of.front; header = h; shards = 0; summaries = c.new.result }) h c.requires c.in-Ok-copy_of.ensures refl refl c.new.ensures.items front.is c.are_bytes.ensures checked (sym front.same)))
    c.in_err-add_part.field-0.0 refl)

pub returns : goal.returns
returns c =
    let w = join_words c.args.words.now in
    let elf = c.args.program.now.elf in
    let input = c.args.program.now.input in
    let x = c.in-Ok.part in
    let h = c.in-Ok-check_front.header in
    let checked = sym (c.in-Ok-check_front.ensures.exact sha_lanes) in
    let front = checked-front w.parts 0 elf input c.args.file.now (opened_of x) h c.in-Ok.ensures.exact checked c.in-Ok-check_front.ensures.room in
    let adds = c.in_ok-add_part.ensures (begun x.front.now) []
    (none-joined w.parts elf input x.front.now (record { front = c.in-Ok-copy_of.front; header = h; shards = 0; summaries = c.new.result }) h c.requires c.in-Ok-copy_of.ensures refl refl c.new.ensures.items front.is c.are_bytes.ensures checked (sym front.same)) in
    (opened_of x, c.in-Ok.ensures.exact, first-added w elf input c.args.file.now (opened_of x) c.in-Ok.ensures.exact (front-checks elf input x.front.now h checked front.same) adds.0, adds.1)
