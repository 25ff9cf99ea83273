use Rattle.std.proofs.Common.{◌+◌, ap, drop, refl, sym, ◌∙◌}
use Rattle.rv_base.specs.declared.layout.TheConstants.{HEADER_BYTES}
use Rattle.rv_commands.proofs.Joining.{output-length, part-added}
use Rattle.rv_commands.proofs.join.add_part.Goals as goal

pub summarize-requires-clause-output : goal.summarize-requires-clause-output
summarize-requires-clause-output c =
    output-length c.args.joining.now.front c.behind-output.result.now c.args.joining.now.header.length (c.behind-output.ensures ∙ ap (drop HEADER_BYTES) c.list.ensures) c.requires.front

pub returns : goal.returns
returns c = λ j ps is.
    let old = c.args.joining.now in
    part-added c.args.parts c.args.program.now.elf c.args.program.now.input c.behind-output.result.now old (record { front = old.front; header = old.header; shards = old.shards + c.args.part.now.head.count; summaries = c.push.new.self }) c.args.number j ps c.args.part.now c.in-Ok.summary is
    c.requires.head (sym c.is_next.ensures ∙ c.if-not-is_next.false) (c.behind-output.ensures ∙ ap (drop HEADER_BYTES) c.list.ensures) c.in-Ok.ensures c.are_bytes.ensures refl refl refl c.in-Ok-push.ensures.items
