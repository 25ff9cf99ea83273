use Rattle.std.proofs.Common.{Global, ap, ◌∙◌, arith, map, string_bytes}
use Rattle.rv_base.specs.declared.record.Header.{Header}
use Rattle.rv_plan.specs.FileCalls.{due_of}
use Rattle.rv_commands.specs.Commands.{split_words}
use Rattle.rv_commands.specs.Splitting.{cut_bytes, piece_bytes}
use Rattle.rv_commands.proofs.Splitting.{cut-written, due-is}
use Rattle.rv_commands.proofs.split.split_file.Goals as goal

pub returns : goal.returns
returns g c =
    let w = split_words c.args.words.now in
    let q = c.in-Ok.parsed in
    cut-written w c.args.file.now q (map due_of c.deref-4.result.now) _ _ c.write_parts.result c.parts_are_the_file.ensures c.requires.0 c.in-Ok.ensures.exact c.in-Ok.ensures.spelled
    (omega (arith, c.if-words-header.false, ap (λ (h : Header). h.shards) c.header.ensures))
    (due-is q w.parts w.name (map (string_bytes {Z = Global}) c.deref-2.result.now) (map piece_bytes c.deref-3.result.now) (map due_of c.deref-4.result.now)
    (ap (map (string_bytes {Z = Global})) c.deref-2.ensures.value ∙ c.in-Ok-part_names.ensures)
    (ap (map piece_bytes) c.deref-3.ensures.value ∙ c.in-Ok-pieces_of.ensures ∙ ap (map cut_bytes) c.deref.ensures.value ∙ c.in-Ok-cuts_of.ensures)
    (ap (map due_of) c.deref-4.ensures.value ∙ c.in-Ok-files_of.ensures))
    c.write_parts.ensures
