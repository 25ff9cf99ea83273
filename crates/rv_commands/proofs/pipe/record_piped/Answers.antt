use Rattle.std.proofs.Common.{ap, ◌∙◌, sym}
use Rattle.std.specs.List.{flat_map}
use Rattle.rv_book.specs.declared.task.Piece.{Piece}
use Rattle.rv_commands.specs.Commands.{make_words}
use Rattle.rv_commands.specs.Making.{shards_due}
use Rattle.rv_commands.proofs.Making.{pieces-due}
use Rattle.rv_commands.proofs.pipe.record_piped.Goals as goal

pub write_run-requires-clause-shards : goal.write_run-requires-clause-shards
write_run-requires-clause-shards g c =
    let w = make_words c.args.words.now in
    ap (flat_map (λ s. s.now)) c.as_slice.ensures.value ∙ c.in-Ok.ensures ∙ ap (flat_map (λ (p : Piece). p.bytes)) c.list.ensures
    ∙ pieces-due w c.args.loaded.now.elf c.args.loaded.now.input c.args.piped.now c.requires.piped ∙ ap (shards_due w c.args.loaded.now.elf c.args.loaded.now.input) (sym c.ended_of-ended.ensures.steps)
