use Rattle.std.proofs.Common.{ap, ◌∙◌}
use Rattle.std.specs.List.{flat_map}
use Rattle.rv_commands.specs.Commands.{make_words}
use Rattle.rv_commands.proofs.Making.{record-made}
use Rattle.rv_commands.proofs.recording.write_run.Goals as goal

pub write_parts-requires-clause-parts : goal.write_parts-requires-clause-parts
write_parts-requires-clause-parts g c =
    ap (flat_map (λ part. part.now)) c.as_slice-2.ensures.value
    ∙ record-made (make_words c.args.words.now) c.args.loaded.now.elf c.args.loaded.now.input c.args.ended.now c.front_of-front.result c.as_slice.result.now _ _ c.pieces.ensures.file c.requires.ended c.requires.shard c.front_of-front.ensures
    (c.as_slice.ensures.value ∙ c.in-Some.ensures) c.requires.shards c.in-Ok.ensures
