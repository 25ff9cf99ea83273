use Rattle.std.proofs.Common.{◌≡◌, ◌<◌, subst, ap, ◌∙◌}
use Rattle.std.specs.List.{flat_map, range_with_len}
use Rattle.std.specs.Int.{div_ceil}
use Rattle.rv_commands.specs.Commands.{make_words}
use Rattle.rv_commands.specs.Making.{piece_due}
use Rattle.rv_commands.proofs.make.write_record.Goals as goal

pub shards_of-requires-after_bounds : goal.shards_of-requires-after_bounds
shards_of-requires-after_bounds g c = λ κs lives i lt.
    let w = make_words c.args.words.now in
    let count : c.ended_of-ended.result.shards ≡ div_ceil c.args.points.now.steps w.shard = c.ended_of-ended.ensures.ended.shards ∙ ap (λ n. div_ceil n w.shard) c.ended_of-ended.ensures.steps in
    (piece_due w c.args.loaded.now.elf c.args.loaded.now.input i, c.requires.has.pieces i (subst (λ n. i < n) count lt))

pub write_run-requires-clause-shards : goal.write_run-requires-clause-shards
write_run-requires-clause-shards g c =
    let w = make_words c.args.words.now in
    let piece = piece_due w c.args.loaded.now.elf c.args.loaded.now.input in
    let count : c.ended_of-ended.result.shards ≡ div_ceil c.args.points.now.steps w.shard = c.ended_of-ended.ensures.ended.shards ∙ ap (λ n. div_ceil n w.shard) c.ended_of-ended.ensures.steps in
    ap (flat_map (λ part. part.now)) c.as_slice.ensures.value ∙ c.in-Ok.ensures piece (λ i lt. c.requires.has.pieces i (subst (λ n. i < n) count lt))
    ∙ ap (λ n. flat_map (λ i. (piece i).bytes) (range_with_len 0 n)) c.ended_of-ended.ensures.ended.shards
