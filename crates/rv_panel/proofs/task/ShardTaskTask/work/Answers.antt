use Rattle.std.proofs.Common.{◌≡◌, ◌<◌, ◌∙◌, drop, length, refl, ap, arith}
use Rattle.std.proofs.lemmas.List.{get_or_read_under}
use Rattle.rv_file.specs.Parsing.{behind_shards}
use Rattle.rv_judge.specs.Subject.{Subject}
use Rattle.rv_panel.specs.Checking.{Shards}
use Rattle.rv_panel.specs.Pieces.{shard_piece}
use Rattle.rv_panel.proofs.PieceLaws.{shard-seen}
use Rattle.rv_panel.proofs.task.ShardTaskTask.work.Goals as goal

pub returns : goal.returns
returns g c =
    let lanes = g.L.Lanes.lanes in
    let t = c.self.inside in
    let s : Subject = record { elf = t.program.now.elf; input = t.program.now.input; header = t.header; output = t.output.now } in
    let i = c.args.i in
    let shards = t.shards.now in
    let lt : i < length t.starts.items = omega (arith, c.requires, ap (λ (v : Shards). v.found) c.self.view_is) in
    let at : c.behind-bytes.result.now ≡ behind_shards i shards = c.behind-bytes.ensures ∙ ap (λ n. drop n shards) (get_or_read_under t.starts.items i (length t.starts.items) c.index.result.now 0 c.index.ensures lt refl) ∙ c.self.invariant.found.each i lt in
    shard-seen lanes s shards i c.behind-bytes.result.now c.check_shard-seen.result c.piece_of.result at c.check_shard-seen.ensures c.piece_of.ensures
    ∙ ap (λ (v : Shards). shard_piece lanes v.subject v.bytes i) c.self.view_is
