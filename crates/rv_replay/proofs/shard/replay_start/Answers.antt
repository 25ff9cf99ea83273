use Rattle.std.proofs.Common.{◌≡◌, Result, Ok, Err, IfOk, sym, ◌∙◌, ap, subst}
use Rattle.rv_base.specs.declared.record.NoMemory.{NoMemory}
use Rattle.rv_book.specs.declared.task.Piece.{Piece}
use Rattle.rv_spec.specs.Words.{AreBytes}
use Rattle.rv_rules.specs.Agreement.{IsProgram}
use Rattle.rv_point.specs.declared.start.ShardStart.{ShardStart}
use Rattle.rv_point.specs.Start.{piece}
use Rattle.rv_replay.specs.Piece.{piece_of, piece_view}
use Rattle.rv_replay.proofs.MakingLaws.{own-made, own-start}
use Rattle.rv_replay.proofs.shard.replay_start.Goals as goal

-- what is told of a piece tells more of it
if-ok : (r : Result Piece NoMemory) (P Q : Piece → Type 0) → ((p : Piece) → P p → Q p) → IfOk r P → IfOk r Q
if-ok (Ok p) P Q f h = f p h
if-ok (Err e) P Q f h = tt

pub make_rows-requires-clause-program : goal.make_rows-requires-clause-program
make_rows-requires-clause-program g c = subst IsProgram (sym c.in_ok-making.ensures.image) c.in_ok-making.ensures.program

pub make_rows-requires-clause-bytes : goal.make_rows-requires-clause-bytes
make_rows-requires-clause-bytes g c = subst AreBytes (sym c.in_ok-making.ensures.input_is) c.in_ok-making.ensures.input_bytes

pub make_rows-requires-clause-number : goal.make_rows-requires-clause-number
make_rows-requires-clause-number g c = c.in_ok-making.ensures.start.number

pub make_rows-requires-clause-made : goal.make_rows-requires-clause-made
make_rows-requires-clause-made g c =
    let b = c.in_ok-making.ensures in
    own-made g.L.Lanes.lanes c.args.image.now c.args.input.now c.args.start.now.step c.args.start.now.rows 0 c.in_ok-making.making c.new-pairing.result b.image b.input_is (b.none_made g.L.Lanes.lanes c.new-pairing.result (c.new-pairing.ensures g.L.Lanes.lanes))

pub finish-requires-clause-start : goal.finish-requires-clause-start
finish-requires-clause-start g c =
    let b = c.in_ok-making.ensures in
    let r = c.in_ok-make_rows.ensures.replaying in
    own-start c.args.image.now c.args.input.now c.args.start.now c.make_rows.new.self (r.image ∙ b.image) (r.input_is ∙ b.input_is) b.start

pub finish-requires-clause-made : goal.finish-requires-clause-made
finish-requires-clause-made g c =
    let m = c.in_ok-making.making in
    let h = c.in_ok-make_rows.ensures in
    own-made g.L.Lanes.lanes m.hart.cells.image m.hart.input c.args.start.now.step c.args.start.now.rows c.args.start.now.rows c.make_rows.new.self c.make_rows.new.pairing h.replaying.image h.replaying.input_is h

pub returns-clause-made : goal.returns-clause-made
returns-clause-made g c =
    let lanes = g.L.Lanes.lanes in
    let s = c.args.start.now in
    let b = c.in_ok-making.ensures in
    let r = c.in_ok-make_rows.ensures.replaying in
    let same : piece_of lanes c.make_rows.new.self.hart.cells.image c.make_rows.new.self.hart.input s.index s.step s.rows ≡ piece_of lanes c.args.image.now c.args.input.now s.index s.step s.rows =
    λ t. piece_of lanes ((r.image ∙ b.image) t) ((r.input_is ∙ b.input_is) t) s.index s.step s.rows in
    if-ok c.finish.result (λ p. p ≡ piece_of lanes c.make_rows.new.self.hart.cells.image c.make_rows.new.self.hart.input s.index s.step s.rows) (λ p. p ≡ piece_of lanes c.args.image.now c.args.input.now s.index s.step s.rows)
    (λ p e. e ∙ same) c.finish.ensures

pub returns-clause-shard : goal.returns-clause-shard
returns-clause-shard g c size j is =
    let lanes = g.L.Lanes.lanes in
    let i = c.args.image.now in
    let input = c.args.input.now in
    let s = c.args.start.now in
    if-ok c.finish.result (λ p. p ≡ piece_of lanes i input s.index s.step s.rows) (λ p. piece_view p ≡ piece lanes i input size j)
    (λ p e. ap piece_view e ∙ ap (λ (x : ShardStart). piece_view (piece_of lanes i input x.index x.step x.rows)) is) (returns-clause-made g c)
