use Rattle.std.proofs.Common.{◌≡◌, ◌+◌, ◌-◌, ◌++◌, drop, length, ◌∙◌, arith}
use Rattle.rv_base.specs.declared.layout.TheConstants.{HEAD_BYTES}
use Rattle.rv_spec.specs.Digest.{set_digest_bytes}
use Rattle.rv_spec.specs.Record.{head_bytes}
use Rattle.rv_replay.proofs.MakingLaws.{bytes-fit, bytes-room, piece-made}
use Rattle.rv_replay.proofs.shard.finish.Goals as goal

pub overflow_cast-head : goal.overflow_cast-head
overflow_cast-head g c =
    let m = c.args.making in
    let full = m.bytes.ok.0 in
    let fit = bytes-fit g.L.Lanes.lanes m.hart.cells.image m.hart.input c.args.start.now c.requires.start m c.args.pairing.now c.requires.made in
    omega (arith, c.len.ensures, full, fit)

pub spell-requires : goal.spell-requires
spell-requires g c = bytes-room g.L.Lanes.lanes c.args.making.hart.cells.image c.args.making.hart.input c.args.start.now c.requires.start c.args.making c.args.pairing.now c.requires.made

pub returns : goal.returns
returns g c =
    let m = c.args.making in
    let s = c.args.start.now in
    let count : c.len.result ≡ length m.bytes.items = c.len.ensures ∙ m.bytes.ok.0 in
    piece-made g.L.Lanes.lanes m.hart.cells.image m.hart.input s c.requires.start m c.args.pairing.now c.requires.made c.of.result c.digests.result.0 c.digests.result.1 _
    (c.of.ensures ∙ c.in_ok-bytes.ensures ∙ (λ t. head_bytes (record { index = s.index; rows = s.rows; pc = s.place.pc; input = s.place.input; output = s.place.output; bytes = count t - HEAD_BYTES }) ++ drop HEAD_BYTES m.bytes.items ++ set_digest_bytes c.digests.result.0.lanes ++ set_digest_bytes c.digests.result.1.lanes)) (c.digests.ensures.reads ∙ c.requires.made.covers.reads) (c.digests.ensures.writes ∙ c.requires.made.covers.writes) (λ t. record { pc = c.pc.ensures.value t; input = c.position.ensures.value t; output = s.place.output + m.put })
