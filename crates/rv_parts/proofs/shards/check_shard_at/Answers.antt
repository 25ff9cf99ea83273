use Rattle.std.proofs.Common.{◌≡◌, ◌∙◌, true, false, Err, sym, ap}
use Rattle.rv_base.specs.declared.record.Refusal.{Refusal}
use Rattle.rv_base.specs.declared.record.ShardHead.{ShardHead}
use Rattle.rv_rules.specs.Reading.{head_of, same_place}
use Rattle.rv_panel.proofs.Lemmas.{displaced, no-head}
use Rattle.rv_parts.specs.Alone.{subject_of}
use Rattle.rv_parts.proofs.ShardsSeen.{sees-at}
use Rattle.rv_parts.proofs.shards.check_shard_at.Goals as goal

pub returns-in_default : goal.returns-in_default
returns-in_default g c =
    no-head g.L.Lanes.lanes c.args.program.now.elf c.args.program.now.input c.args.header.now c.args.output.now c.args.i c.args.place c.args.bytes.now c.in_default.ensures
    ∙ ap (λ (r : Refusal). Err r) (sym c.at.ensures)

pub returns-then-not-states : goal.returns-then-not-states
returns-then-not-states g c =
    let other : same_place (head_of c.args.bytes.now) c.args.place ≡ false = ap (λ (h : ShardHead). same_place h c.args.place) (sym c.in-Some.ensures.1) ∙ sym c.states.ensures ∙ c.if-not-states.true in
    displaced g.L.Lanes.lanes c.args.program.now.elf c.args.program.now.input c.args.header.now c.args.output.now c.args.i c.args.place c.args.bytes.now c.in-Some.ensures.0 other
    ∙ ap (λ (r : Refusal). Err r) (sym c.at-then-not-states.ensures)

pub returns : goal.returns
returns g c =
    let same : same_place (head_of c.args.bytes.now) c.args.place ≡ true = ap (λ (h : ShardHead). same_place h c.args.place) (sym c.in-Some.ensures.1) ∙ sym c.states.ensures ∙ c.if-not-states.false in
    sees-at g.L.Lanes.lanes (subject_of c.args.program.now c.args.header.now c.args.output.now) c.args.i c.args.place c.args.bytes.now c.check_shard.result c.in-Some.ensures.0 same c.requires.place c.check_shard.ensures
