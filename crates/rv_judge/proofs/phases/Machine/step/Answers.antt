use Rattle.std.proofs.Common.{◌∙◌, ℕ, ap}
use Rattle.rv_judge.specs.declared.phases.Phase.TheVariants.{Shards, Rows}
use Rattle.rv_judge.proofs.ReadingOn.{went-at}
use Rattle.rv_judge.proofs.phases.Machine.step.Goals as goal

pub returns-in_ok-begin_table-in-Shards : goal.returns-in_ok-begin_table-in-Shards
returns-in_ok-begin_table-in-Shards g c =
    went-at g.L.Lanes.lanes c.args.subject.now c.args.self.now c.begin_table.new.self (Shards 0 c.in-Shards.next) c.args.bytes.now c.in_ok-begin_table-in-Shards.field-0
    (c.in-Shards.is ∙ ap (λ (n : ℕ). Shards n c.in-Shards.next) c.if-left-eq0.true) (c.in_ok-begin_table-in-Shards.ensures g.L.Lanes.lanes)

pub returns-in_ok-begin_shard-in-Shards : goal.returns-in_ok-begin_shard-in-Shards
returns-in_ok-begin_shard-in-Shards g c =
    went-at g.L.Lanes.lanes c.args.subject.now c.args.self.now c.begin_shard.new.self (Shards c.in-Shards.left c.in-Shards.next) c.args.bytes.now c.in_ok-begin_shard-in-Shards.field-0
    c.in-Shards.is (c.in_ok-begin_shard-in-Shards.ensures g.L.Lanes.lanes)

pub returns-in_ok-end_shard-in-Rows : goal.returns-in_ok-end_shard-in-Rows
returns-in_ok-end_shard-in-Rows g c =
    went-at g.L.Lanes.lanes c.args.subject.now c.args.self.now c.end_shard.new.self (Rows c.in-Rows.rows) c.args.bytes.now c.in_ok-end_shard-in-Rows.field-0
    c.in-Rows.is c.in_ok-end_shard-in-Rows.ensures
