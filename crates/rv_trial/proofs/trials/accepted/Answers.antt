use Rattle.std.proofs.Common.{sym, ◌∙◌}
use Rattle.rv_trial.specs.Trials.{shard_rows}
use Rattle.rv_trial.proofs.Ends.{not-both, told-same}
use Rattle.rv_trial.proofs.trials.accepted.Goals as goal

pub unreachable-requires : goal.unreachable-requires
unreachable-requires c = not-both c.judge.result _ _ _ (c.judge.ensures.accepts 1 shard_rows c.args.points.now.steps c.args.points.now.end c.has_record.ensures c.requires.file) _ c.in-Refuse.is

pub returns-clause-told : goal.returns-clause-told
returns-clause-told c = told-same c.judge.result _ _ _ _ _ _ c.in-Accept.is (c.judge.ensures.accepts 1 shard_rows c.args.points.now.steps c.args.points.now.end c.has_record.ensures c.requires.file)

pub returns-clause-verdict : goal.returns-clause-verdict
returns-clause-verdict c = sym c.judge.ensures.verdict ∙ c.judge.ensures.accepts 1 shard_rows c.args.points.now.steps c.args.points.now.end c.has_record.ensures c.requires.file
