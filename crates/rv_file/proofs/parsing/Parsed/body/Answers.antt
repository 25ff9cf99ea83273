use Rattle.std.proofs.Common.{◌++◌, subst, ap, ◌∙◌}
use Rattle.std.specs.List.{flat_map}
use Rattle.rv_spec.specs.Record.{Parts, shard_bytes, table_bytes}
use Rattle.rv_spec.specs.Grammar.{PartsFit}
use Rattle.rv_file.proofs.Showing.{output-room, body-shown}
use Rattle.rv_file.proofs.parsing.Parsed.body.Goals as goal

pub shards_of-requires : goal.shards_of-requires
shards_of-requires c = output-room c.self.inside.file.now c.self.inside.header c.self.inside.entries c.self.invariant

pub returns-clause-fit : goal.returns-clause-fit
returns-clause-fit c = subst (λ (p : Parts). PartsFit p) c.self.view_is c.self.invariant.spells.fit

pub returns-clause-spelled : goal.returns-clause-spelled
returns-clause-spelled c =
    c.shards_of.ensures
    ∙ body-shown c.self.inside.file.now c.self.inside.header c.self.inside.entries c.self.invariant
    ∙ ap (λ (p : Parts). flat_map shard_bytes p.shards ++ table_bytes p.table) c.self.view_is
