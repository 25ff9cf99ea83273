use Rattle.std.proofs.Common.{Some, refl, sym, ap, ◌∙◌}
use Rattle.std.specs.Prelude.{slice_get, option_map}
use Rattle.rv_spec.specs.Record.{Parts, shard_bytes}
use Rattle.rv_file.proofs.Showing.{output-room, no-shard, shard-is}
use Rattle.rv_file.proofs.parsing.Parsed.shard.Goals as goal

pub returns-then-i-self : goal.returns-then-i-self
returns-then-i-self c =
    sym (ap (λ (p : Parts). option_map shard_bytes (slice_get p.shards c.args.i)) (sym c.self.view_is)
    ∙ no-shard c.self.inside.file.now c.self.inside.header c.self.inside.entries c.args.i c.self.invariant c.if-i-self.true)

pub shards_of-shards-requires : goal.shards_of-shards-requires
shards_of-shards-requires c = output-room c.self.inside.file.now c.self.inside.header c.self.inside.entries c.self.invariant

pub behind-rest-requires : goal.behind-rest-requires
behind-rest-requires c =
    (shard-is c.self.inside.file.now c.self.inside.header c.self.inside.entries c.args.i c.shards_of-shards.result.now _ c.self.invariant c.if-i-self.false c.shards_of-shards.ensures refl).holds

pub first_shard-requires : goal.first_shard-requires
first_shard-requires c =
    (shard-is c.self.inside.file.now c.self.inside.header c.self.inside.entries c.args.i c.shards_of-shards.result.now c.behind-rest.result.now c.self.invariant c.if-i-self.false c.shards_of-shards.ensures c.behind-rest.ensures).room

pub returns : goal.returns
returns c =
    (λ t. Some (c.first_shard.ensures t))
    ∙ sym (shard-is c.self.inside.file.now c.self.inside.header c.self.inside.entries c.args.i c.shards_of-shards.result.now c.behind-rest.result.now c.self.invariant c.if-i-self.false c.shards_of-shards.ensures c.behind-rest.ensures).shown
    ∙ ap (λ (p : Parts). option_map shard_bytes (slice_get p.shards c.args.i)) c.self.view_is
