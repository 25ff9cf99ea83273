-- The lemmas about shards judged alone that other crates cite.

-- a shard that was judged alone is read from its place as by the definition
pub use Rattle.rv_panel.proofs.ShardParts.{shard_read, is-shard-read}
-- the reading of shards from a place on, by what one shard alone comes to
pub use Rattle.rv_panel.proofs.ShardSteps.{from, one-shard, shard_events, refuses, no-head, displaced, place-stated}
-- the reading of the table, by what it comes to alone
pub use Rattle.rv_panel.proofs.TableSteps.{table-refused, table-taken}
-- the number of shards of a checked header
pub use Rattle.rv_panel.proofs.PanelLaws.{shards-within}
