use Rattle.std.proofs.Common.{◌≡◌, ◌++◌, take, drop}
use Rattle.std.specs.List.{flat_map}
use Rattle.rv_spec.specs.Record.{shard_bytes, table_bytes}
use Rattle.rv_text.proofs.Lemmas.{rows_in}
use Rattle.rv_query.specs.Accesses.{numbered}
use Rattle.rv_query.specs.Following.{GoPast}
use Rattle.rv_query.proofs.following.follow.Given as goal

abbrev pub invariant-loop-i : goal.invariant-loop-i
invariant-loop-i l = record {
  past : GoPast l.first l.until l.fn.trails l.trails (numbered 0 (rows_in (take l.i l.parsed.shards)));
  left : l.rest ≡ flat_map shard_bytes (drop l.i l.parsed.shards) ++ table_bytes l.parsed.table;
}
