-- The front of a file that some parts spell.
use Rattle.std.proofs.Common.{◌≡◌, ℕ, ◌+◌, ◌-◌, ◌≤◌, List, ◌++◌, length, take, ap, ◌∙◌, append_assoc, arith}
use Rattle.std.specs.List.{flat_map}
use Rattle.std.proofs.lemmas.List.{length-append}
use Rattle.rv_spec.specs.Record.{Parts, header_bytes, shard_bytes, table_bytes, file_bytes}
use Rattle.rv_spec.specs.Grammar.{Spells}
use Rattle.rv_file.proofs.Lemmas.{length-header_bytes}
use Rattle.rv_parts.specs.Cutting.{front_of}
use Rattle.rv_parts.proofs.ShardsOfParts.{front-taken}

pub length-front : (q : Parts) (file : List ℕ) → Spells q file → length (front_of q) ≡ 173 + q.header.length
length-front q file spells =
    length-append (header_bytes q.header) q.output ∙ omega (arith, length-header_bytes q.header spells.fit.header, spells.fit.output.0)

pub front-then : (q : Parts) (file : List ℕ) → Spells q file → file ≡ front_of q ++ (flat_map shard_bytes q.shards ++ table_bytes q.table)
unfolding file_bytes
front-then q file spells = spells.is ∙ append_assoc (front_of q) (flat_map shard_bytes q.shards) (table_bytes q.table)

-- the front is what is before shards and table
pub front-room : (q : Parts) (file shards : List ℕ) → Spells q file → shards ≡ flat_map shard_bytes q.shards ++ table_bytes q.table → length shards ≤ length file
front-room q file shards spells is =
    omega (arith, ap length (front-then q file spells), length-append (front_of q) (flat_map shard_bytes q.shards ++ table_bytes q.table), ap length is)

pub front-is : (q : Parts) (file shards : List ℕ) → Spells q file → shards ≡ flat_map shard_bytes q.shards ++ table_bytes q.table → take (length file - length shards) file ≡ front_of q
front-is q file shards spells is =
    let behind = flat_map shard_bytes q.shards ++ table_bytes q.table in
    let file_is = front-then q file spells in
    (λ t. take (length (file_is t) - length (is t)) (file_is t)) ∙ front-taken (front_of q) behind
