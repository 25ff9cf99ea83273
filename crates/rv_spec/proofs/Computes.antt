-- What unfolds where an example is to compute: a proof names `computes` alone.
use Rattle.sha2.specs.Sha512.{sha512, digest_bytes, hash_after, compress, rounds, schedule, first_words}
use Rattle.rv_spec.specs.Words.{block_byte, byte, store_bytes}
use Rattle.rv_spec.specs.Elf.{headers, load_segments, first_fault}
use Rattle.rv_spec.specs.Decode.{decode, rv32im_table, decode_atomic, rv32a_table, decode_any}
use Rattle.rv_spec.specs.Arithmetic.{compute, taken, amo_result}
use Rattle.rv_spec.specs.Step.{step, execute, execute_atomic, environment_call, load_value, store_value}
use Rattle.rv_spec.specs.Run.{run}
use Rattle.rv_spec.specs.Cells.{value}
use Rattle.rv_spec.specs.Visits.{visits, uses, atomic_uses, step_uses}
use Rattle.rv_spec.specs.Trace.{history, last_use, table_of, table}
use Rattle.rv_spec.specs.Digest.{digest_lane, sha_lanes}
use Rattle.rv_spec.specs.Multiset.{count}
use Rattle.rv_spec.specs.Record.{reads, writes, file_bytes, header_bytes, head_bytes, access_bytes, row_bytes, shard_bytes, entry_bytes, table_bytes}

unfoldable pub computes : Unit {0}
unfolding sha512 digest_bytes hash_after compress rounds schedule first_words block_byte byte store_bytes headers load_segments first_fault decode rv32im_table decode_atomic rv32a_table decode_any compute taken amo_result step execute execute_atomic environment_call load_value store_value run value visits uses atomic_uses step_uses history last_use table_of table digest_lane sha_lanes count reads writes file_bytes header_bytes head_bytes access_bytes row_bytes shard_bytes entry_bytes table_bytes
computes = tt
