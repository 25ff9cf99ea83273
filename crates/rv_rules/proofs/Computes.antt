-- What unfolds where an example is to compute: a proof names `computes` of the book and `judges` of the rules.
use Rattle.rv_rules.specs.Expected.{expected, expected_instr, expected_atomic, expected_call, splice, extract}
use Rattle.rv_rules.specs.RowRules.{row_checks, place_after}
use Rattle.rv_rules.specs.Reading.{read_row, read_rows, read_shard, read_shards, read_entries, read_file}

unfoldable pub judges : Unit {0}
unfolding expected expected_instr expected_atomic expected_call splice extract row_checks place_after read_row read_rows read_shard read_shards read_entries read_file
judges = tt
