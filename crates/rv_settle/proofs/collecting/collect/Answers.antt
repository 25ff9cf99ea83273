use Rattle.rv_spec.specs.Record.{table_bytes}
use Rattle.rv_settle.proofs.Gaining.{all-collected}
use Rattle.rv_settle.proofs.Spelling.{from-here}
use Rattle.rv_settle.proofs.collecting.collect.Goals as goal

pub returns-clause-reads : goal.returns-clause-reads
returns-clause-reads c =
    let p = c.args.parsed.now in
    (all-collected c.args.program.now.elf p c.new-tuples.result c.collect_shards.new.tuples c.collect_table.new.tuples c.new-tuples.ensures.reads c.new-tuples.ensures.writes
    (c.in_ok-collect_shards.ensures p.shards (table_bytes p.table) (from-here p c.header-header.result c.args.file.now c.behind-shards.result.now c.requires c.header-header.ensures c.behind-shards.ensures))
    (c.in_ok-collect_table.ensures p.header.version)).reads_are

pub returns-clause-writes : goal.returns-clause-writes
returns-clause-writes c =
    let p = c.args.parsed.now in
    (all-collected c.args.program.now.elf p c.new-tuples.result c.collect_shards.new.tuples c.collect_table.new.tuples c.new-tuples.ensures.reads c.new-tuples.ensures.writes
    (c.in_ok-collect_shards.ensures p.shards (table_bytes p.table) (from-here p c.header-header.result c.args.file.now c.behind-shards.result.now c.requires c.header-header.ensures c.behind-shards.ensures))
    (c.in_ok-collect_table.ensures p.header.version)).writes_are
