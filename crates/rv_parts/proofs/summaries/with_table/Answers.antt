use Rattle.std.proofs.Common.{Some, None, length, refl}
use Rattle.std.specs.Prelude.{nat_lt}
use Rattle.rv_parts.specs.declared.summaries.Summary.{Summary}
use Rattle.rv_parts.proofs.SummaryLaws.{table-added, table-refused}
use Rattle.rv_parts.proofs.summaries.with_table.Goals as goal

pub returns-in-Err-clause-table : goal.returns-in-Err-clause-table
returns-in-Err-clause-table g c =
    let old = c.args.shards.now in
    let new : Summary = record {
      first = old.first;
      count = old.count;
      before = old.before;
      after = old.after;
      reads = old.reads;
      writes = old.writes;
      entries = old.entries;
      trailing = old.trailing;
      refusal = Some c.in-Err.refusal;
    } in
    table-refused g.L.Lanes.lanes c.args.program.now.elf c.args.header.now old new c.args.bytes.now c.in-Err.refusal c.in-Err.ensures refl

pub returns-clause-table : goal.returns-clause-table
returns-clause-table g c =
    let old = c.args.shards.now in
    let table = c.in-Ok.table in
    let new : Summary = record {
      first = old.first;
      count = old.count;
      before = old.before;
      after = old.after;
      reads = c.add.new.self;
      writes = c.add-2.new.self;
      entries = table.entries;
      trailing = nat_lt table.used (length c.args.bytes.now);
      refusal = None;
    } in
    table-added g.L.Lanes.lanes c.args.program.now.elf c.args.header.now old new c.args.bytes.now table c.in-Ok.ensures
    (λ read ts. c.add.ensures.of_list g.L.Lanes.lanes read ts)
    (λ written ts. c.add-2.ensures.of_list g.L.Lanes.lanes written ts)
    refl refl refl refl
