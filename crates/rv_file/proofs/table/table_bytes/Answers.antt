use Rattle.std.proofs.Common.{List, ◌++◌, length, ap, ◌∙◌}
use Rattle.std.specs.Int.{w32, to_le_bytes}
use Rattle.std.specs.List.{flat_map}
use Rattle.std.proofs.lemmas.List.{take_all}
use Rattle.rv_base.specs.declared.record.TableEntry.{TableEntry}
use Rattle.rv_spec.specs.Record.{table_bytes, entry_bytes}
use Rattle.rv_file.proofs.table.table_bytes.Goals as goal

pub returns : goal.returns
unfolding table_bytes
returns c =
    let entries = c.args.entries.now in
    c.loop-e.invariant ∙ ap (λ (es : List TableEntry). to_le_bytes w32 (length entries) ++ flat_map entry_bytes es) (take_all c.loop-e.e-index entries c.loop-e-test.false)
