use Rattle.std.proofs.Common.{◌++◌, [], refl, sym, ◌∙◌, arith}
use Rattle.std.specs.Int.{w32, w64, to_le_bytes}
use Rattle.std.proofs.lemmas.List.{take_all}
use Rattle.rv_spec.specs.Record.{entry_bytes}
use Rattle.rv_row.proofs.Lemmas.{fills}
use Rattle.rv_file.proofs.table.write_entry.Goals as goal

pub returns : goal.returns
unfolding entry_bytes
returns c =
    let e = c.args.e.now in
    let s1 = c.set32.ensures.size in
    let s2 = c.set32-2.ensures.size in
    let s3 = c.set64.ensures.size in
    let cell = fills w32 0 4 e.cell _ c.set32.new.bytes [] refl refl (omega arith) refl c.set32.ensures in
    let value = fills w32 4 8 e.value c.set32.new.bytes c.set32-2.new.bytes (to_le_bytes w32 e.cell) refl refl (omega arith) cell c.set32-2.ensures in
    let time = fills w64 8 16 e.time c.set32-2.new.bytes c.set64.new.bytes (to_le_bytes w32 e.cell ++ to_le_bytes w32 e.value) refl refl (omega arith) value c.set64.ensures in
    sym (take_all 16 c.set64.new.bytes (omega arith)) ∙ time
