use Rattle.std.proofs.Common.{◌++◌, [], refl, sym, ◌∙◌, arith}
use Rattle.std.specs.Int.{w32, w64, to_le_bytes}
use Rattle.std.proofs.lemmas.List.{take_all}
use Rattle.rv_spec.specs.Record.{head_bytes}
use Rattle.rv_row.proofs.Lemmas.{fills}
use Rattle.rv_file.proofs.heads.write_head.Goals as goal

pub returns : goal.returns
unfolding head_bytes
returns c =
    let h = c.args.h.now in
    let s1 = c.set32.ensures.size in
    let s2 = c.set32-2.ensures.size in
    let s3 = c.set32-3.ensures.size in
    let s4 = c.set64.ensures.size in
    let s5 = c.set64-2.ensures.size in
    let s6 = c.set32-4.ensures.size in
    let index = fills w32 0 4 h.index _ c.set32.new.bytes [] refl refl (omega arith) refl c.set32.ensures in
    let rows = fills w32 4 8 h.rows c.set32.new.bytes c.set32-2.new.bytes (to_le_bytes w32 h.index) refl refl (omega arith) index c.set32-2.ensures in
    let pc = fills w32 8 12 h.pc c.set32-2.new.bytes c.set32-3.new.bytes (to_le_bytes w32 h.index ++ to_le_bytes w32 h.rows) refl refl (omega arith) rows c.set32-3.ensures in
    let input = fills w64 12 20 h.input c.set32-3.new.bytes c.set64.new.bytes (to_le_bytes w32 h.index ++ to_le_bytes w32 h.rows ++ to_le_bytes w32 h.pc) refl refl (omega arith) pc c.set64.ensures in
    let output = fills w64 20 28 h.output c.set64.new.bytes c.set64-2.new.bytes (to_le_bytes w32 h.index ++ to_le_bytes w32 h.rows ++ to_le_bytes w32 h.pc ++ to_le_bytes w64 h.input) refl refl (omega arith) input c.set64-2.ensures in
    let bytes = fills w32 28 32 h.bytes c.set64-2.new.bytes c.set32-4.new.bytes (to_le_bytes w32 h.index ++ to_le_bytes w32 h.rows ++ to_le_bytes w32 h.pc ++ to_le_bytes w64 h.input ++ to_le_bytes w64 h.output) refl refl (omega arith) output c.set32-4.ensures in
    sym (take_all 32 c.set32-4.new.bytes (omega arith)) ∙ bytes
