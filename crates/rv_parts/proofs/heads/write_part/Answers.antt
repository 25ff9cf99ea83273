use Rattle.std.proofs.Common.{◌++◌, refl, sym, ◌∙◌, arith}
use Rattle.std.specs.Int.{w32, to_le_bytes}
use Rattle.std.proofs.lemmas.List.{take_all}
use Rattle.rv_row.proofs.Lemmas.{fills}
use Rattle.rv_parts.specs.Heads.{part_magic}
use Rattle.rv_parts.proofs.heads.write_part.Goals as goal

pub returns : goal.returns
returns c =
    let h = c.args.h.now in
    let s1 = c.set32.ensures.size in
    let s2 = c.set32-2.ensures.size in
    let s3 = c.set32-3.ensures.size in
    let s4 = c.set32-4.ensures.size in
    let number = fills w32 8 12 h.number _ c.set32.new.bytes part_magic refl refl (omega arith) refl c.set32.ensures in
    let parts = fills w32 12 16 h.parts c.set32.new.bytes c.set32-2.new.bytes (part_magic ++ to_le_bytes w32 h.number) refl refl (omega arith) number c.set32-2.ensures in
    let first = fills w32 16 20 h.first c.set32-2.new.bytes c.set32-3.new.bytes (part_magic ++ to_le_bytes w32 h.number ++ to_le_bytes w32 h.parts) refl refl (omega arith) parts c.set32-3.ensures in
    let count = fills w32 20 24 h.count c.set32-3.new.bytes c.set32-4.new.bytes (part_magic ++ to_le_bytes w32 h.number ++ to_le_bytes w32 h.parts ++ to_le_bytes w32 h.first) refl refl (omega arith) first c.set32-4.ensures in
    sym (take_all 24 c.set32-4.new.bytes (omega arith)) ∙ count
