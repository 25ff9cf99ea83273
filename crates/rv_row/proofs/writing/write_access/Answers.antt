use Rattle.std.proofs.Common.{◌≡◌, ◌+◌, ◌∷◌, ◌++◌, [], take, set, refl, ◌∙◌, arith}
use Rattle.std.specs.Int.{w32, w64, to_le_bytes}
use Rattle.std.proofs.lemmas.List.{take_more_set, length-set}
use Rattle.rv_spec.specs.Record.{access_bytes}
use Rattle.rv_row.proofs.Filling.{fills, regroup}
use Rattle.rv_row.proofs.writing.write_access.Goals as goal

pub returns : goal.returns
unfolding access_bytes
returns c =
    let bytes = c.args.bytes.now in
    let at = c.args.at in
    let a = c.args.access.now in
    let before = take at bytes in
    let sizes = length-set bytes at a.slot in
    let slot : take (at + 1) (set bytes at a.slot) ≡ before ++ a.slot ∷ [] = take_more_set bytes at a.slot (omega arith) in
    let cell = fills w32 (at + 1) (at + 5) a.cell (set bytes at a.slot) c.set32.new.bytes (before ++ a.slot ∷ []) refl (omega arith) (omega (arith, sizes)) slot c.set32.ensures in
    let old = fills w32 (at + 5) (at + 9) a.old c.set32.new.bytes c.set32-2.new.bytes (before ++ a.slot ∷ [] ++ to_le_bytes w32 a.cell) refl (omega arith) (omega (arith, sizes, c.set32.ensures.size)) cell c.set32-2.ensures in
    let prev = fills w64 (at + 9) (at + 17) a.prev c.set32-2.new.bytes c.set64.new.bytes (before ++ a.slot ∷ [] ++ to_le_bytes w32 a.cell ++ to_le_bytes w32 a.old) refl (omega arith) (omega (arith, sizes, c.set32.ensures.size, c.set32-2.ensures.size)) old c.set64.ensures in
    let new = fills w32 (at + 17) (at + 21) a.new c.set64.new.bytes c.set32-3.new.bytes (before ++ a.slot ∷ [] ++ to_le_bytes w32 a.cell ++ to_le_bytes w32 a.old ++ to_le_bytes w64 a.prev) refl (omega arith) (omega (arith, sizes, c.set32.ensures.size, c.set32-2.ensures.size, c.set64.ensures.size)) prev c.set32-3.ensures in
    new ∙ regroup before (a.slot ∷ []) (to_le_bytes w32 a.cell) (to_le_bytes w32 a.old) (to_le_bytes w64 a.prev) (to_le_bytes w32 a.new)
