-- Worked examples, which compute.
use Rattle.std.proofs.Common.{◌≡◌, pos, negsuc, [], ◌∷◌, map, true, false, ◌+◌, ◌-◌, ◌^◌, Some, None, refl}
use Rattle.rv_base.specs.declared.instr.Op.TheVariants as op
use Rattle.rv_base.specs.declared.instr.StoreKind.TheVariants as store
use Rattle.rv_base.specs.declared.instr.Instr.TheVariants as instr
use Rattle.rv_base.specs.declared.instr.AtomicOp.TheVariants as amo
use Rattle.rv_spec.specs.Decode.{decode, rv32im_table, decode_atomic, rv32a_table, decode_any, rv32a}
use Rattle.rv_spec.specs.Arithmetic.{compute}
use Rattle.rv_spec.specs.Cells.{is_cell}

addi : decode 0x02A00513 ≡ Some (instr.OpImm op.Add 10 0 (pos 42))
unfolding decode rv32im_table
addi = refl

mul : decode 0x027302B3 ≡ Some (instr.Op op.Mul 5 6 7)
unfolding decode rv32im_table
mul = refl

div : decode 0x027342B3 ≡ Some (instr.Op op.Div 5 6 7)
unfolding decode rv32im_table
div = refl

sw : decode 0x0062A223 ≡ Some (instr.Store store.W 5 6 (pos 4))
unfolding decode rv32im_table
sw = refl

jal : decode 0xFFDFF06F ≡ Some (instr.Jal 0 (negsuc 3))
unfolding decode rv32im_table
jal = refl

jalr : decode 0x002000E7 ≡ Some (instr.Jalr 1 0 (pos 2))
unfolding decode rv32im_table
jalr = refl

illegal : decode 0 ≡ None
unfolding decode rv32im_table
illegal = refl

sc : decode_any 2 0x1862A3AF ≡ Some (rv32a (record { op = amo.Sc; rd = 7; rs1 = 5; rs2 = 6; flags = 0 }))
unfolding decode_any decode decode_atomic rv32im_table rv32a_table
sc = refl

sc-in-version-1 : decode_any 1 0x1862A3AF ≡ None
unfolding decode_any decode decode_atomic rv32im_table rv32a_table
sc-in-version-1 = refl

div-overflow : compute op.Div 0x80000000 0xFFFFFFFF ≡ 0x80000000
unfolding compute
div-overflow = refl

rem-overflow : compute op.Rem 0x80000000 0xFFFFFFFF ≡ 0
unfolding compute
rem-overflow = refl

div-by-zero : compute op.Div 7 0 ≡ 0xFFFFFFFF
unfolding compute
div-by-zero = refl

rem-by-zero : compute op.Rem 7 0 ≡ 7
unfolding compute
rem-by-zero = refl

mulh : compute op.Mulh 0x80000000 0x80000000 ≡ 0x40000000
unfolding compute
mulh = refl

mulhsu : compute op.Mulhsu 0xFFFFFFFF 0xFFFFFFFF ≡ 0xFFFFFFFF
unfolding compute
mulhsu = refl

mulhu : compute op.Mulhu 0xFFFFFFFF 0xFFFFFFFF ≡ 0xFFFFFFFE
unfolding compute
mulhu = refl

cells : map (is_cell 1) (0 ∷ (2 ^ 30 - 1) ∷ (2 ^ 30) ∷ (2 ^ 30 + 1) ∷ (2 ^ 30 + 31) ∷ (2 ^ 30 + 32) ∷ []) ≡ true ∷ true ∷ false ∷ true ∷ true ∷ false ∷ []
cells = refl

cells-2 : map (is_cell 2) (0 ∷ (2 ^ 30) ∷ (2 ^ 30 + 31) ∷ (2 ^ 30 + 32) ∷ (2 ^ 30 + 33) ∷ []) ≡ true ∷ false ∷ true ∷ true ∷ false ∷ []
cells-2 = refl
