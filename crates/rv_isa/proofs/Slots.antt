-- The slots of a step rise from 1 to 8, so each is used once at most.
use Rattle.std.proofs.Common.{◌≡◌, ◌≢◌, ℕ, zero, suc, ◌+◌, ◌-◌, ◌/◌, ◌%◌, ◌<◌, ◌≤◌, min, Bool, true, false, cond, ◌||◌, ◌==◌, List, [], ◌∷◌, ◌++◌, length, map, Option, Some, None, refl, arith}
use Rattle.std.specs.List.{AllByRecursion}
use Rattle.rv_base.specs.declared.record.Access.{Access}
use Rattle.rv_base.specs.declared.instr.Instr.{Instr}
use Rattle.rv_base.specs.declared.instr.Instr.TheVariants.{Lui, Auipc, Jal, Jalr, Branch, Load, Store, OpImm, Op, Fence, Ecall, Ebreak}
use Rattle.rv_base.specs.declared.instr.AtomicOp.{AtomicOp}
use Rattle.rv_base.specs.declared.instr.AtomicOp.TheVariants as amo
use Rattle.rv_base.specs.declared.instr.Atomic.{Atomic}
use Rattle.rv_spec.specs.Words.{plus}
use Rattle.rv_spec.specs.Decode.{AnyInstr, rv32im, rv32a}
use Rattle.rv_spec.specs.Step.{State, register, load_width, store_width, within_word}
use Rattle.rv_rules.specs.Chain.{AllDiffer}
use Rattle.rv_spec.specs.Cells.{register_cell, reservation_cell}
use Rattle.rv_spec.specs.Visits.{Use, use_of, use_register, use_buffer, where_aligned, argument_uses, call_uses, uses, aligned_atomic_uses, atomic_uses, instruction_uses}
use Rattle.rv_rules.specs.RowRules.{old_in, seen}
pub use Rattle.rv_isa.specs.Ranges.{Rises}
use Rattle.rv_isa.proofs.Uses.{seen_in}

from-lower : (lo mid hi : ℕ) (us : List Use) → lo ≤ mid → Rises mid hi us → Rises lo hi us
from-lower lo mid hi [] h r = omega arith
from-lower lo mid hi (u ∷ us) h r = (omega (arith, r.0), r.1)

pub joined : (lo mid hi : ℕ) (us vs : List Use) → Rises lo mid us → Rises mid hi vs → Rises lo hi (us ++ vs)
joined lo mid hi [] vs h r = from-lower lo mid hi vs h r
joined lo mid hi (u ∷ us) vs h r = (h.0, joined (u.slot + 1) mid hi us vs h.1 r)

chosen : (lo hi : ℕ) (b : Bool) (us vs : List Use) → Rises lo hi us → Rises lo hi vs → Rises lo hi (cond b us vs)
chosen lo hi true us vs p q = p
chosen lo hi false us vs p q = q

abbrev Within : ℕ → ℕ → ℕ → Type 0
Within lo j hi = (lo ≤ j) × (j < hi)

-- a slot of its own
one : (lo hi j cell : ℕ) → Within lo j hi → Rises lo hi (use_of j cell)
one lo hi j cell h = (h.0, omega (arith, h.1))

of-register : (lo hi j r : ℕ) → Within lo j hi → Rises lo hi (use_register j r)
of-register lo hi j r h = chosen lo hi (r == 0) [] (use_of j (register_cell r)) (omega (arith, h.0, h.1)) (one lo hi j (register_cell r) h)

-- nothing, or the uses
if-aligned : (lo hi width a : ℕ) (us : List Use) → lo ≤ hi → Rises lo hi us → Rises lo hi (where_aligned width a us)
if-aligned lo hi width a us h r = chosen lo hi (a % width == 0) us [] r h

of-two : (q r : ℕ) → Rises 2 6 (use_register 2 q ++ use_register 3 r)
of-two q r = joined 2 3 6 (use_register 2 q) (use_register 3 r) (of-register 2 3 2 q (omega arith, omega arith)) (of-register 3 6 3 r (omega arith, omega arith))

last-register : (lo rd : ℕ) → lo ≤ 7 → Rises lo 9 (use_register 7 rd)
last-register lo rd h = of-register lo 9 7 rd (h, omega arith)

with-buffer : (buffer k : ℕ) → Rises 2 9 (argument_uses ++ use_buffer buffer k ++ use_register 7 10)
with-buffer buffer k =
    let arguments : Rises 2 6 argument_uses = (omega arith, (omega arith, (omega arith, (omega arith, omega arith)))) in
    let word : Rises 6 7 (use_buffer buffer k) = chosen 6 7 (k == 0) [] (use_of 6 (buffer / 4)) (omega arith) (one 6 7 6 (buffer / 4) (omega arith, omega arith)) in
    joined 2 7 9 (argument_uses ++ use_buffer buffer k) (use_register 7 10) (joined 2 6 7 argument_uses (use_buffer buffer k) arguments word) (last-register 7 10 (omega arith))

call-rises : (input : List ℕ) (s : State) → Rises 2 9 (call_uses input s)
call-rises input s =
    let number : ℕ = register s 17 in
    let buffer : ℕ = register s 11 in
    let k : ℕ = within_word buffer (register s 12) in
    let exit : List Use = use_register 2 17 ++ use_register 3 10 in
    let read : List Use = argument_uses ++ use_buffer buffer (cond (register s 10 == 0) (min (length input - s.position) k) 0) ++ use_register 7 10 in
    let write : List Use = argument_uses ++ use_buffer buffer (cond (register s 10 == 1) k 0) ++ use_register 7 10 in
    let other : List Use = use_register 2 17 ++ use_register 7 10 in
    chosen 2 9 (number == 93 || number == 94) exit (cond (number == 63) read (cond (number == 64) write other)) (omega arith, (omega arith, omega arith))
    (chosen 2 9 (number == 63) read (cond (number == 64) write other) (with-buffer buffer (cond (register s 10 == 0) (min (length input - s.position) k) 0))
    (chosen 2 9 (number == 64) write other (with-buffer buffer (cond (register s 10 == 1) k 0)) (omega arith, (omega arith, omega arith))))

-- a register that is read, and the rest
read-and : (r : ℕ) (us : List Use) → Rises 3 9 us → Rises 2 9 (use_register 2 r ++ us)
read-and r us h = joined 2 3 9 (use_register 2 r) us (of-register 2 3 2 r (omega arith, omega arith)) h

two-and : (q r : ℕ) (us : List Use) → Rises 6 9 us → Rises 2 9 (use_register 2 q ++ use_register 3 r ++ us)
two-and q r us h = joined 2 6 9 (use_register 2 q ++ use_register 3 r) us (of-two q r) h

instruction-rises : (input : List ℕ) (i : Instr) (s : State) → Rises 2 9 (uses input i s)
unfolding uses
instruction-rises input (Lui rd imm) s = last-register 2 rd (omega arith)
instruction-rises input (Auipc rd imm) s = last-register 2 rd (omega arith)
instruction-rises input (Jal rd off) s = if-aligned 2 9 4 (plus s.pc off) (use_register 7 rd) (omega arith) (last-register 2 rd (omega arith))
instruction-rises input (Jalr rd rs1 imm) s =
    let sum : ℕ = plus (register s rs1) imm in
    read-and rs1 (where_aligned 4 (sum - sum % 2) (use_register 7 rd)) (if-aligned 3 9 4 (sum - sum % 2) (use_register 7 rd) (omega arith) (last-register 3 rd (omega arith)))
instruction-rises input (Branch c rs1 rs2 off) s = read-and rs1 (use_register 3 rs2) (of-register 3 9 3 rs2 (omega arith, omega arith))
instruction-rises input (Load kind rd rs1 imm) s =
    let a : ℕ = plus (register s rs1) imm in
    let moved : Rises 3 9 (use_of 6 (a / 4) ++ use_register 7 rd) = joined 3 7 9 (use_of 6 (a / 4)) (use_register 7 rd) (one 3 7 6 (a / 4) (omega arith, omega arith)) (last-register 7 rd (omega arith)) in
    read-and rs1 (where_aligned (load_width kind) a (use_of 6 (a / 4) ++ use_register 7 rd)) (if-aligned 3 9 (load_width kind) a (use_of 6 (a / 4) ++ use_register 7 rd) (omega arith) moved)
instruction-rises input (Store kind rs1 rs2 imm) s =
    let a : ℕ = plus (register s rs1) imm in
    two-and rs1 rs2 (where_aligned (store_width kind) a (use_of 6 (a / 4))) (if-aligned 6 9 (store_width kind) a (use_of 6 (a / 4)) (omega arith) (one 6 9 6 (a / 4) (omega arith, omega arith)))
instruction-rises input (OpImm o rd rs1 imm) s = read-and rs1 (use_register 7 rd) (last-register 3 rd (omega arith))
instruction-rises input (Op o rd rs1 rs2) s = two-and rs1 rs2 (use_register 7 rd) (last-register 6 rd (omega arith))
instruction-rises input (Fence rd rs1 imm) s = omega arith
instruction-rises input Ecall s = call-rises input s
instruction-rises input Ebreak s = omega arith

moved-rises : (lo hi : ℕ) (a rd : ℕ) → Within lo 6 hi → 7 < hi → Rises lo hi (use_of 6 (a / 4) ++ use_register 7 rd)
moved-rises lo hi a rd h k = joined lo 7 hi (use_of 6 (a / 4)) (use_register 7 rd) (one lo 7 6 (a / 4) (h.0, omega arith)) (of-register 7 hi 7 rd (omega arith, k))

reservation-rises : Rises 8 9 (use_of 8 reservation_cell)
reservation-rises = one 8 9 8 reservation_cell (omega arith, omega arith)

aligned-rises : (op : AtomicOp) (rd a : ℕ) (s : State) → Rises 6 9 (aligned_atomic_uses op rd a s)
aligned-rises amo.Lr rd a s = joined 6 8 9 (use_of 6 (a / 4) ++ use_register 7 rd) (use_of 8 reservation_cell) (moved-rises 6 8 a rd (omega arith, omega arith) (omega arith)) reservation-rises
aligned-rises amo.Sc rd a s =
    let word : List Use = cond (s.reservation == a + 1) (use_of 6 (a / 4)) [] in
    let word_rises : Rises 6 7 word = chosen 6 7 (s.reservation == a + 1) (use_of 6 (a / 4)) [] (one 6 7 6 (a / 4) (omega arith, omega arith)) (omega arith) in
    joined 6 8 9 (word ++ use_register 7 rd) (use_of 8 reservation_cell) (joined 6 7 8 word (use_register 7 rd) word_rises (of-register 7 8 7 rd (omega arith, omega arith))) reservation-rises
aligned-rises op rd a s = moved-rises 6 9 a rd (omega arith, omega arith) (omega arith)

atomic-rises : (i : Atomic) (s : State) → Rises 2 9 (atomic_uses i s)
unfolding atomic_uses
atomic-rises i s =
    let a : ℕ = register s i.rs1 in
    two-and i.rs1 i.rs2 (where_aligned 4 a (aligned_atomic_uses i.op i.rd a s)) (if-aligned 6 9 4 a (aligned_atomic_uses i.op i.rd a s) (omega arith) (aligned-rises i.op i.rd a s))

pub slots-rise : (input : List ℕ) (o : Option AnyInstr) (s : State) → Rises 2 9 (instruction_uses input o s)
slots-rise input None s = omega arith
slots-rise input (Some (rv32im i)) s = instruction-rises input i s
slots-rise input (Some (rv32a i)) s = atomic-rises i s

-- ---- what rising slots give

above : (lo hi : ℕ) (us : List Use) → Rises lo hi us → lo ≤ hi
above lo hi [] r = r
above lo hi (u ∷ us) r = omega (arith, r.0, above (u.slot + 1) hi us r.1)

pub all-within : (lo hi : ℕ) (us : List Use) → Rises lo hi us → AllByRecursion (λ u. (lo ≤ u.slot) × (u.slot < hi)) us
all-within lo hi [] r = tt
all-within lo hi (u ∷ us) r = ((r.0, omega (arith, above (u.slot + 1) hi us r.1)), all-within lo hi us (from-lower lo (u.slot + 1) hi us (omega (arith, r.0)) r.1))

pub slots-differ : (lo hi : ℕ) (us : List Use) → Rises lo hi us → AllDiffer (map (λ u. u.slot) us)
slots-differ lo hi [] r = tt
slots-differ lo hi (u ∷ us) r = (apart us (all-within (u.slot + 1) hi us r.1), slots-differ (u.slot + 1) hi us r.1)
  where
    apart : (vs : List Use) → AllByRecursion (λ v. (u.slot + 1 ≤ v.slot) × (v.slot < hi)) vs → AllByRecursion (λ y. u.slot ≢ y) (map (λ v. v.slot) vs)
    apart [] h = tt
    apart (v ∷ vs) h = ((λ e. absurd (omega (arith, h.0.0, e))), apart vs h.1)

-- what a row shows in a slot
pub slot-seen : (accesses : List Access) (j : ℕ) → 1 ≤ j → j < 9 → seen_in (seen accesses) j ≡ old_in accesses j
slot-seen accesses zero h k = absurd (omega arith)
slot-seen accesses (suc zero) h k = refl
slot-seen accesses (suc (suc zero)) h k = refl
slot-seen accesses (suc (suc (suc zero))) h k = refl
slot-seen accesses (suc (suc (suc (suc zero)))) h k = refl
slot-seen accesses (suc (suc (suc (suc (suc zero))))) h k = refl
slot-seen accesses (suc (suc (suc (suc (suc (suc zero)))))) h k = refl
slot-seen accesses (suc (suc (suc (suc (suc (suc (suc zero))))))) h k = refl
slot-seen accesses (suc (suc (suc (suc (suc (suc (suc (suc zero)))))))) h k = refl
slot-seen accesses (suc (suc (suc (suc (suc (suc (suc (suc (suc j))))))))) h k = absurd (omega arith)
