-- What a step takes, puts and ends with: four bytes at most, bytes, and an end in its ranges.
use Rattle.std.proofs.Common.{◌≡◌, ℕ, zero, suc, ◌+◌, ◌-◌, ◌^◌, ◌<◌, ◌≤◌, min, Bool, true, false, cond, ◌||◌, ◌==◌, List, ◌++◌, length, take, drop, Option, Some, None, refl, sym, ap, subst, inl, inr, arith, length-append}
use Rattle.rv_base.specs.declared.machine.TheConstants.{ILLEGAL_WORD, BREAKPOINT, MISALIGNED_JUMP, MISALIGNED_LOAD, MISALIGNED_STORE}
use Rattle.rv_base.specs.declared.instr.Instr.{Instr}
use Rattle.rv_base.specs.declared.instr.Instr.TheVariants.{Lui, Auipc, Jal, Jalr, Branch, Load, Store, OpImm, Op as OpReg, Fence, Ecall, Ebreak}
use Rattle.rv_base.specs.declared.instr.AtomicOp.{AtomicOp}
use Rattle.rv_base.specs.declared.instr.AtomicOp.TheVariants as amo
use Rattle.rv_spec.specs.Words.{Memory, byte, bytes_from, store_bytes, AreBytes}
use Rattle.rv_spec.specs.Decode.{AnyInstr, rv32im, rv32a, decode_any}
use Rattle.rv_spec.specs.Step.{State, Transition, Next, Ends, register, within_word, stops, exits, return_in_a0, read_call, write_call, environment_call, execute, atomic_at, execute_atomic, execute_if, fetch_word, step}
use Rattle.rv_rules.specs.Agreement.{IsState}
use Rattle.rv_isa.specs.Ranges.{EndFits}
use Rattle.rv_isa.proofs.WordRanges.{register-fits}
use Rattle.rv_rules.proofs.Lemmas.{append-bytes}

-- a step takes four bytes at most, puts bytes, four at most, and ends with an end in its ranges
abbrev pub TurnFits : State → Transition → Type 0
TurnFits s (Next t) = (t.position ≤ s.position + 4) × (AreBytes s.output → AreBytes t.output) × (length t.output ≤ length s.output + 4)
TurnFits s (Ends e) = EndFits e

choice-fits : (s : State) (b : Bool) (t u : Transition) → TurnFits s t → TurnFits s u → TurnFits s (cond b t u)
choice-fits s true t u h k = h
choice-fits s false t u h k = k

stop-fits : (s : State) (kind : ℕ) → kind ≤ MISALIGNED_STORE → TurnFits s (stops kind)
stop-fits s kind h = record { kind = h; code = omega arith; code_of_exit = inr refl }

exit-fits : (s : State) (code : ℕ) → code < 2 ^ 32 → TurnFits s (exits code)
exit-fits s code h = record { kind = omega arith; code = h; code_of_exit = inl refl }

-- a turn to a state with the same position and output
quiet-fits : (s t : State) → t.position ≡ s.position → t.output ≡ s.output → TurnFits s (Next t)
quiet-fits s t p o = (omega (arith, p), (λ (h : AreBytes s.output). subst AreBytes (sym o) h), omega (arith, ap length o))

-- what is read from memory are bytes
memory-bytes : (m : Memory) (a k : ℕ) → ((x : ℕ) → byte m x < 2 ^ 8) → AreBytes (bytes_from m a k)
memory-bytes m a zero h = tt
memory-bytes m a (suc k) h = (h a, memory-bytes m (a + 1) k h)

memory-length : (m : Memory) (a k : ℕ) → length (bytes_from m a k) ≡ k
memory-length m a zero = refl
memory-length m a (suc k) = ap suc (memory-length m (a + 1) k)

misaligned-jump-fits : (s : State) → TurnFits s (stops MISALIGNED_JUMP)
misaligned-jump-fits s = stop-fits s MISALIGNED_JUMP (omega arith)

misaligned-load-fits : (s : State) → TurnFits s (stops MISALIGNED_LOAD)
misaligned-load-fits s = stop-fits s MISALIGNED_LOAD (omega arith)

misaligned-store-fits : (s : State) → TurnFits s (stops MISALIGNED_STORE)
misaligned-store-fits s = stop-fits s MISALIGNED_STORE (omega arith)

read-fits : (input : List ℕ) (s : State) → TurnFits s (read_call input s)
read-fits input s = go (register s 10 == 0)
  where
    go : (b : Bool) →
        let buffer = register s 11 in
        let k = min (length input - s.position) (within_word buffer (register s 12)) in
        let with_bytes = record s { memory = store_bytes s.memory buffer (take k (drop s.position input)); position = s.position + k } in
        TurnFits s (cond b (return_in_a0 k with_bytes) (return_in_a0 0xFFFFFFF7 s))
    go true = (omega arith, (λ h. h), omega arith)
    go false = (omega arith, (λ h. h), omega arith)

write-fits : (s : State) → IsState s → TurnFits s (write_call s)
write-fits s is = go (register s 10 == 1) (register s 10 == 2)
  where
    go : (b c : Bool) →
        let buffer = register s 11 in
        let k = within_word buffer (register s 12) in
        let put = record s { output = s.output ++ bytes_from s.memory buffer k } in
        TurnFits s (cond b (return_in_a0 k put) (cond c (return_in_a0 (register s 12) s) (return_in_a0 0xFFFFFFF7 s)))
    go true c =
        let k = within_word (register s 11) (register s 12) in
        let put = bytes_from s.memory (register s 11) k in (
          omega arith,
          (λ h. append-bytes s.output put h (memory-bytes s.memory (register s 11) k is.bytes)),
          omega (arith, length-append s.output put, memory-length s.memory (register s 11) k),
        )
    go false true = (omega arith, (λ h. h), omega arith)
    go false false = (omega arith, (λ h. h), omega arith)

call-fits : (input : List ℕ) (s : State) → IsState s → TurnFits s (environment_call input s)
unfolding environment_call
call-fits input s is = go (register s 17 == 93 || register s 17 == 94) (register s 17 == 63) (register s 17 == 64)
  where
    go : (a b c : Bool) → TurnFits s (cond a (exits (register s 10)) (cond b (read_call input s) (cond c (write_call s) (return_in_a0 0xFFFFFFDA s))))
    go true b c = exit-fits s (register s 10) (register-fits s 10 is)
    go false true c = read-fits input s
    go false false true = write-fits s is
    go false false false = (omega arith, (λ h. h), omega arith)

instruction-fits : (input : List ℕ) (i : Instr) (s : State) → IsState s → TurnFits s (execute input i s)
unfolding execute
instruction-fits input (Lui rd imm) s is = (omega arith, (λ h. h), omega arith)
instruction-fits input (Auipc rd imm) s is = (omega arith, (λ h. h), omega arith)
instruction-fits input (Jal rd off) s is = search (choice-fits, quiet-fits, misaligned-jump-fits)
instruction-fits input (Jalr rd rs1 imm) s is = search (choice-fits, quiet-fits, misaligned-jump-fits)
instruction-fits input (Branch c rs1 rs2 off) s is = search (choice-fits, quiet-fits, misaligned-jump-fits)
instruction-fits input (Load kind rd rs1 imm) s is = search (choice-fits, quiet-fits, misaligned-load-fits)
instruction-fits input (Store kind rs1 rs2 imm) s is = search (choice-fits, quiet-fits, misaligned-store-fits)
instruction-fits input (OpImm o rd rs1 imm) s is = (omega arith, (λ h. h), omega arith)
instruction-fits input (OpReg o rd rs1 rs2) s is = (omega arith, (λ h. h), omega arith)
instruction-fits input (Fence rd rs1 imm) s is = (omega arith, (λ h. h), omega arith)
instruction-fits input Ecall s is = call-fits input s is
instruction-fits input Ebreak s is = stop-fits s BREAKPOINT (omega arith)

atomic-fits : (op : AtomicOp) (rd a v : ℕ) (s : State) → TurnFits s (atomic_at op rd a v s)
atomic-fits amo.Lr rd a v s = search (choice-fits, quiet-fits, misaligned-load-fits)
atomic-fits amo.Sc rd a v s = search (choice-fits, quiet-fits, misaligned-store-fits)
atomic-fits op rd a v s = search (choice-fits, quiet-fits, misaligned-store-fits)

any-fits : (input : List ℕ) (o : Option AnyInstr) (s : State) → IsState s → TurnFits s (execute_if input o s)
unfolding execute_atomic
any-fits input None s is = stop-fits s ILLEGAL_WORD (omega arith)
any-fits input (Some (rv32im i)) s is = instruction-fits input i s is
any-fits input (Some (rv32a i)) s is = atomic-fits i.op i.rd (register s i.rs1) (register s i.rs2) s

-- the machine's step has these ranges
pub step-fits : (input : List ℕ) (s : State) → IsState s → TurnFits s (step input s)
unfolding step
step-fits input s is = any-fits input (decode_any s.version (fetch_word s)) s is
