-- A step leads from a state to a state: the ranges of registers, bytes, the counter and the reservation stay.
use Rattle.std.proofs.Common.{◌≡◌, ℕ, zero, suc, ℤ, ◌+◌, ◌-◌, ◌%◌, ◌^◌, ◌<◌, ◌≤◌, min, Bool, true, false, cond, ◌||◌, ◌==◌, List, [], ◌∷◌, ◌++◌, length, set, take, drop, replicate, slice_index, nat_le, nat_lt, ◌&&◌, Option, Some, None, refl, sym, ◌∙◌, subst, arith, length-set, mod-lt, lit<}
use Rattle.std.specs.Option.{IfSome}
use Rattle.std.specs.List.{AllByRecursion}
use Rattle.std.specs.Int.{w32, to_le_bytes, cast_unsigned}
use Rattle.std.specs.BTreeMap.{insert_entry}
use Rattle.std.specs.Ordering.{nat_cmp}
use Rattle.std.proofs.lemmas.Bool.{eqb-true}
use Rattle.rv_base.specs.declared.instr.Instr.{Instr}
use Rattle.rv_base.specs.declared.instr.Instr.TheVariants.{Lui, Auipc, Jal, Jalr, Branch, Load, Store, OpImm, Op as OpReg, Fence, Ecall, Ebreak}
use Rattle.rv_base.specs.declared.instr.AtomicOp.{AtomicOp}
use Rattle.rv_base.specs.declared.instr.AtomicOp.TheVariants as amo
use Rattle.rv_base.specs.declared.instr.LoadKind.TheVariants as loads
use Rattle.rv_base.specs.declared.instr.StoreKind.{StoreKind}
use Rattle.rv_spec.specs.Words.{Memory, Block, block_byte, byte, store_bytes, bytes_from, plus, AreBytes}
use Rattle.rv_spec.specs.Decode.{AnyInstr, rv32im, rv32a, decode_any}
use Rattle.rv_spec.specs.Arithmetic.{compute, taken, amo_result}
use Rattle.rv_spec.specs.Step.{State, Transition, Next, Ends, start, register, with_register, with_memory, advance, jump, exits, stops, load_width, store_width, load_value, store_value, store_word, within_word, return_in_a0, read_call, write_call, environment_call, execute, execute_atomic, atomic_at, load_reserved, store_conditional, fetch_and, execute_if, fetch_word, step}
use Rattle.rv_spec.specs.Elf.{Image}
use Rattle.rv_spec.specs.Run.{state_after, run}
use Rattle.rv_rules.specs.Agreement.{IsState, IsProgram, RunsAreStates}
use Rattle.rv_rules.proofs.Lemmas.{byte-one, take-bytes, drop-bytes}
use Rattle.rv_isa.proofs.WordRanges.{IsWord, index-below, register-fits}
use Rattle.rv_isa.proofs.ByteLists.{word-bytes}
use Rattle.rv_isa.proofs.Results.{compute-fits, load-fits}
use Rattle.rv_isa.proofs.Fields.{HasFields, HasAnyFields, any-decoded}

-- ---- lists of numbers below a bound

set-below : (n : ℕ) (xs : List ℕ) (k w : ℕ) → AllByRecursion (λ x. x < n) xs → w < n → AllByRecursion (λ x. x < n) (set xs k w)
set-below n [] k w h small = tt
set-below n (x ∷ xs) zero w h small = (small, h.1)
set-below n (x ∷ xs) (suc k) w h small = (h.0, set-below n xs k w h.1 small)

-- ---- parts of a state

pub register-stays : (s : State) (r w : ℕ) → IsState s → IsWord w → IsState (with_register r w s)
register-stays s r w is small = record {
  pc = is.pc;
  aligned = is.aligned;
  count = counted (r == 0);
  registers = kept (r == 0);
  reservation = is.reservation;
  bytes = is.bytes;
}
  where
    counted : (b : Bool) → length (cond b s.registers (set s.registers (r - 1) w)) ≡ 31
    counted true = is.count
    counted false = length-set s.registers (r - 1) w ∙ is.count

    kept : (b : Bool) → AllByRecursion IsWord (cond b s.registers (set s.registers (r - 1) w))
    kept true = is.registers
    kept false = set-below (2 ^ 32) s.registers (r - 1) w is.registers small

stored-bytes : (m : Memory) (a : ℕ) (bs : List ℕ) → AreBytes bs → ((x : ℕ) → byte m x < 2 ^ 8) → (x : ℕ) → byte (store_bytes m a bs) x < 2 ^ 8
unfolding store_bytes
stored-bytes m a [] h fits x = fits x
stored-bytes m a (b ∷ bs) h fits x =
    stored-bytes (record m { written = insert_entry nat_cmp m.written a b }) (a + 1) bs h.1
    (λ y. subst (λ n. n < 2 ^ 8) (sym (byte-one m a b y)) (one (y == a) (byte m y) (fits y))) x
  where
    one : (p : Bool) (n : ℕ) → n < 2 ^ 8 → cond p b n < 2 ^ 8
    one true n k = h.0
    one false n k = k

memory-stays : (s : State) (a : ℕ) (bs : List ℕ) → IsState s → AreBytes bs → IsState (record s { memory = store_bytes s.memory a bs })
memory-stays s a bs is h = record {
  pc = is.pc;
  aligned = is.aligned;
  count = is.count;
  registers = is.registers;
  reservation = is.reservation;
  bytes = stored-bytes s.memory a bs h is.bytes;
}

pub reservation-stays : (s : State) (r : ℕ) → IsState s → IsWord r → IsState (record s { reservation = r })
reservation-stays s r is h = record { pc = is.pc; aligned = is.aligned; count = is.count; registers = is.registers; reservation = h; bytes = is.bytes }

counter-stays : (s : State) (pc : ℕ) → IsState s → IsWord pc → pc % 4 ≡ 0 → IsState (record s { pc = pc })
counter-stays s pc is h aligned = record { pc = h; aligned = aligned; count = is.count; registers = is.registers; reservation = is.reservation; bytes = is.bytes }

-- position and output have no range of their own
streams-stay : (s : State) (position : ℕ) (output : List ℕ) → IsState s → IsState (record s { position = position; output = output })
streams-stay s position output is = record { pc = is.pc; aligned = is.aligned; count = is.count; registers = is.registers; reservation = is.reservation; bytes = is.bytes }

-- ---- turns

-- where the run goes on, it goes on in a state, at a position within the input
abbrev pub Stays : List ℕ → Transition → Type 0
Stays input (Next t) = IsState t × (t.position ≤ length input)
Stays input (Ends e) = Unit {0}

advance-stays : (input : List ℕ) (s : State) → IsState s → s.position ≤ length input → Stays input (advance s)
advance-stays input s is within = (counter-stays s ((s.pc + 4) % 2 ^ 32) is (mod-lt (s.pc + 4) (lit< tt)) (omega (arith, is.aligned)), within)

sets-stays : (input : List ℕ) (s : State) (rd w : ℕ) → IsState s → s.position ≤ length input → IsWord w → Stays input (advance (with_register rd w s))
sets-stays input s rd w is within small = advance-stays input (with_register rd w s) (register-stays s rd w is small) within

jump-stays : (input : List ℕ) (s : State) (target : ℕ) → IsState s → s.position ≤ length input → IsWord target → Stays input (jump target s)
jump-stays input s target is within small = go (target % 4 == 0) refl
  where
    go : (b : Bool) → (target % 4 == 0) ≡ b → Stays input (cond b (Next (record s { pc = target })) (stops 3))
    go true e = (counter-stays s target is small (eqb-true (target % 4) 0 e), within)
    go false e = tt

-- a turn, or a stop
if-stays : (input : List ℕ) (b : Bool) (t : Transition) (kind : ℕ) → (b ≡ true → Stays input t) → Stays input (cond b t (stops kind))
if-stays input true t kind h = h refl
if-stays input false t kind h = tt

either-stays : (input : List ℕ) (b : Bool) (t u : Transition) → Stays input t → Stays input u → Stays input (cond b t u)
either-stays input true t u p q = p
either-stays input false t u p q = q

plus-fits : (a : ℕ) (z : ℤ) → IsWord (plus a z)
plus-fits a z = mod-lt (a + cast_unsigned w32 z) (lit< tt)

store-stays : (s : State) (kind : StoreKind) (a v : ℕ) → IsState s → IsState (with_memory (store_value kind s.memory a v) s)
unfolding store_value
store-stays s kind a v is = memory-stays s a (take (store_width kind) (to_le_bytes w32 v)) is (take-bytes (store_width kind) (to_le_bytes w32 v) (word-bytes v))

next-fits : (s : State) → IsWord ((s.pc + 4) % 2 ^ 32)
next-fits s = mod-lt (s.pc + 4) (lit< tt)

-- ---- calls

read-stays : (input : List ℕ) (s : State) → IsState s → AreBytes input → s.position ≤ length input → Stays input (read_call input s)
read-stays input s is bytes within =
    let buffer : ℕ = register s 11 in
    let k : ℕ = min (length input - s.position) (within_word buffer (register s 12)) in
    let taken_bytes : List ℕ = take k (drop s.position input) in
    let filled : State = record s { memory = store_bytes s.memory buffer taken_bytes; position = s.position + k } in
    let stored : IsState (record s { memory = store_bytes s.memory buffer taken_bytes }) = memory-stays s buffer taken_bytes is (take-bytes k (drop s.position input) (drop-bytes s.position input bytes)) in
    let moved : IsState filled = streams-stay (record s { memory = store_bytes s.memory buffer taken_bytes }) (s.position + k) s.output stored in
    either-stays input (register s 10 == 0) (return_in_a0 k filled) (return_in_a0 0xFFFFFFF7 s) (sets-stays input filled 10 k moved (omega arith) (omega arith))
    (sets-stays input s 10 0xFFFFFFF7 is within (omega arith))

write-stays : (input : List ℕ) (s : State) → IsState s → s.position ≤ length input → Stays input (write_call s)
write-stays input s is within =
    let buffer : ℕ = register s 11 in
    let k : ℕ = within_word buffer (register s 12) in
    let put : State = record s { output = s.output ++ bytes_from s.memory buffer k } in
    let answered : Transition = cond (register s 10 == 2) (return_in_a0 (register s 12) s) (return_in_a0 0xFFFFFFF7 s) in
    either-stays input (register s 10 == 1) (return_in_a0 k put) answered (sets-stays input put 10 k (streams-stay s s.position (s.output ++ bytes_from s.memory buffer k) is) within (omega arith))
    (either-stays input (register s 10 == 2) (return_in_a0 (register s 12) s) (return_in_a0 0xFFFFFFF7 s) (sets-stays input s 10 (register s 12) is within (register-fits s 12 is))
    (sets-stays input s 10 0xFFFFFFF7 is within (omega arith)))

call-stays : (input : List ℕ) (s : State) → IsState s → AreBytes input → s.position ≤ length input → Stays input (environment_call input s)
unfolding environment_call
call-stays input s is bytes within = go (register s 17 == 93 || register s 17 == 94)
  where
    go : (b : Bool) → Stays input (cond b (exits (register s 10)) (cond (register s 17 == 63) (read_call input s) (cond (register s 17 == 64) (write_call s) (return_in_a0 0xFFFFFFDA s))))
    go true = tt
    go false =
        either-stays input (register s 17 == 63) (read_call input s) (cond (register s 17 == 64) (write_call s) (return_in_a0 0xFFFFFFDA s)) (read-stays input s is bytes within)
        (either-stays input (register s 17 == 64) (write_call s) (return_in_a0 0xFFFFFFDA s) (write-stays input s is within) (sets-stays input s 10 0xFFFFFFDA is within (omega arith)))

-- ---- instructions

instruction-stays : (input : List ℕ) (i : Instr) (s : State) → HasFields i → IsState s → AreBytes input → s.position ≤ length input → Stays input (execute input i s)
unfolding execute
instruction-stays input (Lui rd imm) s f is bytes within = sets-stays input s rd imm is within f.1
instruction-stays input (Auipc rd imm) s f is bytes within = sets-stays input s rd ((s.pc + imm) % 2 ^ 32) is within (mod-lt (s.pc + imm) (lit< tt))
instruction-stays input (Jal rd off) s f is bytes within =
    jump-stays input (with_register rd ((s.pc + 4) % 2 ^ 32) s) (plus s.pc off) (register-stays s rd ((s.pc + 4) % 2 ^ 32) is (next-fits s)) within (plus-fits s.pc off)
instruction-stays input (Jalr rd rs1 imm) s f is bytes within =
    let sum : ℕ = plus (register s rs1) imm in
    jump-stays input (with_register rd ((s.pc + 4) % 2 ^ 32) s) (sum - sum % 2) (register-stays s rd ((s.pc + 4) % 2 ^ 32) is (next-fits s)) within (omega (arith, plus-fits (register s rs1) imm))
instruction-stays input (Branch c rs1 rs2 off) s f is bytes within =
    either-stays input (taken c (register s rs1) (register s rs2)) (jump (plus s.pc off) s) (advance s) (jump-stays input s (plus s.pc off) is within (plus-fits s.pc off)) (advance-stays input s is within)
instruction-stays input (Load kind rd rs1 imm) s f is bytes within =
    let a : ℕ = plus (register s rs1) imm in
    if-stays input (a % load_width kind == 0) (advance (with_register rd (load_value kind s.memory a) s)) 4 (λ e. sets-stays input s rd (load_value kind s.memory a) is within (load-fits kind s.memory a is.bytes))
instruction-stays input (Store kind rs1 rs2 imm) s f is bytes within =
    let a : ℕ = plus (register s rs1) imm in
    let t : State = with_memory (store_value kind s.memory a (register s rs2)) s in
    if-stays input (a % store_width kind == 0) (advance t) 5 (λ e. advance-stays input t (store-stays s kind a (register s rs2) is) within)
instruction-stays input (OpImm o rd rs1 imm) s f is bytes within =
    sets-stays input s rd (compute o (register s rs1) (cast_unsigned w32 imm)) is within (compute-fits o (register s rs1) (cast_unsigned w32 imm) (register-fits s rs1 is) f.2)
instruction-stays input (OpReg o rd rs1 rs2) s f is bytes within =
    sets-stays input s rd (compute o (register s rs1) (register s rs2)) is within (compute-fits o (register s rs1) (register s rs2) (register-fits s rs1 is) (register-fits s rs2 is))
instruction-stays input (Fence rd rs1 imm) s f is bytes within = advance-stays input s is within
instruction-stays input Ecall s f is bytes within = call-stays input s is bytes within
instruction-stays input Ebreak s f is bytes within = tt

pub replaced-stays : (s : State) (a v : ℕ) → IsState s → IsState (with_memory (store_word s.memory a v) s)
replaced-stays s a v is = memory-stays s a (to_le_bytes w32 v) is (word-bytes v)

fetch-stays : (input : List ℕ) (op : AtomicOp) (s : State) (rd a v : ℕ) → IsState s → s.position ≤ length input → Stays input (fetch_and op rd a v s)
fetch-stays input op s rd a v is within =
    let old : ℕ = load_value loads.W s.memory a in
    let stored : State = with_memory (store_word s.memory a (amo_result op old v)) s in
    sets-stays input stored rd old (replaced-stays s a (amo_result op old v) is) within (load-fits loads.W s.memory a is.bytes)

conditional-stays : (input : List ℕ) (s : State) (rd a v : ℕ) → IsState s → s.position ≤ length input → Stays input (store_conditional rd a v s)
conditional-stays input s rd a v is within =
    let stored : State = with_register rd 0 (with_memory (store_word s.memory a v) s) in
    let kept : State = with_register rd 1 s in
    let t : State = record stored { reservation = 0 } in
    let u : State = record kept { reservation = 0 } in
    let stored_is : IsState stored = register-stays (with_memory (store_word s.memory a v) s) rd 0 (replaced-stays s a v is) (omega arith) in
    let kept_is : IsState kept = register-stays s rd 1 is (omega arith) in
    either-stays input (s.reservation == a + 1) (advance t) (advance u) (advance-stays input t (reservation-stays stored 0 stored_is (omega arith)) within)
    (advance-stays input u (reservation-stays kept 0 kept_is (omega arith)) within)

reserved-stays : (input : List ℕ) (s : State) (rd a : ℕ) → IsState s → s.position ≤ length input → IsWord a → a % 4 ≡ 0 → Stays input (load_reserved rd a s)
reserved-stays input s rd a is within small aligned =
    let loaded : State = with_register rd (load_value loads.W s.memory a) s in
    let t : State = record loaded { reservation = a + 1 } in
    advance-stays input t (reservation-stays loaded (a + 1) (register-stays s rd (load_value loads.W s.memory a) is (load-fits loads.W s.memory a is.bytes)) (omega arith)) within

atomic-stays : (input : List ℕ) (op : AtomicOp) (s : State) (rd a v : ℕ) → IsState s → s.position ≤ length input → IsWord a → Stays input (atomic_at op rd a v s)
atomic-stays input amo.Lr s rd a v is within small = if-stays input (a % 4 == 0) (load_reserved rd a s) 4 (λ e. reserved-stays input s rd a is within small (eqb-true (a % 4) 0 e))
atomic-stays input amo.Sc s rd a v is within small = if-stays input (a % 4 == 0) (store_conditional rd a v s) 5 (λ e. conditional-stays input s rd a v is within)
atomic-stays input op s rd a v is within small = if-stays input (a % 4 == 0) (fetch_and op rd a v s) 5 (λ e. fetch-stays input op s rd a v is within)

any-stays : (input : List ℕ) (o : Option AnyInstr) (s : State) → IfSome o HasAnyFields → IsState s → AreBytes input → s.position ≤ length input → Stays input (execute_if input o s)
unfolding execute_atomic
any-stays input None s f is bytes within = tt
any-stays input (Some (rv32im i)) s f is bytes within = instruction-stays input i s f is bytes within
any-stays input (Some (rv32a i)) s f is bytes within = atomic-stays input i.op s i.rd (register s i.rs1) (register s i.rs2) is within (register-fits s i.rs1 is)

pub step-stays : (input : List ℕ) (s : State) → IsState s → AreBytes input → s.position ≤ length input → Stays input (step input s)
unfolding step
step-stays input s is bytes within = any-stays input (decode_any s.version (fetch_word s)) s (any-decoded s.version (fetch_word s)) is bytes within

-- ---- runs

zeros-fit : (n : ℕ) → AllByRecursion IsWord (replicate n 0)
zeros-fit zero = tt
zeros-fit (suc n) = (omega arith, zeros-fit n)

block-bytes : (bs : List Block) (a : ℕ) → AllByRecursion (λ b. AreBytes b.bytes) bs → block_byte bs a < 2 ^ 8
unfolding block_byte
block-bytes [] a h = omega arith
block-bytes (b ∷ bs) a h = go (nat_le b.address a && nat_lt a (b.address + length b.bytes)) (block-bytes bs a h.1)
  where
    go : (inside : Bool) → block_byte bs a < 2 ^ 8 → cond inside (slice_index b.bytes (a - b.address)) (block_byte bs a) < 2 ^ 8
    go true later = index-below (2 ^ 8) b.bytes (a - b.address) (omega arith) h.0
    go false later = later

pub start-is : (i : Image) → IsProgram i → IsState (start i)
unfolding byte
start-is i program = record {
  pc = program.entry;
  aligned = program.aligned;
  count = refl;
  registers = (omega arith, (omega arith, zeros-fit 29));
  reservation = omega arith;
  bytes = λ a. block-bytes i.blocks a program.bytes;
}

next-is : (input : List ℕ) (s : State) (turn : Transition) → IsState s → s.position ≤ length input → Stays input turn → IsState (state_after s turn) × ((state_after s turn).position ≤ length input)
next-is input s (Next t) is within h = h
next-is input s (Ends e) is within h = (is, within)

pub runs-are-states : (i : Image) (input : List ℕ) → RunsAreStates i input
unfolding run
runs-are-states i input program bytes zero = (start-is i program, omega arith)
runs-are-states i input program bytes (suc n) =
    let before = runs-are-states i input program bytes n in
    next-is input (run i input n) (step input (run i input n)) before.0 before.1 (step-stays input (run i input n) before.0 bytes before.1)
