-- Where an expected step leads, whatever the old values are: to the address of an instruction, and to a position within the input.
use Rattle.std.proofs.Common.{◌≡◌, ℕ, ◌+◌, ◌-◌, ◌%◌, ◌≤◌, min, Bool, true, false, cond, ◌||◌, ◌==◌, List, [], ◌++◌, length, take, drop, Option, Some, None, refl, arith}
use Rattle.std.specs.Int.{w32, to_le_bytes}
use Rattle.std.proofs.lemmas.Bool.{eqb-true}
use Rattle.rv_base.specs.declared.record.Seen.{Seen}
use Rattle.rv_base.specs.declared.record.Touch.{Touch}
use Rattle.rv_base.specs.declared.instr.Instr.{Instr}
use Rattle.rv_base.specs.declared.instr.Instr.TheVariants.{Lui, Auipc, Jal, Jalr, Branch, Load, Store, OpImm, Op, Fence, Ecall, Ebreak}
use Rattle.rv_base.specs.declared.instr.Atomic.{Atomic}
use Rattle.rv_spec.specs.Words.{plus}
use Rattle.rv_spec.specs.Arithmetic.{taken}
use Rattle.rv_spec.specs.Decode.{AnyInstr, rv32im, rv32a, decode_any}
use Rattle.rv_spec.specs.Step.{load_width, store_width, within_word}
use Rattle.rv_rules.specs.Expected.{Expected, on_register, on_buffer, splice, operand, reads_one, reads_two, goes_to, ends, pc_plus_4, jumps, moves, argument_touches, expected_return, expected_read, expected_write, expected_call, expected_instr, atomic_writes, misaligned_kind, expected_atomic, expected_any, expected}

module _ (pc : ℕ) (is_aligned : pc % 4 ≡ 0) (input : List ℕ) (at : ℕ) (is-within : at ≤ length input) where
  -- the next instruction has an address, and no byte is taken past the input's end
  pub record Leads (e : Expected) : Type 0 where
    pub aligned : e.next % 4 ≡ 0
    pub within : at + e.took ≤ length input

  either : (b : Bool) (e f : Expected) → Leads e → Leads f → Leads (cond b e f)
  either true e f p q = p
  either false e f p q = q

  goes : (ts : List Touch) → Leads (goes_to (pc_plus_4 pc) ts)
  goes ts = record { aligned = omega arith; within = omega arith }

  stays : (kind code : ℕ) (ts : List Touch) → Leads (ends pc kind code ts)
  stays kind code ts = record { aligned = is_aligned; within = omega arith }

  jumped : (target : ℕ) (reads writes : List Touch) → Leads (jumps pc target reads writes)
  jumped target reads writes = go (target % 4 == 0) refl
    where
      go : (b : Bool) → (target % 4 == 0) ≡ b → Leads (cond b (goes_to target (reads ++ writes)) (ends pc 3 0 reads))
      go true e = record { aligned = eqb-true (target % 4) 0 e; within = omega arith }
      go false e = stays 3 0 reads

  moved : (width a kind : ℕ) (reads writes : List Touch) → Leads (moves pc width a kind reads writes)
  moved width a kind reads writes = either (a % width == 0) (goes_to (pc_plus_4 pc) (reads ++ writes)) (ends pc kind 0 reads) (goes (reads ++ writes)) (stays kind 0 reads)

  read-leads : (v : Seen) → Leads (expected_read input at pc v)
  read-leads v = go (v.s3 == 0)
    where
      go : (b : Bool) →
          let k = min (length input - at) (within_word v.s4 v.s5) in
          let filled = on_buffer v.s4 k (splice v.s6 (v.s4 % 4) (take k (drop at input))) in
          Leads (cond b (record (expected_return pc (argument_touches v ++ filled) k) { took = k }) (expected_return pc (argument_touches v) 0xFFFFFFF7))
      go true = record { aligned = omega arith; within = omega arith }
      go false = goes (argument_touches v ++ on_register 7 10 0xFFFFFFF7)

  write-leads : (v : Seen) → Leads (expected_write pc v)
  write-leads v = go (v.s3 == 1) (v.s3 == 2)
    where
      go : (a b : Bool) → let k = within_word v.s4 v.s5 in let bytes = take k (drop (v.s4 % 4) (to_le_bytes w32 v.s6)) in
          Leads (cond a (record (expected_return pc (argument_touches v ++ on_buffer v.s4 k v.s6) k) { put = bytes }) (cond b (expected_return pc (argument_touches v) v.s5) (expected_return pc (argument_touches v) 0xFFFFFFF7)))
      go true b = record { aligned = omega arith; within = omega arith }
      go false true = goes (argument_touches v ++ on_register 7 10 v.s5)
      go false false = goes (argument_touches v ++ on_register 7 10 0xFFFFFFF7)

  call-leads : (v : Seen) → Leads (expected_call input at pc v)
  unfolding expected_call
  call-leads v = go (v.s2 == 93 || v.s2 == 94) (v.s2 == 63) (v.s2 == 64)
    where
      go : (a b c : Bool) → Leads (cond a (ends pc 0 v.s3 (on_register 2 17 v.s2 ++ on_register 3 10 v.s3)) (cond b (expected_read input at pc v) (cond c (expected_write pc v) (expected_return pc (on_register 2 17 v.s2) 0xFFFFFFDA))))
      go true b c = stays 0 v.s3 (on_register 2 17 v.s2 ++ on_register 3 10 v.s3)
      go false true c = read-leads v
      go false false true = write-leads v
      go false false false = goes (on_register 2 17 v.s2 ++ on_register 7 10 0xFFFFFFDA)

  instruction-leads : (i : Instr) (v : Seen) → Leads (expected_instr input at pc i v)
  unfolding expected_instr
  instruction-leads (Lui rd imm) v = record { aligned = omega arith; within = omega arith }
  instruction-leads (Auipc rd imm) v = record { aligned = omega arith; within = omega arith }
  instruction-leads (Jal rd off) v = jumped (plus pc off) [] (on_register 7 rd (pc_plus_4 pc))
  instruction-leads (Jalr rd rs1 imm) v = let sum : ℕ = plus (operand rs1 v.s2) imm in jumped (sum - sum % 2) (reads_one rs1 v) (on_register 7 rd (pc_plus_4 pc))
  instruction-leads (Branch c rs1 rs2 off) v =
      either (taken c (operand rs1 v.s2) (operand rs2 v.s3)) (jumps pc (plus pc off) (reads_two rs1 rs2 v) []) (goes_to (pc_plus_4 pc) (reads_two rs1 rs2 v)) (jumped (plus pc off) (reads_two rs1 rs2 v) []) (goes (reads_two rs1 rs2 v))
  instruction-leads (Load kind rd rs1 imm) v = moved (load_width kind) (plus (operand rs1 v.s2) imm) 4 (reads_one rs1 v) _
  instruction-leads (Store kind rs1 rs2 imm) v = moved (store_width kind) (plus (operand rs1 v.s2) imm) 5 (reads_two rs1 rs2 v) _
  instruction-leads (OpImm o rd rs1 imm) v = record { aligned = omega arith; within = omega arith }
  instruction-leads (Op o rd rs1 rs2) v = record { aligned = omega arith; within = omega arith }
  instruction-leads (Fence rd rs1 imm) v = goes []
  instruction-leads Ecall v = call-leads v
  instruction-leads Ebreak v = stays 2 0 []

  atomic-leads : (i : Atomic) (v : Seen) → Leads (expected_atomic pc i v)
  unfolding expected_atomic
  atomic-leads i v = moved 4 (operand i.rs1 v.s2) (misaligned_kind i.op) (reads_two i.rs1 i.rs2 v) (atomic_writes i.op i.rd (operand i.rs1 v.s2) (operand i.rs2 v.s3) v)

  any-leads : (o : Option AnyInstr) (v : Seen) → Leads (expected_any input at pc o v)
  any-leads None v = stays 1 0 []
  any-leads (Some (rv32im i)) v = instruction-leads i v
  any-leads (Some (rv32a i)) v = atomic-leads i v

  pub expected-leads : (version : ℕ) (v : Seen) → Leads (expected version pc v input at)
  unfolding expected
  expected-leads version v = let h = any-leads (decode_any version v.s1) v in record { aligned = h.aligned; within = h.within }
