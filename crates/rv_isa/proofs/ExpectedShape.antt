-- The accesses of an expected step, whatever its old values are: their slots rise from 1 to 8; slots 1 to 5 leave what they find; slot 6 is a word of memory, slot 7 a register and slot 8 the reservation.
use Rattle.std.proofs.Common.{◌≡◌, ℕ, ◌+◌, ◌-◌, ◌/◌, ◌%◌, ◌^◌, ◌<◌, ◌≤◌, min, Bool, true, false, cond, ◌||◌, ◌==◌, List, [], ◌∷◌, ◌++◌, length, take, drop, Option, Some, None, refl, arith}
use Rattle.std.specs.Option.{IfSome}
use Rattle.std.specs.Int.{w32, to_le_bytes, cast_unsigned}
use Rattle.std.proofs.lemmas.Bool.{eqb-false}
use Rattle.rv_base.specs.declared.record.Seen.{Seen}
use Rattle.rv_base.specs.declared.record.Touch.{Touch}
use Rattle.rv_base.specs.declared.instr.Instr.{Instr}
use Rattle.rv_base.specs.declared.instr.Instr.TheVariants.{Lui, Auipc, Jal, Jalr, Branch, Load, Store, OpImm, Op, Fence, Ecall, Ebreak}
use Rattle.rv_base.specs.declared.instr.AtomicOp.{AtomicOp}
use Rattle.rv_base.specs.declared.instr.AtomicOp.TheVariants as amo
use Rattle.rv_base.specs.declared.instr.Atomic.{Atomic}
use Rattle.rv_spec.specs.Words.{plus}
use Rattle.rv_spec.specs.Arithmetic.{compute, taken, amo_result}
use Rattle.rv_spec.specs.Decode.{AnyInstr, rv32im, rv32a, decode_any}
use Rattle.rv_spec.specs.Step.{load_width, store_width, within_word}
use Rattle.rv_spec.specs.Cells.{register_cell, reservation_cell}
use Rattle.rv_rules.specs.Expected.{touch, on_register, on_buffer, splice, merge, extract, operand, reads_one, reads_two, goes_to, ends, pc_plus_4, jumps, argument_touches, expected_return, expected_read, expected_write, expected_call, expected_instr, atomic_writes, misaligned_kind, expected_atomic, expected_any, expected}
use Rattle.rv_isa.specs.Sees.{seen_in}
use Rattle.rv_isa.specs.Shape.{AreShaped}
use Rattle.rv_isa.proofs.WordRanges.{either-fits, sum-fits}
use Rattle.rv_isa.proofs.Fields.{HasFields, HasAnyFields, any-decoded}

module _ (v : Seen) where
  from-lower : (lo mid hi : ℕ) (ts : List Touch) → lo ≤ mid → AreShaped v mid hi ts → AreShaped v lo hi ts
  from-lower lo mid hi [] h r = omega arith
  from-lower lo mid hi (t ∷ ts) h r = (omega (arith, r.0), r.1, r.2)

  joined : (lo mid hi : ℕ) (ts rs : List Touch) → AreShaped v lo mid ts → AreShaped v mid hi rs → AreShaped v lo hi (ts ++ rs)
  joined lo mid hi [] rs h r = from-lower lo mid hi rs h r
  joined lo mid hi (t ∷ ts) rs h r = (h.0, h.1, joined (t.slot + 1) mid hi ts rs h.2 r)

  chosen : (lo hi : ℕ) (b : Bool) (ts rs : List Touch) → AreShaped v lo hi ts → AreShaped v lo hi rs → AreShaped v lo hi (cond b ts rs)
  chosen lo hi true ts rs p q = p
  chosen lo hi false ts rs p q = q

  abbrev Within : ℕ → ℕ → ℕ → Type 0
  Within lo j hi = (lo ≤ j) × (j < hi)

  read : (lo hi j cell : ℕ) → Within lo j hi → j ≤ 5 → AreShaped v lo hi (touch j cell (seen_in v j))
  read lo hi j cell h low = (
    h.0,
    record { keeps = λ k. refl; word = λ e. absurd (omega arith); register = λ e. absurd (omega arith); reservation = λ e. absurd (omega arith) },
    omega (arith, h.1),
  )

  read-register : (lo hi j r : ℕ) → Within lo j hi → j ≤ 5 → AreShaped v lo hi (on_register j r (seen_in v j))
  read-register lo hi j r h low = chosen lo hi (r == 0) [] (touch j (register_cell r) (seen_in v j)) (omega (arith, h.0, h.1)) (read lo hi j (register_cell r) h low)

  of-two : (q r : ℕ) → AreShaped v 2 6 (reads_two q r v)
  of-two q r = joined 2 3 6 (on_register 2 q v.s2) (on_register 3 r v.s3) (read-register 2 3 2 q (omega arith, omega arith) (omega arith)) (read-register 3 6 3 r (omega arith, omega arith) (omega arith))

  of-word : (lo hi a new : ℕ) → lo ≤ 6 → 6 < hi → a < 2 ^ 32 → AreShaped v lo hi (touch 6 (a / 4) new)
  of-word lo hi a new h k small = (
    h,
    record { keeps = λ e. absurd (omega arith); word = λ e. omega arith; register = λ e. absurd (omega arith); reservation = λ e. absurd (omega arith) },
    omega arith,
  )

  written : (lo hi rd w : ℕ) → lo ≤ 7 → 7 < hi → rd < 32 → AreShaped v lo hi (on_register 7 rd w)
  written lo hi rd w h k small = go (rd == 0) refl
    where
      go : (b : Bool) → (rd == 0) ≡ b → AreShaped v lo hi (cond b [] (touch 7 (register_cell rd) w))
      go true e = omega arith
      go false e =
          let some : ¬ (rd ≡ 0) = eqb-false rd 0 e in (
            h,
            record { keeps = λ e. absurd (omega arith); word = λ e. absurd (omega arith); register = λ e. (omega arith, omega arith); reservation = λ e. absurd (omega arith) },
            omega arith,
          )

  reserved : (lo new : ℕ) → lo ≤ 8 → AreShaped v lo 9 (touch 8 reservation_cell new)
  reserved lo new h = (
    h,
    record { keeps = λ e. absurd (omega arith); word = λ e. absurd (omega arith); register = λ e. absurd (omega arith); reservation = λ e. refl },
    omega arith,
  )

  -- a step that reads, and goes on where a number is 0
  aligned : (lo mid n next pc kind : ℕ) (reads writes : List Touch) → mid ≤ 9 → AreShaped v lo mid reads → AreShaped v mid 9 writes
      → AreShaped v lo 9 (cond (n == 0) (goes_to next (reads ++ writes)) (ends pc kind 0 reads)).touches
  aligned lo mid n next pc kind reads writes h p q = go (n == 0)
    where
      upper : (ts : List Touch) (lo : ℕ) → AreShaped v lo mid ts → AreShaped v lo 9 ts
      upper [] lo r = omega (arith, r, h)
      upper (t ∷ ts) lo r = (r.0, r.1, upper ts (t.slot + 1) r.2)

      go : (b : Bool) → AreShaped v lo 9 (cond b (goes_to next (reads ++ writes)) (ends pc kind 0 reads)).touches
      go true = joined lo mid 9 reads writes p q
      go false = upper reads lo p

  moved : (lo hi a rd new w : ℕ) → lo ≤ 6 → 7 < hi → a < 2 ^ 32 → rd < 32 → AreShaped v lo hi (touch 6 (a / 4) new ++ on_register 7 rd w)
  moved lo hi a rd new w h k small r = joined lo 7 hi (touch 6 (a / 4) new) (on_register 7 rd w) (of-word lo 7 a new h (omega arith) small) (written 7 hi rd w (omega arith) k r)

  -- ---- calls

  abbrev Fits : Type 0
  Fits = (v.s2 < 2 ^ 32) × (v.s4 < 2 ^ 32)

  arguments : AreShaped v 2 6 (argument_touches v)
  arguments = joined 2 5 6 (on_register 2 17 v.s2 ++ on_register 3 10 v.s3 ++ on_register 4 11 v.s4) (on_register 5 12 v.s5)
      (joined 2 4 5 (on_register 2 17 v.s2 ++ on_register 3 10 v.s3) (on_register 4 11 v.s4)
      (joined 2 3 4 (on_register 2 17 v.s2) (on_register 3 10 v.s3) (read-register 2 3 2 17 (omega arith, omega arith) (omega arith)) (read-register 3 4 3 10 (omega arith, omega arith) (omega arith)))
      (read-register 4 5 4 11 (omega arith, omega arith) (omega arith))) (read-register 5 6 5 12 (omega arith, omega arith) (omega arith))

  with-buffer : (buffer k new w : ℕ) → buffer < 2 ^ 32 → AreShaped v 2 9 (argument_touches v ++ on_buffer buffer k new ++ on_register 7 10 w)
  with-buffer buffer k new w small =
      joined 2 7 9 (argument_touches v ++ on_buffer buffer k new) (on_register 7 10 w)
      (joined 2 6 7 (argument_touches v) (on_buffer buffer k new) arguments (chosen 6 7 (k == 0) [] (touch 6 (buffer / 4) new) (omega arith) (of-word 6 7 buffer new (omega arith) (omega arith) small)))
      (written 7 9 10 w (omega arith) (omega arith) (omega arith))

  only-answers : (w : ℕ) → AreShaped v 2 9 (argument_touches v ++ on_register 7 10 w)
  only-answers w = joined 2 6 9 (argument_touches v) (on_register 7 10 w) arguments (written 6 9 10 w (omega arith) (omega arith) (omega arith))

  read-cases : (input : List ℕ) (at pc : ℕ) (b : Bool) → v.s4 < 2 ^ 32 →
      let k = min (length input - at) (within_word v.s4 v.s5) in
      let filled = on_buffer v.s4 k (splice v.s6 (v.s4 % 4) (take k (drop at input))) in
      AreShaped v 2 9 (cond b (record (expected_return pc (argument_touches v ++ filled) k) { took = k }) (expected_return pc (argument_touches v) 0xFFFFFFF7)).touches
  read-cases input at pc true small =
      let k : ℕ = min (length input - at) (within_word v.s4 v.s5) in
      with-buffer v.s4 k (splice v.s6 (v.s4 % 4) (take k (drop at input))) k small
  read-cases input at pc false small = only-answers 0xFFFFFFF7

  read-shaped : (input : List ℕ) (at pc : ℕ) → Fits → AreShaped v 2 9 (expected_read input at pc v).touches
  read-shaped input at pc f = read-cases input at pc (v.s3 == 0) f.1

  write-shaped : (pc : ℕ) → Fits → AreShaped v 2 9 (expected_write pc v).touches
  write-shaped pc f = go (v.s3 == 1) (v.s3 == 2)
    where
      go : (a b : Bool) → let k = within_word v.s4 v.s5 in let bytes = take k (drop (v.s4 % 4) (to_le_bytes w32 v.s6)) in
          AreShaped v 2 9 (cond a (record (expected_return pc (argument_touches v ++ on_buffer v.s4 k v.s6) k) { put = bytes }) (cond b (expected_return pc (argument_touches v) v.s5) (expected_return pc (argument_touches v) 0xFFFFFFF7))).touches
      go true b = with-buffer v.s4 (within_word v.s4 v.s5) v.s6 (within_word v.s4 v.s5) f.1
      go false true = only-answers v.s5
      go false false = only-answers 0xFFFFFFF7

  call-shaped : (input : List ℕ) (at pc : ℕ) → Fits → AreShaped v 2 9 (expected_call input at pc v).touches
  unfolding expected_call
  call-shaped input at pc f = go (v.s2 == 93 || v.s2 == 94) (v.s2 == 63) (v.s2 == 64)
    where
      go : (a b c : Bool) → AreShaped v 2 9 (cond a (ends pc 0 v.s3 (on_register 2 17 v.s2 ++ on_register 3 10 v.s3)) (cond b (expected_read input at pc v) (cond c (expected_write pc v) (expected_return pc (on_register 2 17 v.s2) 0xFFFFFFDA)))).touches
      go true b c = joined 2 3 9 (on_register 2 17 v.s2) (on_register 3 10 v.s3) (read-register 2 3 2 17 (omega arith, omega arith) (omega arith)) (read-register 3 9 3 10 (omega arith, omega arith) (omega arith))
      go false true c = read-shaped input at pc f
      go false false true = write-shaped pc f
      go false false false = joined 2 3 9 (on_register 2 17 v.s2) (on_register 7 10 0xFFFFFFDA) (read-register 2 3 2 17 (omega arith, omega arith) (omega arith)) (written 3 9 10 0xFFFFFFDA (omega arith) (omega arith) (omega arith))

  -- ---- instructions

  reads-and : (rs1 lo w rd : ℕ) → rd < 32 → AreShaped v 2 9 (reads_one rs1 v ++ on_register 7 rd w)
  reads-and rs1 lo w rd small = joined 2 3 9 (reads_one rs1 v) (on_register 7 rd w) (read-register 2 3 2 rs1 (omega arith, omega arith) (omega arith)) (written 3 9 rd w (omega arith) (omega arith) small)

  instruction-shaped : (input : List ℕ) (at pc : ℕ) (i : Instr) → HasFields i → Fits → AreShaped v 2 9 (expected_instr input at pc i v).touches
  unfolding expected_instr
  instruction-shaped input at pc (Lui rd imm) f fits = written 2 9 rd imm (omega arith) (omega arith) f.0
  instruction-shaped input at pc (Auipc rd imm) f fits = written 2 9 rd ((pc + imm) % 2 ^ 32) (omega arith) (omega arith) f
  instruction-shaped input at pc (Jal rd off) f fits = aligned 2 2 (plus pc off % 4) (plus pc off) pc 3 [] (on_register 7 rd (pc_plus_4 pc)) (omega arith) (omega arith) (written 2 9 rd (pc_plus_4 pc) (omega arith) (omega arith) f)
  instruction-shaped input at pc (Jalr rd rs1 imm) f fits =
      let sum : ℕ = plus (operand rs1 v.s2) imm in
      let a : ℕ = sum - sum % 2 in
      aligned 2 3 (a % 4) a pc 3 (reads_one rs1 v) (on_register 7 rd (pc_plus_4 pc)) (omega arith) (read-register 2 3 2 rs1 (omega arith, omega arith) (omega arith)) (written 3 9 rd (pc_plus_4 pc) (omega arith) (omega arith) f.0)
  instruction-shaped input at pc (Branch c rs1 rs2 off) f fits = go (taken c (operand rs1 v.s2) (operand rs2 v.s3))
    where
      reads : List Touch
      reads = reads_two rs1 rs2 v

      upper : AreShaped v 2 9 (reads_two rs1 rs2 v)
      upper = joined 2 3 9 (on_register 2 rs1 v.s2) (on_register 3 rs2 v.s3) (read-register 2 3 2 rs1 (omega arith, omega arith) (omega arith)) (read-register 3 9 3 rs2 (omega arith, omega arith) (omega arith))

      go : (b : Bool) → AreShaped v 2 9 (cond b (jumps pc (plus pc off) (reads_two rs1 rs2 v) []) (goes_to (pc_plus_4 pc) (reads_two rs1 rs2 v))).touches
      go true = aligned 2 9 (plus pc off % 4) (plus pc off) pc 3 (reads_two rs1 rs2 v) [] (omega arith) upper (omega arith)
      go false = upper
  instruction-shaped input at pc (Load kind rd rs1 imm) f fits =
      let a : ℕ = plus (operand rs1 v.s2) imm in
      aligned 2 3 (a % load_width kind) (pc_plus_4 pc) pc 4 (reads_one rs1 v) (touch 6 (a / 4) v.s6 ++ on_register 7 rd (extract kind v.s6 (a % 4))) (omega arith)
      (read-register 2 3 2 rs1 (omega arith, omega arith) (omega arith))
      (moved 3 9 a rd v.s6 (extract kind v.s6 (a % 4)) (omega arith) (omega arith) (sum-fits (operand rs1 v.s2) imm) f.0)
  instruction-shaped input at pc (Store kind rs1 rs2 imm) f fits =
      let a : ℕ = plus (operand rs1 v.s2) imm in
      aligned 2 6 (a % store_width kind) (pc_plus_4 pc) pc 5 (reads_two rs1 rs2 v) (touch 6 (a / 4) (merge kind v.s6 (a % 4) (operand rs2 v.s3))) (omega arith)
      (of-two rs1 rs2) (of-word 6 9 a (merge kind v.s6 (a % 4) (operand rs2 v.s3)) (omega arith) (omega arith) (sum-fits (operand rs1 v.s2) imm))
  instruction-shaped input at pc (OpImm o rd rs1 imm) f fits = reads-and rs1 2 (compute o (operand rs1 v.s2) (cast_unsigned w32 imm)) rd f.0
  instruction-shaped input at pc (Op o rd rs1 rs2) f fits =
      let w : ℕ = compute o (operand rs1 v.s2) (operand rs2 v.s3) in
      joined 2 6 9 (reads_two rs1 rs2 v) (on_register 7 rd w) (of-two rs1 rs2) (written 6 9 rd w (omega arith) (omega arith) f.0)
  instruction-shaped input at pc (Fence rd rs1 imm) f fits = omega arith
  instruction-shaped input at pc Ecall f fits = call-shaped input at pc fits
  instruction-shaped input at pc Ebreak f fits = omega arith

  -- ---- atomic instructions

  writes-shaped : (op : AtomicOp) (rd a b : ℕ) → rd < 32 → a < 2 ^ 32 → AreShaped v 6 9 (atomic_writes op rd a b v)
  writes-shaped amo.Lr rd a b small fits =
      joined 6 8 9 (touch 6 (a / 4) v.s6 ++ on_register 7 rd v.s6) (touch 8 reservation_cell (a + 1)) (moved 6 8 a rd v.s6 v.s6 (omega arith) (omega arith) fits small) (reserved 8 (a + 1) (omega arith))
  writes-shaped amo.Sc rd a b small fits =
      let first : List Touch = cond (v.s8 == a + 1) (touch 6 (a / 4) b) [] in
      let w : ℕ = cond (v.s8 == a + 1) 0 1 in
      joined 6 8 9 (first ++ on_register 7 rd w) (touch 8 reservation_cell 0)
      (joined 6 7 8 first (on_register 7 rd w) (chosen 6 7 (v.s8 == a + 1) (touch 6 (a / 4) b) [] (of-word 6 7 a b (omega arith) (omega arith) fits) (omega arith)) (written 7 8 rd w (omega arith) (omega arith) small))
      (reserved 8 0 (omega arith))
  writes-shaped op rd a b small fits = moved 6 9 a rd (amo_result op v.s6 b) v.s6 (omega arith) (omega arith) fits small

  atomic-shaped : (pc : ℕ) (i : Atomic) → i.rd < 32 → Fits → AreShaped v 2 9 (expected_atomic pc i v).touches
  unfolding expected_atomic
  atomic-shaped pc i small fits =
      let a : ℕ = operand i.rs1 v.s2 in
      let b : ℕ = operand i.rs2 v.s3 in
      aligned 2 6 (a % 4) (pc_plus_4 pc) pc (misaligned_kind i.op) (reads_two i.rs1 i.rs2 v) (atomic_writes i.op i.rd a b v) (omega arith) (of-two i.rs1 i.rs2) (writes-shaped i.op i.rd a b small (either-fits (i.rs1 == 0) 0 v.s2 (omega arith) fits.0))

  any-shaped : (input : List ℕ) (at pc : ℕ) (o : Option AnyInstr) → IfSome o HasAnyFields → Fits → AreShaped v 2 9 (expected_any input at pc o v).touches
  any-shaped input at pc None f fits = omega arith
  any-shaped input at pc (Some (rv32im i)) f fits = instruction-shaped input at pc i f fits
  any-shaped input at pc (Some (rv32a i)) f fits = atomic-shaped pc i f.0 fits

  -- the fetch in slot 1, and the instruction's accesses from slot 2 on
  pub expected-shaped : (version pc : ℕ) (input : List ℕ) (at : ℕ) → v.s2 < 2 ^ 32 → v.s4 < 2 ^ 32 → AreShaped v 1 9 (expected version pc v input at).touches
  unfolding expected
  expected-shaped version pc input at two four =
      joined 1 2 9 (touch 1 (pc / 4) v.s1) (expected_any input at pc (decode_any version v.s1) v).touches (read 1 2 1 (pc / 4) (omega arith, omega arith) (omega arith))
      (any-shaped input at pc (decode_any version v.s1) (any-decoded version v.s1) (two, four))
