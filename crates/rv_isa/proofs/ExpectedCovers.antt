-- Where old values are the state's in the slots of the expected accesses, they are so in all slots that the step uses: what an instruction uses hangs on old values alone that it reads before.
use Rattle.std.proofs.Common.{◌≡◌, ℕ, ◌+◌, ◌-◌, ◌/◌, ◌%◌, ◌^◌, ◌<◌, min, Bool, true, false, cond, ◌||◌, ◌==◌, List, [], ◌∷◌, ◌++◌, length, take, drop, Option, Some, None, ◌∙◌, subst, arith}
use Rattle.std.specs.Option.{IfSome}
use Rattle.std.specs.Int.{w32, to_le_bytes, cast_unsigned}
use Rattle.rv_base.specs.declared.record.Seen.{Seen}
use Rattle.rv_base.specs.declared.record.Touch.{Touch}
use Rattle.rv_base.specs.declared.instr.Instr.{Instr}
use Rattle.rv_base.specs.declared.instr.Instr.TheVariants.{Lui, Auipc, Jal, Jalr, Branch, Load, Store, OpImm, Op, Fence, Ecall, Ebreak}
use Rattle.rv_base.specs.declared.instr.AtomicOp.{AtomicOp}
use Rattle.rv_base.specs.declared.instr.AtomicOp.TheVariants as amo
use Rattle.rv_base.specs.declared.instr.Atomic.{Atomic}
use Rattle.rv_spec.specs.Words.{plus}
use Rattle.rv_spec.specs.Arithmetic.{compute, taken, amo_result}
use Rattle.rv_spec.specs.Decode.{AnyInstr, rv32im, rv32a, decode_any}
use Rattle.rv_spec.specs.Step.{State, register, load_width, store_width, within_word, fetch_word}
use Rattle.rv_spec.specs.Cells.{register_cell, reservation_cell, value}
use Rattle.rv_spec.specs.Visits.{Use, use_of, use_register, use_buffer, argument_uses, call_uses, uses, aligned_atomic_uses, atomic_uses, instruction_uses, step_uses}
use Rattle.rv_rules.specs.Expected.{Expected, touch, on_register, on_buffer, splice, merge, extract, operand, reads_one, reads_two, goes_to, ends, pc_plus_4, jumps, moves, argument_touches, expected_return, expected_read, expected_write, expected_call, expected_instr, atomic_writes, misaligned_kind, expected_atomic, expected_any, expected}
use Rattle.rv_rules.specs.Agreement.{IsState}
use Rattle.rv_rules.proofs.Lemmas.{word-aligned}
use Rattle.rv_isa.proofs.Agreement.{expected-follows}
use Rattle.rv_isa.specs.Sees.{Sees}
use Rattle.rv_isa.specs.Follows.{SeesTouches, SeenStepsFollow}
use Rattle.rv_isa.proofs.Registers.{value-register, operand-is}
use Rattle.rv_isa.proofs.Loads.{value-word}
use Rattle.rv_isa.proofs.Fields.{HasFields, HasAnyFields, any-decoded}

module _ (v : Seen) (s : State) where
  seen-left : (ts rs : List Touch) → SeesTouches v s (ts ++ rs) → SeesTouches v s ts
  seen-left [] rs h = tt
  seen-left (t ∷ ts) rs h = (h.0, seen-left ts rs h.1)

  seen-right : (ts rs : List Touch) → SeesTouches v s (ts ++ rs) → SeesTouches v s rs
  seen-right [] rs h = h
  seen-right (t ∷ ts) rs h = seen-right ts rs h.1

  sees-join : (us vs : List Use) → Sees v s us → Sees v s vs → Sees v s (us ++ vs)
  sees-join [] vs h k = k
  sees-join (u ∷ us) vs h k = (h.0, sees-join us vs h.1 k)

  -- what is shown of these accesses is seen of these uses
  abbrev Covers : List Touch → List Use → Type 0
  Covers ts us = SeesTouches v s ts → Sees v s us

  covers-none : Covers [] []
  covers-none h = tt

  covers-join : (ts rs : List Touch) (us vs : List Use) → Covers ts us → Covers rs vs → Covers (ts ++ rs) (us ++ vs)
  covers-join ts rs us vs p q h = sees-join us vs (p (seen-left ts rs h)) (q (seen-right ts rs h))

  covers-one : (j cell new : ℕ) → Covers (touch j cell new) (use_of j cell)
  covers-one j cell new h = h

  covers-cond : (b : Bool) (ts rs : List Touch) (us vs : List Use) → Covers ts us → Covers rs vs → Covers (cond b ts rs) (cond b us vs)
  covers-cond true ts rs us vs p q = p
  covers-cond false ts rs us vs p q = q

  covers-register : (j r new : ℕ) → Covers (on_register j r new) (use_register j r)
  covers-register j r new = covers-cond (r == 0) [] (touch j (register_cell r) new) [] (use_of j (register_cell r)) covers-none (covers-one j (register_cell r) new)

  covers-buffer : (buffer k new : ℕ) → Covers (on_buffer buffer k new) (use_buffer buffer k)
  covers-buffer buffer k new = covers-cond (k == 0) [] (touch 6 (buffer / 4) new) [] (use_of 6 (buffer / 4)) covers-none (covers-one 6 (buffer / 4) new)

  covers-reads : (q r : ℕ) → Covers (reads_two q r v) (use_register 2 q ++ use_register 3 r)
  covers-reads q r = covers-join (on_register 2 q v.s2) (on_register 3 r v.s3) (use_register 2 q) (use_register 3 r) (covers-register 2 q v.s2) (covers-register 3 r v.s3)

  -- a step that reads, and goes on where a number is 0
  covers-aligned : (n next pc kind : ℕ) (reads writes : List Touch) (us vs : List Use) → Covers reads us → Covers writes vs
      → Covers (cond (n == 0) (goes_to next (reads ++ writes)) (ends pc kind 0 reads)).touches (us ++ cond (n == 0) vs [])
  covers-aligned n next pc kind reads writes us vs p q = go (n == 0)
    where
      go : (b : Bool) → Covers (cond b (goes_to next (reads ++ writes)) (ends pc kind 0 reads)).touches (us ++ cond b vs [])
      go true h = covers-join reads writes us vs p q h
      go false h = sees-join us [] (p h) tt

  -- its reads come first
  reads-first : (n next pc kind : ℕ) (reads writes : List Touch) → SeesTouches v s (cond (n == 0) (goes_to next (reads ++ writes)) (ends pc kind 0 reads)).touches → SeesTouches v s reads
  reads-first n next pc kind reads writes = go (n == 0)
    where
      go : (b : Bool) → SeesTouches v s (cond b (goes_to next (reads ++ writes)) (ends pc kind 0 reads)).touches → SeesTouches v s reads
      go true h = seen-left reads writes h
      go false h = h

  operand-one : (q : ℕ) → q < 32 → SeesTouches v s (reads_one q v) → operand q v.s2 ≡ register s q
  operand-one q small h = operand-is v s 2 q small (covers-register 2 q v.s2 h)

  operand-left : (q r : ℕ) → q < 32 → SeesTouches v s (reads_two q r v) → operand q v.s2 ≡ register s q
  operand-left q r small h = operand-one q small (seen-left (on_register 2 q v.s2) (on_register 3 r v.s3) h)

  -- ---- calls

  -- what an argument is, by the accesses
  arguments-are : SeesTouches v s (argument_touches v) → (v.s3 ≡ register s 10) × (v.s4 ≡ register s 11) × (v.s5 ≡ register s 12)
  arguments-are h = (h.1.0 ∙ value-register s 10 (omega arith), h.1.1.0 ∙ value-register s 11 (omega arith), h.1.1.1.0 ∙ value-register s 12 (omega arith))

  abbrev Read : List ℕ → ℕ → ℕ → ℕ → Bool → Expected
  Read input buffer len x zero_descriptor =
      let k = min (length input - s.position) (within_word buffer len) in
      let filled = on_buffer buffer k (splice x (buffer % 4) (take k (drop s.position input))) in
      cond zero_descriptor (record (expected_return s.pc (argument_touches v ++ filled) k) { took = k }) (expected_return s.pc (argument_touches v) 0xFFFFFFF7)

  read-first : (input : List ℕ) (buffer len x : ℕ) (b : Bool) → SeesTouches v s (Read input buffer len x b).touches → SeesTouches v s (argument_touches v)
  read-first input buffer len x true h = (h.0, (h.1.0, (h.1.1.0, (h.1.1.1.0, tt))))
  read-first input buffer len x false h = (h.0, (h.1.0, (h.1.1.0, (h.1.1.1.0, tt))))

  read-covers : (input : List ℕ) (buffer len x : ℕ) (b : Bool)
      → Covers (Read input buffer len x b).touches (argument_uses ++ use_buffer buffer (cond b (min (length input - s.position) (within_word buffer len)) 0) ++ use_register 7 10)
  read-covers input buffer len x true =
      let k : ℕ = min (length input - s.position) (within_word buffer len) in
      let filled : List Touch = on_buffer buffer k (splice x (buffer % 4) (take k (drop s.position input))) in
      covers-join (argument_touches v ++ filled) (on_register 7 10 k) (argument_uses ++ use_buffer buffer k) (use_register 7 10)
      (covers-join (argument_touches v) filled argument_uses (use_buffer buffer k) (λ h. h) (covers-buffer buffer k (splice x (buffer % 4) (take k (drop s.position input)))))
      (covers-register 7 10 k)
  read-covers input buffer len x false = covers-join (argument_touches v) (on_register 7 10 0xFFFFFFF7) argument_uses (use_register 7 10) (λ h. h) (covers-register 7 10 0xFFFFFFF7)

  read-call : (input : List ℕ)
      → Covers (expected_read input s.position s.pc v).touches
      (argument_uses ++ use_buffer (register s 11) (cond (register s 10 == 0) (min (length input - s.position) (within_word (register s 11) (register s 12))) 0) ++ use_register 7 10)
  read-call input h =
      let a = arguments-are (read-first input v.s4 v.s5 v.s6 (v.s3 == 0) h) in
      let one : SeesTouches v s (Read input v.s4 v.s5 v.s6 (register s 10 == 0)).touches = subst (λ d. SeesTouches v s (Read input v.s4 v.s5 v.s6 (d == 0)).touches) a.0 h in
      let two : SeesTouches v s (Read input (register s 11) v.s5 v.s6 (register s 10 == 0)).touches = subst (λ d. SeesTouches v s (Read input d v.s5 v.s6 (register s 10 == 0)).touches) a.1 one in
      let three : SeesTouches v s (Read input (register s 11) (register s 12) v.s6 (register s 10 == 0)).touches = subst (λ d. SeesTouches v s (Read input (register s 11) d v.s6 (register s 10 == 0)).touches) a.2 two in
      read-covers input (register s 11) (register s 12) v.s6 (register s 10 == 0) three

  abbrev Write : ℕ → ℕ → Bool → Bool → Expected
  Write buffer len output error =
      let k = within_word buffer len in
      let bytes = take k (drop (buffer % 4) (to_le_bytes w32 v.s6)) in
      cond output (record (expected_return s.pc (argument_touches v ++ on_buffer buffer k v.s6) k) { put = bytes })
      (cond error (expected_return s.pc (argument_touches v) len) (expected_return s.pc (argument_touches v) 0xFFFFFFF7))

  write-first : (buffer len : ℕ) (b c : Bool) → SeesTouches v s (Write buffer len b c).touches → SeesTouches v s (argument_touches v)
  write-first buffer len true c h = (h.0, (h.1.0, (h.1.1.0, (h.1.1.1.0, tt))))
  write-first buffer len false true h = (h.0, (h.1.0, (h.1.1.0, (h.1.1.1.0, tt))))
  write-first buffer len false false h = (h.0, (h.1.0, (h.1.1.0, (h.1.1.1.0, tt))))

  write-covers : (buffer len : ℕ) (b c : Bool) → Covers (Write buffer len b c).touches (argument_uses ++ use_buffer buffer (cond b (within_word buffer len) 0) ++ use_register 7 10)
  write-covers buffer len true c =
      let k : ℕ = within_word buffer len in
      covers-join (argument_touches v ++ on_buffer buffer k v.s6) (on_register 7 10 k) (argument_uses ++ use_buffer buffer k) (use_register 7 10)
      (covers-join (argument_touches v) (on_buffer buffer k v.s6) argument_uses (use_buffer buffer k) (λ h. h) (covers-buffer buffer k v.s6))
      (covers-register 7 10 k)
  write-covers buffer len false true = covers-join (argument_touches v) (on_register 7 10 len) argument_uses (use_register 7 10) (λ h. h) (covers-register 7 10 len)
  write-covers buffer len false false = covers-join (argument_touches v) (on_register 7 10 0xFFFFFFF7) argument_uses (use_register 7 10) (λ h. h) (covers-register 7 10 0xFFFFFFF7)

  write-call : Covers (expected_write s.pc v).touches
      (argument_uses ++ use_buffer (register s 11) (cond (register s 10 == 1) (within_word (register s 11) (register s 12)) 0) ++ use_register 7 10)
  write-call h =
      let a = arguments-are (write-first v.s4 v.s5 (v.s3 == 1) (v.s3 == 2) h) in
      let one : SeesTouches v s (Write v.s4 v.s5 (register s 10 == 1) (register s 10 == 2)).touches = subst (λ d. SeesTouches v s (Write v.s4 v.s5 (d == 1) (d == 2)).touches) a.0 h in
      let two : SeesTouches v s (Write (register s 11) v.s5 (register s 10 == 1) (register s 10 == 2)).touches = subst (λ d. SeesTouches v s (Write d v.s5 (register s 10 == 1) (register s 10 == 2)).touches) a.1 one in
      let three : SeesTouches v s (Write (register s 11) (register s 12) (register s 10 == 1) (register s 10 == 2)).touches = subst (λ d. SeesTouches v s (Write (register s 11) d (register s 10 == 1) (register s 10 == 2)).touches) a.2 two in
      write-covers (register s 11) (register s 12) (register s 10 == 1) (register s 10 == 2) three

  abbrev Call : List ℕ → Bool → Bool → Bool → Expected
  Call input a b c =
      cond a (ends s.pc 0 v.s3 (on_register 2 17 v.s2 ++ on_register 3 10 v.s3))
      (cond b (expected_read input s.position s.pc v)
      (cond c (expected_write s.pc v)
      (expected_return s.pc (on_register 2 17 v.s2) 0xFFFFFFDA)))

  number-is : (input : List ℕ) (a b c : Bool) → SeesTouches v s (Call input a b c).touches → v.s2 ≡ register s 17
  number-is input true b c h = h.0 ∙ value-register s 17 (omega arith)
  number-is input false true c h = (read-first input v.s4 v.s5 v.s6 (v.s3 == 0) h).0 ∙ value-register s 17 (omega arith)
  number-is input false false true h = (write-first v.s4 v.s5 (v.s3 == 1) (v.s3 == 2) h).0 ∙ value-register s 17 (omega arith)
  number-is input false false false h = h.0 ∙ value-register s 17 (omega arith)

  call-covers : (input : List ℕ) (a b c : Bool) → Covers (Call input a b c).touches
      (cond a (use_register 2 17 ++ use_register 3 10)
      (cond b (argument_uses ++ use_buffer (register s 11) (cond (register s 10 == 0) (min (length input - s.position) (within_word (register s 11) (register s 12))) 0) ++ use_register 7 10)
      (cond c (argument_uses ++ use_buffer (register s 11) (cond (register s 10 == 1) (within_word (register s 11) (register s 12)) 0) ++ use_register 7 10)
      (use_register 2 17 ++ use_register 7 10))))
  call-covers input true b c h = h
  call-covers input false true c h = read-call input h
  call-covers input false false true h = write-call h
  call-covers input false false false h = h

  environment-covers : (input : List ℕ) → Covers (expected_call input s.position s.pc v).touches (call_uses input s)
  unfolding expected_call
  environment-covers input h =
      let number : v.s2 ≡ register s 17 = number-is input (v.s2 == 93 || v.s2 == 94) (v.s2 == 63) (v.s2 == 64) h in
      let n : ℕ = register s 17 in
      call-covers input (n == 93 || n == 94) (n == 63) (n == 64) (subst (λ d. SeesTouches v s (Call input (d == 93 || d == 94) (d == 63) (d == 64)).touches) number h)

  -- ---- instructions

  load-covers : (input : List ℕ) (kind : _) (rd rs1 : ℕ) (imm : _) → rs1 < 32 → Covers (expected_instr input s.position s.pc (Load kind rd rs1 imm) v).touches (uses input (Load kind rd rs1 imm) s)
  unfolding expected_instr uses
  load-covers input kind rd rs1 imm small h =
      let by : ℕ → Expected = λ (x : ℕ). moves s.pc (load_width kind) (plus x imm) 4 (reads_one rs1 v) (touch 6 (plus x imm / 4) v.s6 ++ on_register 7 rd (extract kind v.s6 (plus x imm % 4))) in
      let x : ℕ = operand rs1 v.s2 in
      let first : SeesTouches v s (reads_one rs1 v) = reads-first (plus x imm % load_width kind) (pc_plus_4 s.pc) s.pc 4 (reads_one rs1 v) (touch 6 (plus x imm / 4) v.s6 ++ on_register 7 rd (extract kind v.s6 (plus x imm % 4))) h in
      let a : ℕ = plus (register s rs1) imm in
      covers-aligned (a % load_width kind) (pc_plus_4 s.pc) s.pc 4 (reads_one rs1 v) (touch 6 (a / 4) v.s6 ++ on_register 7 rd (extract kind v.s6 (a % 4))) (use_register 2 rs1) (use_of 6 (a / 4) ++ use_register 7 rd)
      (covers-register 2 rs1 v.s2)
      (covers-join (touch 6 (a / 4) v.s6) (on_register 7 rd (extract kind v.s6 (a % 4))) (use_of 6 (a / 4)) (use_register 7 rd) (covers-one 6 (a / 4) v.s6) (covers-register 7 rd (extract kind v.s6 (a % 4))))
      (subst (λ (x : ℕ). SeesTouches v s (by x).touches) (operand-one rs1 small first) h)

  store-covers : (input : List ℕ) (kind : _) (rs1 rs2 : ℕ) (imm : _) → rs1 < 32 → rs2 < 32 → Covers (expected_instr input s.position s.pc (Store kind rs1 rs2 imm) v).touches (uses input (Store kind rs1 rs2 imm) s)
  unfolding expected_instr uses
  store-covers input kind rs1 rs2 imm small h2 h =
      let y : ℕ = operand rs2 v.s3 in
      let by : ℕ → Expected = λ (x : ℕ). moves s.pc (store_width kind) (plus x imm) 5 (reads_two rs1 rs2 v) (touch 6 (plus x imm / 4) (merge kind v.s6 (plus x imm % 4) y)) in
      let x : ℕ = operand rs1 v.s2 in
      let first : SeesTouches v s (reads_two rs1 rs2 v) = reads-first (plus x imm % store_width kind) (pc_plus_4 s.pc) s.pc 5 (reads_two rs1 rs2 v) (touch 6 (plus x imm / 4) (merge kind v.s6 (plus x imm % 4) y)) h in
      let a : ℕ = plus (register s rs1) imm in
      covers-aligned (a % store_width kind) (pc_plus_4 s.pc) s.pc 5 (reads_two rs1 rs2 v) (touch 6 (a / 4) (merge kind v.s6 (a % 4) y)) (use_register 2 rs1 ++ use_register 3 rs2) (use_of 6 (a / 4))
      (covers-reads rs1 rs2) (covers-one 6 (a / 4) (merge kind v.s6 (a % 4) y))
      (subst (λ (x : ℕ). SeesTouches v s (by x).touches) (operand-left rs1 rs2 small first) h)

  jalr-covers : (input : List ℕ) (rd rs1 : ℕ) (imm : _) → rs1 < 32 → Covers (expected_instr input s.position s.pc (Jalr rd rs1 imm) v).touches (uses input (Jalr rd rs1 imm) s)
  unfolding expected_instr uses
  jalr-covers input rd rs1 imm small h =
      let even : ℕ → ℕ = λ (a : ℕ). plus a imm - plus a imm % 2 in
      let by : ℕ → Expected = λ (x : ℕ). jumps s.pc (even x) (reads_one rs1 v) (on_register 7 rd (pc_plus_4 s.pc)) in
      let x : ℕ = operand rs1 v.s2 in
      let first : SeesTouches v s (reads_one rs1 v) = reads-first (even x % 4) (even x) s.pc 3 (reads_one rs1 v) (on_register 7 rd (pc_plus_4 s.pc)) h in
      let a : ℕ = even (register s rs1) in
      covers-aligned (a % 4) a s.pc 3 (reads_one rs1 v) (on_register 7 rd (pc_plus_4 s.pc)) (use_register 2 rs1) (use_register 7 rd) (covers-register 2 rs1 v.s2) (covers-register 7 rd (pc_plus_4 s.pc))
      (subst (λ (x : ℕ). SeesTouches v s (by x).touches) (operand-one rs1 small first) h)

  branch-covers : (target next : ℕ) (reads : List Touch) (us : List Use) (b : Bool) → Covers reads us → Covers (cond b (jumps s.pc target reads []) (goes_to next reads)).touches us
  branch-covers target next reads us false p h = p h
  branch-covers target next reads us true p h = p (reads-first (target % 4) target s.pc 3 reads [] h)

  instruction-covers : (input : List ℕ) (i : Instr) → HasFields i → Covers (expected_instr input s.position s.pc i v).touches (uses input i s)
  unfolding expected_instr uses
  instruction-covers input (Lui rd imm) f h = covers-register 7 rd imm h
  instruction-covers input (Auipc rd imm) f h = covers-register 7 rd ((s.pc + imm) % 2 ^ 32) h
  instruction-covers input (Jal rd off) f h = covers-aligned (plus s.pc off % 4) (plus s.pc off) s.pc 3 [] (on_register 7 rd (pc_plus_4 s.pc)) [] (use_register 7 rd) covers-none (covers-register 7 rd (pc_plus_4 s.pc)) h
  instruction-covers input (Jalr rd rs1 imm) f h = jalr-covers input rd rs1 imm f.1 h
  instruction-covers input (Branch c rs1 rs2 off) f h =
      branch-covers (plus s.pc off) (pc_plus_4 s.pc) (reads_two rs1 rs2 v) (use_register 2 rs1 ++ use_register 3 rs2) (taken c (operand rs1 v.s2) (operand rs2 v.s3)) (covers-reads rs1 rs2) h
  instruction-covers input (Load kind rd rs1 imm) f h = load-covers input kind rd rs1 imm f.1 h
  instruction-covers input (Store kind rs1 rs2 imm) f h = store-covers input kind rs1 rs2 imm f.0 f.1 h
  instruction-covers input (OpImm o rd rs1 imm) f h =
      let w : ℕ = compute o (operand rs1 v.s2) (cast_unsigned w32 imm) in
      covers-join (on_register 2 rs1 v.s2) (on_register 7 rd w) (use_register 2 rs1) (use_register 7 rd) (covers-register 2 rs1 v.s2) (covers-register 7 rd w) h
  instruction-covers input (Op o rd rs1 rs2) f h =
      let w : ℕ = compute o (operand rs1 v.s2) (operand rs2 v.s3) in
      covers-join (reads_two rs1 rs2 v) (on_register 7 rd w) (use_register 2 rs1 ++ use_register 3 rs2) (use_register 7 rd) (covers-reads rs1 rs2) (covers-register 7 rd w) h
  instruction-covers input (Fence rd rs1 imm) f h = tt
  instruction-covers input Ecall f h = environment-covers input h
  instruction-covers input Ebreak f h = tt

  -- ---- atomic instructions

  reservation-is : v.s8 ≡ value s reservation_cell → v.s8 ≡ s.reservation
  unfolding value
  reservation-is h = h

  sc-covers : (rd a b : ℕ) (held : Bool) (w : ℕ) → Covers (cond held (touch 6 (a / 4) b) [] ++ on_register 7 rd w ++ touch 8 reservation_cell 0) (cond held (use_of 6 (a / 4)) [] ++ use_register 7 rd ++ use_of 8 reservation_cell)
  sc-covers rd a b held w =
      covers-join (cond held (touch 6 (a / 4) b) [] ++ on_register 7 rd w) (touch 8 reservation_cell 0) (cond held (use_of 6 (a / 4)) [] ++ use_register 7 rd) (use_of 8 reservation_cell)
      (covers-join (cond held (touch 6 (a / 4) b) []) (on_register 7 rd w) (cond held (use_of 6 (a / 4)) []) (use_register 7 rd)
      (covers-cond held (touch 6 (a / 4) b) [] (use_of 6 (a / 4)) [] (covers-one 6 (a / 4) b) covers-none) (covers-register 7 rd w))
      (covers-one 8 reservation_cell 0)

  word-covers : (rd a new w : ℕ) → Covers (touch 6 (a / 4) new ++ on_register 7 rd w) (use_of 6 (a / 4) ++ use_register 7 rd)
  word-covers rd a new w = covers-join (touch 6 (a / 4) new) (on_register 7 rd w) (use_of 6 (a / 4)) (use_register 7 rd) (covers-one 6 (a / 4) new) (covers-register 7 rd w)

  writes-cover : (op : AtomicOp) (rd a b : ℕ) → Covers (atomic_writes op rd a b v) (aligned_atomic_uses op rd a s)
  writes-cover amo.Lr rd a b h =
      covers-join (touch 6 (a / 4) v.s6 ++ on_register 7 rd v.s6) (touch 8 reservation_cell (a + 1)) (use_of 6 (a / 4) ++ use_register 7 rd) (use_of 8 reservation_cell)
      (word-covers rd a v.s6 v.s6) (covers-one 8 reservation_cell (a + 1)) h
  writes-cover amo.Sc rd a b h =
      let first : List Touch = cond (v.s8 == a + 1) (touch 6 (a / 4) b) [] ++ on_register 7 rd (cond (v.s8 == a + 1) 0 1) in
      let eight : SeesTouches v s (touch 8 reservation_cell 0) = seen-right first (touch 8 reservation_cell 0) h in
      let is : v.s8 ≡ s.reservation = reservation-is eight.0 in
      let by : ℕ → List Touch = λ (x : ℕ). cond (x == a + 1) (touch 6 (a / 4) b) [] ++ on_register 7 rd (cond (x == a + 1) 0 1) ++ touch 8 reservation_cell 0 in
      sc-covers rd a b (s.reservation == a + 1) (cond (s.reservation == a + 1) 0 1) (subst (λ (x : ℕ). SeesTouches v s (by x)) is h)
  writes-cover op rd a b h = word-covers rd a (amo_result op v.s6 b) v.s6 h

  atomic-covers : (i : Atomic) → i.rs1 < 32 → Covers (expected_atomic s.pc i v).touches (atomic_uses i s)
  unfolding expected_atomic atomic_uses
  atomic-covers i small h =
      let b : ℕ = operand i.rs2 v.s3 in
      let reads : List Touch = reads_two i.rs1 i.rs2 v in
      let by : ℕ → Expected = λ (x : ℕ). moves s.pc 4 x (misaligned_kind i.op) reads (atomic_writes i.op i.rd x b v) in
      let x : ℕ = operand i.rs1 v.s2 in
      let first : SeesTouches v s reads = reads-first (x % 4) (pc_plus_4 s.pc) s.pc (misaligned_kind i.op) reads (atomic_writes i.op i.rd x b v) h in
      let a : ℕ = register s i.rs1 in
      covers-aligned (a % 4) (pc_plus_4 s.pc) s.pc (misaligned_kind i.op) reads (atomic_writes i.op i.rd a b v) (use_register 2 i.rs1 ++ use_register 3 i.rs2) (aligned_atomic_uses i.op i.rd a s)
      (covers-reads i.rs1 i.rs2) (writes-cover i.op i.rd a b)
      (subst (λ (x : ℕ). SeesTouches v s (by x).touches) (operand-left i.rs1 i.rs2 small first) h)

  any-covers : (input : List ℕ) (o : Option AnyInstr) → IfSome o HasAnyFields → Covers (expected_any input s.position s.pc o v).touches (instruction_uses input o s)
  any-covers input None f h = tt
  any-covers input (Some (rv32im i)) f h = instruction-covers input i f h
  any-covers input (Some (rv32a i)) f h = atomic-covers i f.1 h

  -- old values that are the state's in the slots of the expected accesses are so in the slots that the step uses
  pub expected-covers : (input : List ℕ) → IsState s → Covers (expected s.version s.pc v input s.position).touches (step_uses input s)
  unfolding expected step_uses
  expected-covers input is h =
      let low : s.pc / 4 < 2 ^ 30 = omega (arith, is.pc) in
      let fetched : v.s1 ≡ fetch_word s = h.0 ∙ value-word s (s.pc / 4) low ∙ word-aligned s.memory s.pc is.aligned in
      let o : Option AnyInstr = decode_any s.version (fetch_word s) in
      let rest : SeesTouches v s (expected_any input s.position s.pc o v).touches = subst (λ w. SeesTouches v s (expected_any input s.position s.pc (decode_any s.version w) v).touches) fetched h.1 in
      (h.0, any-covers input o (any-decoded s.version (fetch_word s)) rest)

-- then the expected step makes the accesses of the machine's step and goes as it does
pub seen-follows : SeenStepsFollow
seen-follows input s v is shown = expected-follows input s v is (expected-covers v s input is shown)
