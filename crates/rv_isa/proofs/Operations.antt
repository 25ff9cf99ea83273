-- Instructions that compute a register.
use Rattle.std.proofs.Common.{◌≡◌, ℕ, ℤ, ◌+◌, ◌%◌, ◌^◌, ◌<◌, List, [], ◌++◌, length, refl, sym, ◌∙◌, ap, ap₂}
use Rattle.std.specs.Int.{w32, cast_unsigned}
use Rattle.rv_base.specs.declared.record.Seen.{Seen}
use Rattle.rv_base.specs.declared.record.Touch.{Touch}
use Rattle.rv_base.specs.declared.instr.Op.{Op}
use Rattle.rv_base.specs.declared.instr.Instr.TheVariants.{Lui, Auipc, OpImm, Op as OpReg}
use Rattle.rv_spec.specs.Arithmetic.{compute}
use Rattle.rv_spec.specs.Step.{State, register, with_register, advance, execute}
use Rattle.rv_spec.specs.Visits.{Use, use_register, uses}
use Rattle.rv_rules.specs.Expected.{on_register, operand, reads_one, reads_two, goes_to, pc_plus_4, expected_instr}
use Rattle.rv_isa.proofs.Uses.{Sees, Follows, made, sees-left, joined, goes-on}
use Rattle.rv_isa.proofs.Registers.{reads-register, reads-two, operand-first, operand-second, writes-register, register-with}

-- a step that reads, leaves a number in a register and goes on
pub sets-follows : (s : State) (rd w x : ℕ) (us : List Use) (reads : List Touch) → rd < 32 → length s.registers ≡ 31 → w ≡ x → ((t : State) → reads ≡ made s t us)
    → Follows (goes_to (pc_plus_4 s.pc) (reads ++ on_register 7 rd w)) s (advance (with_register rd x s)) (us ++ use_register 7 rd)
sets-follows s rd w x us reads small count same read =
    let t : State = record (with_register rd x s) { pc = (s.pc + 4) % 2 ^ 32 } in
    let written : on_register 7 rd w ≡ made s t (use_register 7 rd) = writes-register s t rd w small (λ e. register-with s rd x small count e ∙ sym same) in
    (joined s t us (use_register 7 rd) reads (on_register 7 rd w) (read t) written, goes-on s t (pc_plus_4 s.pc) refl refl refl)

pub lui-follows : (input : List ℕ) (s : State) (v : Seen) (rd imm : ℕ) → rd < 32 → length s.registers ≡ 31
    → Follows (expected_instr input s.position s.pc (Lui rd imm) v) s (execute input (Lui rd imm) s) (uses input (Lui rd imm) s)
unfolding expected_instr uses execute
lui-follows input s v rd imm small count = sets-follows s rd imm imm [] [] small count refl (λ t. refl)

pub auipc-follows : (input : List ℕ) (s : State) (v : Seen) (rd imm : ℕ) → rd < 32 → length s.registers ≡ 31
    → Follows (expected_instr input s.position s.pc (Auipc rd imm) v) s (execute input (Auipc rd imm) s) (uses input (Auipc rd imm) s)
unfolding expected_instr uses execute
auipc-follows input s v rd imm small count = sets-follows s rd ((s.pc + imm) % 2 ^ 32) ((s.pc + imm) % 2 ^ 32) [] [] small count refl (λ t. refl)

pub imm-follows : (input : List ℕ) (s : State) (v : Seen) (o : Op) (rd rs1 : ℕ) (imm : ℤ) → rd < 32 → rs1 < 32 → length s.registers ≡ 31 → Sees v s (uses input (OpImm o rd rs1 imm) s)
    → Follows (expected_instr input s.position s.pc (OpImm o rd rs1 imm) v) s (execute input (OpImm o rd rs1 imm) s) (uses input (OpImm o rd rs1 imm) s)
unfolding expected_instr uses execute
imm-follows input s v o rd rs1 imm small h1 count sees =
    let b : ℕ = cast_unsigned w32 imm in
    let same : compute o (operand rs1 v.s2) b ≡ compute o (register s rs1) b = ap (λ a. compute o a b) (operand-first v s rs1 (use_register 7 rd) h1 sees) in
    let first : Sees v s (use_register 2 rs1) = sees-left v s (use_register 2 rs1) (use_register 7 rd) sees in
    sets-follows s rd (compute o (operand rs1 v.s2) b) (compute o (register s rs1) b) (use_register 2 rs1) (reads_one rs1 v) small count same (λ t. reads-register v s t 2 rs1 refl first)

pub op-follows : (input : List ℕ) (s : State) (v : Seen) (o : Op) (rd rs1 rs2 : ℕ) → rd < 32 → rs1 < 32 → rs2 < 32 → length s.registers ≡ 31 → Sees v s (uses input (OpReg o rd rs1 rs2) s)
    → Follows (expected_instr input s.position s.pc (OpReg o rd rs1 rs2) v) s (execute input (OpReg o rd rs1 rs2) s) (uses input (OpReg o rd rs1 rs2) s)
unfolding expected_instr uses execute
op-follows input s v o rd rs1 rs2 small h1 h2 count sees =
    let us : List Use = use_register 2 rs1 ++ use_register 3 rs2 in
    let reads : Sees v s us = sees-left v s us (use_register 7 rd) sees in
    let same : compute o (operand rs1 v.s2) (operand rs2 v.s3) ≡ compute o (register s rs1) (register s rs2) = ap₂ (compute o) (operand-first v s rs1 (use_register 3 rs2) h1 reads) (operand-second v s rs1 rs2 h2 reads) in
    sets-follows s rd (compute o (operand rs1 v.s2) (operand rs2 v.s3)) (compute o (register s rs1) (register s rs2)) us (reads_two rs1 rs2 v) small count same (λ t. reads-two v s t rs1 rs2 reads)
