-- Jumps and branches.
use Rattle.std.proofs.Common.{◌≡◌, ℕ, ℤ, ◌-◌, ◌%◌, ◌<◌, Bool, true, false, cond, ◌==◌, List, [], ◌++◌, length, refl, sym, ◌∙◌, ap₂, subst, append-nil}
use Rattle.rv_base.specs.declared.record.Seen.{Seen}
use Rattle.rv_base.specs.declared.record.Touch.{Touch}
use Rattle.rv_base.specs.declared.instr.Cond.{Cond}
use Rattle.rv_base.specs.declared.instr.Instr.TheVariants.{Jal, Jalr, Branch}
use Rattle.rv_spec.specs.Words.{plus}
use Rattle.rv_spec.specs.Arithmetic.{taken}
use Rattle.rv_spec.specs.Step.{State, Next, register, with_register, advance, jump, stops, execute}
use Rattle.rv_spec.specs.Visits.{Use, use_register, where_aligned, uses}
use Rattle.rv_rules.specs.Expected.{on_register, operand, reads_one, reads_two, goes_to, ends, pc_plus_4, jumps, expected_instr}
use Rattle.rv_isa.proofs.Uses.{Sees, Follows, made, sees-left, goes-on, aligned-follows}
use Rattle.rv_isa.proofs.Registers.{reads-register, reads-two, operand-first, operand-second, writes-register, register-with}

-- a jump that reads, and leaves the address of the next instruction in a register
links-follows : (v : Seen) (s : State) (rd target : ℕ) (us : List Use) (reads : List Touch) → rd < 32 → length s.registers ≡ 31 → ((t : State) → reads ≡ made s t us)
    → Sees v s (us ++ where_aligned 4 target (use_register 7 rd))
    → Follows (jumps s.pc target reads (on_register 7 rd (pc_plus_4 s.pc))) s (jump target (with_register rd (pc_plus_4 s.pc) s)) (us ++ where_aligned 4 target (use_register 7 rd))
links-follows v s rd target us reads small count read sees =
    let t : State = record (with_register rd (pc_plus_4 s.pc) s) { pc = target } in
    aligned-follows v s t (target % 4) target 3 us (use_register 7 rd) reads (on_register 7 rd (pc_plus_4 s.pc)) read
    (λ aligned seen. writes-register s t rd (pc_plus_4 s.pc) small (register-with s rd (pc_plus_4 s.pc) small count))
    (goes-on s t target refl refl refl) sees

pub jal-follows : (input : List ℕ) (s : State) (v : Seen) (rd : ℕ) (off : ℤ) → rd < 32 → length s.registers ≡ 31 → Sees v s (uses input (Jal rd off) s)
    → Follows (expected_instr input s.position s.pc (Jal rd off) v) s (execute input (Jal rd off) s) (uses input (Jal rd off) s)
unfolding expected_instr uses execute
jal-follows input s v rd off small count sees = links-follows v s rd (plus s.pc off) [] [] small count (λ t. refl) sees

pub jalr-follows : (input : List ℕ) (s : State) (v : Seen) (rd rs1 : ℕ) (imm : ℤ) → rd < 32 → rs1 < 32 → length s.registers ≡ 31 → Sees v s (uses input (Jalr rd rs1 imm) s)
    → Follows (expected_instr input s.position s.pc (Jalr rd rs1 imm) v) s (execute input (Jalr rd rs1 imm) s) (uses input (Jalr rd rs1 imm) s)
unfolding expected_instr uses execute
jalr-follows input s v rd rs1 imm small h1 count sees =
    let even : ℕ → ℕ = λ (a : ℕ). plus a imm - plus a imm % 2 in
    let later : List Use = where_aligned 4 (even (register s rs1)) (use_register 7 rd) in
    let first : Sees v s (use_register 2 rs1) = sees-left v s (use_register 2 rs1) later sees in
    subst (λ a. Follows (jumps s.pc (even a) (reads_one rs1 v) (on_register 7 rd (pc_plus_4 s.pc))) s (execute input (Jalr rd rs1 imm) s) (uses input (Jalr rd rs1 imm) s))
    (sym (operand-first v s rs1 later h1 sees))
    (links-follows v s rd (even (register s rs1)) (use_register 2 rs1) (reads_one rs1 v) small count (λ t. reads-register v s t 2 rs1 refl first) sees)

branch-cases : (s : State) (target : ℕ) (us : List Use) (reads : List Touch) (branches : Bool) → ((t : State) → reads ≡ made s t us)
    → Follows (cond branches (jumps s.pc target reads []) (goes_to (pc_plus_4 s.pc) reads)) s (cond branches (jump target s) (advance s)) us
branch-cases s target us reads false read =
    let t : State = record s { pc = pc_plus_4 s.pc } in
    (read t, goes-on s t (pc_plus_4 s.pc) refl refl refl)
branch-cases s target us reads true read = go (target % 4 == 0)
  where
    go : (b : Bool) → Follows (cond b (goes_to target (reads ++ [])) (ends s.pc 3 0 reads)) s (cond b (Next (record s { pc = target })) (stops 3)) us
    go true = (append-nil reads ∙ read (record s { pc = target }), goes-on s (record s { pc = target }) target refl refl refl)
    go false = (read s, (refl, refl, refl, refl))

pub branch-follows : (input : List ℕ) (s : State) (v : Seen) (c : Cond) (rs1 rs2 : ℕ) (off : ℤ) → rs1 < 32 → rs2 < 32 → Sees v s (uses input (Branch c rs1 rs2 off) s)
    → Follows (expected_instr input s.position s.pc (Branch c rs1 rs2 off) v) s (execute input (Branch c rs1 rs2 off) s) (uses input (Branch c rs1 rs2 off) s)
unfolding expected_instr uses execute
branch-follows input s v c rs1 rs2 off h1 h2 sees =
    let us : List Use = use_register 2 rs1 ++ use_register 3 rs2 in
    let reads : List Touch = reads_two rs1 rs2 v in
    let test : taken c (operand rs1 v.s2) (operand rs2 v.s3) ≡ taken c (register s rs1) (register s rs2) = ap₂ (taken c) (operand-first v s rs1 (use_register 3 rs2) h1 sees) (operand-second v s rs1 rs2 h2 sees) in
    subst (λ b. Follows (cond b (jumps s.pc (plus s.pc off) reads []) (goes_to (pc_plus_4 s.pc) reads)) s (execute input (Branch c rs1 rs2 off) s) us)
    (sym test) (branch-cases s (plus s.pc off) us reads (taken c (register s rs1) (register s rs2)) (λ t. reads-two v s t rs1 rs2 sees))
