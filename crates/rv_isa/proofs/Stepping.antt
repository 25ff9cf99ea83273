-- A step keeps the version.
use Rattle.std.proofs.Common.{◌≡◌, ℕ, Bool, true, false, cond, List, Option, Some, None, refl}
use Rattle.rv_base.specs.declared.instr.Instr.{Instr}
use Rattle.rv_base.specs.declared.instr.Instr.TheVariants.{Lui, Auipc, Jal, Jalr, Branch, Load, Store, OpImm, Op as OpReg, Fence, Ecall, Ebreak}
use Rattle.rv_base.specs.declared.instr.AtomicOp.{AtomicOp}
use Rattle.rv_base.specs.declared.instr.AtomicOp.TheVariants as amo
use Rattle.rv_spec.specs.Decode.{AnyInstr, rv32im, rv32a, decode_any}
use Rattle.rv_spec.specs.Step.{State, Transition, Next, Ends, register, fetch_word, environment_call, execute, execute_atomic, atomic_at, execute_if, step}

abbrev pub SameVersion : State → Transition → Type 0
SameVersion s (Next t) = t.version ≡ s.version
SameVersion s (Ends e) = Unit {0}

same-cond : (s : State) (b : Bool) (t u : Transition) → SameVersion s t → SameVersion s u → SameVersion s (cond b t u)
same-cond s true t u h k = h
same-cond s false t u h k = k

instruction-version : (input : List ℕ) (i : Instr) (s : State) → SameVersion s (execute input i s)
unfolding execute environment_call
instruction-version input (Lui rd imm) s = refl
instruction-version input (Auipc rd imm) s = refl
instruction-version input (Jal rd off) s = search same-cond
instruction-version input (Jalr rd rs1 imm) s = search same-cond
instruction-version input (Branch c rs1 rs2 off) s = search same-cond
instruction-version input (Load kind rd rs1 imm) s = search same-cond
instruction-version input (Store kind rs1 rs2 imm) s = search same-cond
instruction-version input (OpImm o rd rs1 imm) s = refl
instruction-version input (OpReg o rd rs1 rs2) s = refl
instruction-version input (Fence rd rs1 imm) s = refl
instruction-version input Ecall s = search same-cond depth 9
instruction-version input Ebreak s = tt

atomic-version : (op : AtomicOp) (rd a v : ℕ) (s : State) → SameVersion s (atomic_at op rd a v s)
atomic-version amo.Lr rd a v s = search same-cond
atomic-version amo.Sc rd a v s = search same-cond
atomic-version op rd a v s = search same-cond

any-version : (input : List ℕ) (o : Option AnyInstr) (s : State) → SameVersion s (execute_if input o s)
unfolding execute_atomic
any-version input None s = tt
any-version input (Some (rv32im i)) s = instruction-version input i s
any-version input (Some (rv32a i)) s = atomic-version i.op i.rd (register s i.rs1) (register s i.rs2) s

pub step-version : (input : List ℕ) (s : State) → SameVersion s (step input s)
unfolding step
step-version input s = any-version input (decode_any s.version (fetch_word s)) s
