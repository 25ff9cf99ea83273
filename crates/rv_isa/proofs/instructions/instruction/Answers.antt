-- A load and a store follow their reads, at the address that they compute.
use Rattle.std.proofs.Common.{◌≡◌, ℕ, ◌/◌, ◌%◌, ◌++◌, sym, ap₂, subst, rules}
use Rattle.rv_base.specs.declared.cells.TheConstants.{MEMORY_SLOT, RD_SLOT}
use Rattle.rv_base.specs.declared.machine.TheConstants.{MISALIGNED_LOAD, MISALIGNED_STORE}
use Rattle.rv_base.specs.declared.instr.Instr.{Instr}
use Rattle.rv_spec.specs.Words.{plus}
use Rattle.rv_spec.specs.Step.{load_width, store_width}
use Rattle.rv_rules.specs.Expected as isa
use Rattle.rv_isa.specs.Represented.{AppendsExpected}
use Rattle.rv_isa.proofs.Made.{moves-after}
use Rattle.rv_isa.proofs.instructions.instruction.Goals as goal

pub returns-in-Load : goal.returns-in-Load
unfolding isa.expected_instr
returns-in-Load c =
    let i = c.in-Load in
    let p = c.args.step.now in
    let v = p.seen.now in
    let first = c.args.touches.now.list.items in
    let last = c.load.new.touches.list.items in
    let loads : ℕ → isa.Expected = λ (a : ℕ). isa.moves p.pc (load_width i.kind) a MISALIGNED_LOAD (isa.reads_one i.rs1 v) (isa.touch MEMORY_SLOT (a / 4) v.s6 ++ isa.on_register RD_SLOT i.rd (isa.extract i.kind v.s6 (a % 4))) in
    let a = c.address-address.result in
    let at : a ≡ plus (isa.operand i.rs1 v.s2) i.imm = search rules in
    subst (λ (x : Instr). AppendsExpected (isa.expected_instr p.input.now p.at p.pc x v) first last c.load.result) (sym i.is)
    (subst (λ (x : ℕ). AppendsExpected (loads x) first last c.load.result) at
    (moves-after p.pc (load_width i.kind) a MISALIGNED_LOAD (isa.reads_one i.rs1 v) (isa.touch MEMORY_SLOT (a / 4) v.s6 ++ isa.on_register RD_SLOT i.rd (isa.extract i.kind v.s6 (a % 4))) first _ last c.load.result
    c.read_one-in-Load.ensures.items c.load.ensures))

pub returns-in-Store : goal.returns-in-Store
unfolding isa.expected_instr
returns-in-Store c =
    let i = c.in-Store in
    let p = c.args.step.now in
    let v = p.seen.now in
    let first = c.args.touches.now.list.items in
    let last = c.store.new.touches.list.items in
    let stores : ℕ → ℕ → isa.Expected = λ (a b : ℕ). isa.moves p.pc (store_width i.kind) a MISALIGNED_STORE (isa.reads_two i.rs1 i.rs2 v) (isa.touch MEMORY_SLOT (a / 4) (isa.merge i.kind v.s6 (a % 4) b)) in
    let a = c.address-address-in-Store.result in
    let at : a ≡ plus (isa.operand i.rs1 v.s2) i.imm = search rules in
    let b = c.operand-value.result in
    subst (λ (x : Instr). AppendsExpected (isa.expected_instr p.input.now p.at p.pc x v) first last c.store.result) (sym i.is)
    (subst (λ (e : isa.Expected). AppendsExpected e first last c.store.result) (ap₂ stores at c.operand-value.ensures)
    (moves-after p.pc (store_width i.kind) a MISALIGNED_STORE (isa.reads_two i.rs1 i.rs2 v) (isa.touch MEMORY_SLOT (a / 4) (isa.merge i.kind v.s6 (a % 4) b)) first _ last c.store.result
    c.read_two-in-Store.ensures.items c.store.ensures))
