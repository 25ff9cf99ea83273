-- The expected step of a row agrees with the machine's step, for each instruction.
use Rattle.std.proofs.Common.{◌≡◌, ℕ, ◌/◌, ◌^◌, ◌<◌, ◌≤◌, List, ◌++◌, map, Option, Some, None, refl, sym, ◌∙◌, subst, arith}
use Rattle.std.proofs.lemmas.Simd.{map-map}
use Rattle.std.specs.Option.{IfSome}
use Rattle.rv_base.specs.declared.record.Access.{Access}
use Rattle.rv_base.specs.declared.record.Seen.{Seen}
use Rattle.rv_base.specs.declared.record.Touch.{Touch}
use Rattle.rv_base.specs.declared.record.Tuple.{Tuple}
use Rattle.rv_base.specs.declared.instr.Instr.{Instr}
use Rattle.rv_base.specs.declared.instr.Instr.TheVariants.{Lui, Auipc, Jal, Jalr, Branch, Load, Store, OpImm, Op, Fence, Ecall, Ebreak}
use Rattle.rv_spec.specs.Decode.{AnyInstr, rv32im, rv32a, decode_any}
use Rattle.rv_spec.specs.Step.{State, Transition, Next, Ends, fetch_word, execute, execute_if, step}
use Rattle.rv_spec.specs.Run.{next_state}
use Rattle.rv_spec.specs.Cells.{value}
use Rattle.rv_spec.specs.Visits.{Use, use_of, uses, instruction_uses, step_uses, visit, visits}
use Rattle.rv_spec.specs.Trace.{access}
use Rattle.rv_rules.specs.Expected.{Expected, touch, pc_plus_4, expected_instr, expected_any, expected}
use Rattle.rv_rules.specs.RowRules.{seen}
use Rattle.rv_rules.specs.Agreement.{IsState, GoesAs, touch_of, StepsAgree}
use Rattle.rv_rules.proofs.Lemmas.{seen-in, all-of, all-in, word-aligned}
use Rattle.rv_isa.proofs.Uses.{seen_in, Sees, Follows, made, goes-on}
use Rattle.rv_isa.proofs.Operations.{lui-follows, auipc-follows, imm-follows, op-follows}
use Rattle.rv_isa.proofs.Jumps.{jal-follows, jalr-follows, branch-follows}
use Rattle.rv_isa.proofs.Loads.{value-word, load-follows}
use Rattle.rv_isa.proofs.Stores.{store-follows}
use Rattle.rv_isa.proofs.Calls.{call-follows}
use Rattle.rv_isa.proofs.Atomics.{atomic-follows}
use Rattle.rv_isa.proofs.Slots.{Rises, slots-rise, all-within, slots-differ, slot-seen}
use Rattle.rv_isa.proofs.Fields.{HasFields, HasAnyFields, any-decoded}

instruction-follows : (input : List ℕ) (s : State) (v : Seen) (i : Instr) → HasFields i → IsState s → Sees v s (uses input i s)
    → Follows (expected_instr input s.position s.pc i v) s (execute input i s) (uses input i s)
unfolding expected_instr uses execute
instruction-follows input s v (Lui rd imm) f is sees = lui-follows input s v rd imm f.0 is.count
instruction-follows input s v (Auipc rd imm) f is sees = auipc-follows input s v rd imm f is.count
instruction-follows input s v (Jal rd off) f is sees = jal-follows input s v rd off f is.count sees
instruction-follows input s v (Jalr rd rs1 imm) f is sees = jalr-follows input s v rd rs1 imm f.0 f.1 is.count sees
instruction-follows input s v (Branch c rs1 rs2 off) f is sees = branch-follows input s v c rs1 rs2 off f.0 f.1 sees
instruction-follows input s v (Load kind rd rs1 imm) f is sees = load-follows input s v kind rd rs1 imm f.0 f.1 is sees
instruction-follows input s v (Store kind rs1 rs2 imm) f is sees = store-follows input s v kind rs1 rs2 imm f.0 f.1 is sees
instruction-follows input s v (OpImm o rd rs1 imm) f is sees = imm-follows input s v o rd rs1 imm f.0 f.1 is.count sees
instruction-follows input s v (Op o rd rs1 rs2) f is sees = op-follows input s v o rd rs1 rs2 f.0 f.1 f.2 is.count sees
instruction-follows input s v (Fence rd rs1 imm) f is sees = (refl, goes-on s (record s { pc = pc_plus_4 s.pc }) (pc_plus_4 s.pc) refl refl refl)
instruction-follows input s v Ecall f is sees = call-follows input s v is sees
instruction-follows input s v Ebreak f is sees = (refl, (refl, refl, refl, refl))

any-follows : (input : List ℕ) (s : State) (v : Seen) (o : Option AnyInstr) → IfSome o HasAnyFields → IsState s → Sees v s (instruction_uses input o s)
    → Follows (expected_any input s.position s.pc o v) s (execute_if input o s) (instruction_uses input o s)
any-follows input s v None f is sees = (refl, (refl, refl, refl, refl))
any-follows input s v (Some (rv32im i)) f is sees = instruction-follows input s v i f is sees
any-follows input s v (Some (rv32a i)) f is sees = atomic-follows s v i f.0 f.1 f.2 is sees

-- the accesses say nothing of where the step goes
goes-with : (e : Expected) (ts : List Touch) (s : State) (turn : Transition) → GoesAs e s turn → GoesAs (record e { touches = ts }) s turn
goes-with e ts s (Next t) h = h
goes-with e ts s (Ends f) h = h

-- what a row shows of uses whose slots rise
row-sees : (before : List Tuple) (k : ℕ) (s t : State) (us : List Use) → Rises 1 9 us → Sees (seen (map (access before k) (map (visit s t) us))) s us
row-sees before k s t us rise =
    let accesses : List Access = map (access before k) (map (visit s t) us) in
    all-of (λ u. seen_in (seen accesses) u.slot ≡ value s u.cell) us
    (λ u m.
    let bounds : (1 ≤ u.slot) × (u.slot < 9) = all-in (λ u. (1 ≤ u.slot) × (u.slot < 9)) us (all-within 1 9 us rise) u m in
    slot-seen accesses u.slot bounds.0 bounds.1 ∙ seen-in before k s t us (slots-differ 1 9 us rise) u m)

-- any old values that are the state's where the step uses them give the machine's step
pub expected-follows : (input : List ℕ) (s : State) (v : Seen) → IsState s → Sees v s (step_uses input s)
    → ((expected s.version s.pc v input s.position).touches ≡ map touch_of (visits input s)) × GoesAs (expected s.version s.pc v input s.position) s (step input s)
unfolding expected step visits step_uses
expected-follows input s v is sees =
    let o : Option AnyInstr = decode_any s.version (fetch_word s) in
    let us : List Use = instruction_uses input o s in
    let t : State = next_state input s in
    let all : List Use = use_of 1 (s.pc / 4) ++ us in
    let low : s.pc / 4 < 2 ^ 30 = omega (arith, is.pc) in
    let fetched : v.s1 ≡ fetch_word s = sees.0 ∙ value-word s (s.pc / 4) low ∙ word-aligned s.memory s.pc is.aligned in
    let e : Expected = expected_any input s.position s.pc (decode_any s.version v.s1) v in
    let follows : Follows e s (step input s) us =
    subst (λ w. Follows (expected_any input s.position s.pc (decode_any s.version w) v) s (step input s) us) (sym fetched)
    (any-follows input s v o (any-decoded s.version (fetch_word s)) is sees.1) in
    let accesses : touch 1 (s.pc / 4) v.s1 ++ e.touches ≡ made s t all = λ i. touch 1 (s.pc / 4) (sees.0 i) ++ follows.0 i in
    (accesses ∙ sym (map-map touch_of (visit s t) all), goes-with e (touch 1 (s.pc / 4) v.s1 ++ e.touches) s (step input s) follows.1)

pub steps-agree : StepsAgree
unfolding visits step_uses
steps-agree input s before k is within =
    let us : List Use = step_uses input s in
    let t : State = next_state input s in
    let v : Seen = seen (map (access before k) (map (visit s t) us)) in
    let sees : Sees v s us = row-sees before k s t us (omega arith, slots-rise input (decode_any s.version (fetch_word s)) s) in
    let follows = expected-follows input s v is sees in
    record { accesses = follows.0; goes = follows.1 }
