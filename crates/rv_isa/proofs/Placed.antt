-- A step uses words of memory in slot 6, and registers or the reservation in the slots around it.
use Rattle.std.proofs.Common.{◌≡◌, ℕ, ◌+◌, ◌-◌, ◌/◌, ◌%◌, ◌^◌, ◌<◌, ◌≤◌, min, length, ◌||◌, Bool, true, false, cond, ◌==◌, List, [], ◌∷◌, ◌++◌, Option, Some, None, option_map, refl, arith, rules}
use Rattle.std.specs.List.{AllByRecursion}
use Rattle.std.specs.Option.{IfSome, option_or}
use Rattle.std.proofs.lemmas.Bool.{eqb-false, eqb-true}
use Rattle.rv_base.specs.declared.instr.Instr.{Instr}
use Rattle.rv_base.specs.declared.instr.Instr.TheVariants.{Lui, Auipc, Jal, Jalr, Branch, Load, Store, OpImm, Op, Fence, Ecall, Ebreak}
use Rattle.rv_base.specs.declared.instr.AtomicOp.{AtomicOp}
use Rattle.rv_base.specs.declared.instr.AtomicOp.TheVariants as amo
use Rattle.rv_base.specs.declared.instr.Atomic.{Atomic}
use Rattle.rv_spec.specs.Decode.{AnyInstr, rv32im, rv32a, decode, decode_atomic, decode_any}
use Rattle.rv_spec.specs.Step.{State, register, within_word, fetch_word}
use Rattle.rv_spec.specs.Cells.{register_cell, reservation_cell}
use Rattle.rv_spec.specs.Visits.{Use, use_of, use_register, use_buffer, where_aligned, argument_uses, call_uses, uses, aligned_atomic_uses, atomic_uses, instruction_uses}
use Rattle.rv_rules.specs.Agreement.{IsState}
use Rattle.rv_isa.proofs.Fields.{HasFields, HasAnyFields, any-decoded}
use Rattle.rv_isa.proofs.WordRanges.{register-fits, sum-fits}

-- the cell is a word of memory in slot 6, and else a register or the reservation, but not x0; a register in slot 7, and the reservation, which is of version 2, in slot 8
abbrev pub IsPlaced : ℕ → Use → Type 0
IsPlaced version u = (2 ≤ u.slot) × (u.slot < 9) × (u.slot ≡ 6 → u.cell < 2 ^ 30) × (¬ (u.slot ≡ 6) → (2 ^ 30 < u.cell) × (u.cell < 2 ^ 30 + 33)) × (u.cell ≡ reservation_cell → version ≡ 2) × (u.slot ≡ 7 → u.cell < 2 ^ 30 + 32) × (u.slot ≡ 8 → u.cell ≡ reservation_cell)

abbrev pub ArePlaced : ℕ → List Use → Type 0
ArePlaced version us = AllByRecursion (IsPlaced version) us

module _ (version : ℕ) where
  placed-append : (us vs : List Use) → ArePlaced version us → ArePlaced version vs → ArePlaced version (us ++ vs)
  placed-append [] vs h k = k
  placed-append (u ∷ us) vs h k = (h.0, placed-append us vs h.1 k)

  placed-cond : (b : Bool) (us vs : List Use) → ArePlaced version us → ArePlaced version vs → ArePlaced version (cond b us vs)
  placed-cond true us vs h k = h
  placed-cond false us vs h k = k

  placed-register : (j r : ℕ) → r < 32 → 2 ≤ j → j < 8 → ¬ (j ≡ 6) → ArePlaced version (use_register j r)
  placed-register j r small lo hi other = go (r == 0) refl
    where
      go : (b : Bool) → (r == 0) ≡ b → ArePlaced version (cond b [] (use_of j (register_cell r)))
      go true z = tt
      go false z = let some : ¬ (r ≡ 0) = eqb-false r 0 z in ((lo, omega (arith, hi), (λ six. absurd (other six)), (λ e. (omega arith, omega arith)), (λ e. absurd (omega (arith, e))), (λ seven. omega arith), (λ eight. absurd (omega (arith, hi, eight)))), tt)

  placed-word : (a : ℕ) → a < 2 ^ 32 → ArePlaced version (use_of 6 (a / 4))
  placed-word a small = ((omega arith, omega arith, (λ six. omega arith), (λ other. absurd (other refl)), (λ e. absurd (omega (arith, e))), (λ seven. absurd (omega (arith, seven))), (λ eight. absurd (omega (arith, eight)))), tt)

  placed-reservation : version ≡ 2 → ArePlaced version (use_of 8 reservation_cell)
  placed-reservation two = ((omega arith, omega arith, (λ six. absurd (omega arith)), (λ other. (omega arith, omega arith)), (λ e. two), (λ seven. absurd (omega (arith, seven))), (λ eight. refl)), tt)

  ruleset placing = (placed-append, placed-cond, placed-register, placed-word, placed-reservation, sum-fits, register-fits)

  moves-placed : (buffer k : ℕ) → buffer < 2 ^ 32 → ArePlaced version (argument_uses ++ use_buffer buffer k ++ use_register 7 10)
  moves-placed buffer k small = search (placing, rules)

  call-placed : (input : List ℕ) (s : State) → IsState s → ArePlaced version (call_uses input s)
  call-placed input s is =
      let number : ℕ = register s 17 in
      let buffer : ℕ = register s 11 in
      let k : ℕ = within_word buffer (register s 12) in
      let other : List Use = use_register 2 17 ++ use_register 7 10 in
      let write : List Use = argument_uses ++ use_buffer buffer (cond (register s 10 == 1) k 0) ++ use_register 7 10 in
      let read : List Use = argument_uses ++ use_buffer buffer (cond (register s 10 == 0) (min (length input - s.position) k) 0) ++ use_register 7 10 in
      placed-cond (number == 93 || number == 94) (use_register 2 17 ++ use_register 3 10) (cond (number == 63) read (cond (number == 64) write other)) (search (placing, rules))
      (placed-cond (number == 63) read (cond (number == 64) write other) (moves-placed buffer (cond (register s 10 == 0) (min (length input - s.position) k) 0) (register-fits s 11 is))
      (placed-cond (number == 64) write other (moves-placed buffer (cond (register s 10 == 1) k 0) (register-fits s 11 is)) (search (placing, rules))))

  instruction-placed : (input : List ℕ) (i : Instr) (s : State) → HasFields i → IsState s → ArePlaced version (uses input i s)
  unfolding uses
  instruction-placed input (Lui rd imm) s f is = search (placing, rules)
  instruction-placed input (Auipc rd imm) s f is = search (placing, rules)
  instruction-placed input (Jal rd off) s f is = search (placing, rules)
  instruction-placed input (Jalr rd rs1 imm) s f is = search (placing, rules)
  instruction-placed input (Branch c rs1 rs2 off) s f is = search (placing, rules)
  instruction-placed input (Load kind rd rs1 imm) s f is = search (placing, rules)
  instruction-placed input (Store kind rs1 rs2 imm) s f is = search (placing, rules)
  instruction-placed input (OpImm o rd rs1 imm) s f is = search (placing, rules)
  instruction-placed input (Op o rd rs1 rs2) s f is = search (placing, rules)
  instruction-placed input (Fence rd rs1 imm) s f is = tt
  instruction-placed input Ecall s f is = call-placed input s is
  instruction-placed input Ebreak s f is = tt

  atomic-placed : (op : AtomicOp) (rd a : ℕ) (s : State) → version ≡ 2 → rd < 32 → a < 2 ^ 32 → ArePlaced version (aligned_atomic_uses op rd a s)
  atomic-placed amo.Lr rd a s two f small = search (placing, rules)
  atomic-placed amo.Sc rd a s two f small = search (placing, rules)
  atomic-placed op rd a s two f small = search (placing, rules)

  any-placed : (input : List ℕ) (o : Option AnyInstr) (s : State) → ((i : Atomic) → o ≡ Some (rv32a i) → version ≡ 2) → IfSome o HasAnyFields → IsState s → ArePlaced version (instruction_uses input o s)
  unfolding atomic_uses
  any-placed input None s two f is = tt
  any-placed input (Some (rv32im i)) s two f is = instruction-placed input i s f is
  any-placed input (Some (rv32a i)) s two f is =
      placed-append (use_register 2 i.rs1 ++ use_register 3 i.rs2) (where_aligned 4 (register s i.rs1) (aligned_atomic_uses i.op i.rd (register s i.rs1) s))
      (placed-append (use_register 2 i.rs1) (use_register 3 i.rs2) (placed-register 2 i.rs1 f.1 (omega arith) (omega arith) (λ e. absurd (omega arith))) (placed-register 3 i.rs2 f.2 (omega arith) (omega arith) (λ e. absurd (omega arith))))
      (placed-cond (register s i.rs1 % 4 == 0) (aligned_atomic_uses i.op i.rd (register s i.rs1) s) [] (atomic-placed i.op i.rd (register s i.rs1) s (two i refl) f.0 (register-fits s i.rs1 is)) tt)

-- atomic instructions are of version 2
atomic-version : (version w : ℕ) (i : Atomic) → decode_any version w ≡ Some (rv32a i) → version ≡ 2
unfolding decode_any
atomic-version version w i e = go (decode w) (version == 2) refl e
  where
    go : (o : Option Instr) (b : Bool) → (version == 2) ≡ b → option_or (option_map rv32im o) (cond b (option_map rv32a (decode_atomic w)) None) ≡ Some (rv32a i) → version ≡ 2
    go (Some x) b is e = absurd cc
    go None true is e = eqb-true version 2 is
    go None false is e = absurd cc

-- of a state, the uses after the fetch
pub uses-placed : (input : List ℕ) (s : State) → IsState s → ArePlaced s.version (instruction_uses input (decode_any s.version (fetch_word s)) s)
uses-placed input s is = any-placed s.version input (decode_any s.version (fetch_word s)) s (atomic-version s.version (fetch_word s)) (any-decoded s.version (fetch_word s)) is
