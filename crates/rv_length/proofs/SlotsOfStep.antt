-- What the slots of an instruction have: each leaves one free, and only slot 6 has a word of memory. So a step has at most seven accesses.
use Rattle.std.proofs.Common.{◌≡◌, inl, inr, ℕ, ◌+◌, ◌-◌, ◌^◌, ◌%◌, ◌<◌, ◌≤◌, min, Bool, true, false, cond, ◌||◌, ◌==◌, List, [], ◌∷◌, ◌++◌, length, Option, Some, None, refl, arith, rules}
use Rattle.std.specs.List.{AllByRecursion}
use Rattle.std.proofs.lemmas.Bool.{cases_order}
use Rattle.rv_base.specs.declared.instr.Instr.{Instr}
use Rattle.rv_base.specs.declared.instr.Instr.TheVariants.{Lui, Auipc, Jal, Jalr, Branch, Load, Store, OpImm, Op, Fence, Ecall, Ebreak}
use Rattle.rv_base.specs.declared.instr.AtomicOp.{AtomicOp}
use Rattle.rv_base.specs.declared.instr.AtomicOp.TheVariants as amo
use Rattle.rv_spec.specs.Step.{State, register, within_word, fetch_word}
use Rattle.rv_spec.specs.Decode.{AnyInstr, rv32im, rv32a, decode_any}
use Rattle.rv_spec.specs.Cells.{register_cell, reservation_cell}
use Rattle.rv_spec.specs.Visits.{Use, use_of, use_register, use_buffer, where_aligned, argument_uses, call_uses, uses, aligned_atomic_uses, atomic_uses, instruction_uses, step_uses}
use Rattle.rv_isa.specs.Ranges.{Rises}
use Rattle.rv_isa.proofs.Lemmas.{step-slots-rise}
use Rattle.rv_length.specs.Lengths.{uses_of_step}

-- ---- what the slots of an instruction have

-- a slot that is free, and in each other slot than 6 a register or the reservation
abbrev pub IsPlaced : ℕ → Use → Type 0
IsPlaced free u = (¬ (u.slot ≡ free)) × (¬ (u.slot ≡ 6) → 2 ^ 30 ≤ u.cell)

abbrev pub ArePlaced : ℕ → List Use → Type 0
ArePlaced free us = AllByRecursion (IsPlaced free) us

module _ (free : ℕ) where
  placed-append : (us vs : List Use) → ArePlaced free us → ArePlaced free vs → ArePlaced free (us ++ vs)
  placed-append [] vs h k = k
  placed-append (u ∷ us) vs h k = (h.0, placed-append us vs h.1 k)

  placed-cond : (b : Bool) (us vs : List Use) → ArePlaced free us → ArePlaced free vs → ArePlaced free (cond b us vs)
  placed-cond true us vs h k = h
  placed-cond false us vs h k = k

  placed-register : (j r : ℕ) → ¬ (j ≡ free) → ArePlaced free (use_register j r)
  placed-register j r other = placed-cond (r == 0) [] (use_of j (register_cell r)) tt ((other, (λ e. omega arith)), tt)

  placed-word : (c : ℕ) → ¬ (6 ≡ free) → ArePlaced free (use_of 6 c)
  placed-word c other = ((other, (λ e. absurd (e refl))), tt)

  placed-reservation : ¬ (8 ≡ free) → ArePlaced free (use_of 8 reservation_cell)
  placed-reservation other = ((other, (λ e. omega arith)), tt)

ruleset placing = (placed-append, placed-cond, placed-register, placed-word, placed-reservation)

moves-placed : (buffer k : ℕ) → ArePlaced 8 (argument_uses ++ use_buffer buffer k ++ use_register 7 10)
moves-placed buffer k = search (placing, rules)

call-placed : (input : List ℕ) (s : State) → ArePlaced 8 (call_uses input s)
call-placed input s =
    let number : ℕ = register s 17 in
    let buffer : ℕ = register s 11 in
    let k : ℕ = within_word buffer (register s 12) in
    let other : List Use = use_register 2 17 ++ use_register 7 10 in
    let write : List Use = argument_uses ++ use_buffer buffer (cond (register s 10 == 1) k 0) ++ use_register 7 10 in
    let read : List Use = argument_uses ++ use_buffer buffer (cond (register s 10 == 0) (min (length input - s.position) k) 0) ++ use_register 7 10 in
    placed-cond 8 (number == 93 || number == 94) (use_register 2 17 ++ use_register 3 10) (cond (number == 63) read (cond (number == 64) write other)) (search (placing, rules))
    (placed-cond 8 (number == 63) read (cond (number == 64) write other) (moves-placed buffer (cond (register s 10 == 0) (min (length input - s.position) k) 0))
    (placed-cond 8 (number == 64) write other (moves-placed buffer (cond (register s 10 == 1) k 0)) (search (placing, rules))))

-- no reservation
uses-placed : (input : List ℕ) (i : Instr) (s : State) → ArePlaced 8 (uses input i s)
unfolding uses
uses-placed input (Lui rd imm) s = search (placing, rules)
uses-placed input (Auipc rd imm) s = search (placing, rules)
uses-placed input (Jal rd off) s = search (placing, rules)
uses-placed input (Jalr rd rs1 imm) s = search (placing, rules)
uses-placed input (Branch c rs1 rs2 off) s = search (placing, rules)
uses-placed input (Load kind rd rs1 imm) s = search (placing, rules)
uses-placed input (Store kind rs1 rs2 imm) s = search (placing, rules)
uses-placed input (OpImm o rd rs1 imm) s = search (placing, rules)
uses-placed input (Op o rd rs1 rs2) s = search (placing, rules)
uses-placed input (Fence rd rs1 imm) s = tt
uses-placed input Ecall s = call-placed input s
uses-placed input Ebreak s = tt

-- no x11 as an argument
atomic-placed : (op : AtomicOp) (rd a : ℕ) (s : State) → ArePlaced 4 (aligned_atomic_uses op rd a s)
atomic-placed amo.Lr rd a s = search (placing, rules)
atomic-placed amo.Sc rd a s = search (placing, rules)
atomic-placed op rd a s = search (placing, rules)

-- the slot that an instruction leaves free
abbrev pub free_slot : Option AnyInstr → ℕ
free_slot (Some (rv32a i)) = 4
free_slot _ = 8

pub instruction-placed : (input : List ℕ) (o : Option AnyInstr) (s : State) → ArePlaced (free_slot o) (instruction_uses input o s)
unfolding atomic_uses
instruction-placed input None s = tt
instruction-placed input (Some (rv32im i)) s = uses-placed input i s
instruction-placed input (Some (rv32a i)) s =
    let a : ℕ = register s i.rs1 in
    let other : (j : ℕ) → j < 4 → ¬ (j ≡ 4) = λ j less is. absurd (omega (arith, less, is)) in
    placed-append 4 (use_register 2 i.rs1 ++ use_register 3 i.rs2) (where_aligned 4 a (aligned_atomic_uses i.op i.rd a s))
    (placed-append 4 (use_register 2 i.rs1) (use_register 3 i.rs2) (placed-register 4 2 i.rs1 (other 2 (omega arith))) (placed-register 4 3 i.rs2 (other 3 (omega arith))))
    (placed-cond 4 (a % 4 == 0) (aligned_atomic_uses i.op i.rd a s) [] (atomic-placed i.op i.rd a s) tt)

-- ---- how many slots a step uses

uses-at-most : (lo hi : ℕ) (us : List Use) → Rises lo hi us → lo + length us ≤ hi
uses-at-most lo hi [] r = omega (arith, r)
uses-at-most lo hi (u ∷ us) r = omega (arith, r.0, uses-at-most (u.slot + 1) hi us r.1)

-- one fewer, where one is free
free-at-most : (lo hi free : ℕ) (us : List Use) → lo ≤ free → free < hi → Rises lo hi us → ArePlaced free us → lo + length us + 1 ≤ hi
free-at-most lo hi free [] low high r p = omega (arith, low, high)
free-at-most lo hi free (u ∷ us) low high r p = elim (cases_order u.slot free) [
  | inl is ↦ absurd (p.0.0 is)
  | inr (inl less) ↦ omega (arith, r.0, free-at-most (u.slot + 1) hi free us (omega (arith, less)) high r.1 p.1)
  | inr (inr more) ↦ omega (arith, low, more, uses-at-most (u.slot + 1) hi us r.1)
]

free-within : (o : Option AnyInstr) → (2 ≤ free_slot o) × (free_slot o < 9)
free-within None = (omega arith, omega arith)
free-within (Some (rv32im i)) = (omega arith, omega arith)
free-within (Some (rv32a i)) = (omega arith, omega arith)

pub step-at-most : (input : List ℕ) (s : State) → length (step_uses input s) ≤ uses_of_step
unfolding step_uses
step-at-most input s =
    let o : Option AnyInstr = decode_any s.version (fetch_word s) in
    omega (arith, free-at-most 2 9 (free_slot o) (instruction_uses input o s) (free-within o).0 (free-within o).1 (step-slots-rise input s).1 (instruction-placed input o s))
