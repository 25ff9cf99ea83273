-- Registers in slots: 2 to 5 are read, 7 is written.
use Rattle.std.proofs.Common.{◌≡◌, ◌≢◌, ℕ, ◌+◌, ◌-◌, ◌^◌, ◌<◌, Bool, true, false, cond, ◌==◌, nat_lt, nat_le, List, [], ◌++◌, length, slice_index, refl, sym, ◌∙◌, ap, arith, get_or-set_same}
use Rattle.std.proofs.lemmas.Bool.{eqb-false, le-ltb, ne_eqb}
use Rattle.rv_base.specs.declared.record.Seen.{Seen}
use Rattle.rv_spec.specs.Step.{State, register, with_register}
use Rattle.rv_spec.specs.Cells.{register_cell, value}
use Rattle.rv_spec.specs.Visits.{Use, use_of, use_register}
use Rattle.rv_rules.specs.Expected.{touch, on_register, operand, reads_two}
use Rattle.rv_isa.proofs.Uses.{seen_in, Sees, made, sees-left, sees-right, joined}

pub value-register : (s : State) (r : ℕ) → r < 32 → value s (register_cell r) ≡ register s r
unfolding value
value-register s r h =
    let above : nat_lt (2 ^ 30 + r) (2 ^ 30) ≡ false = le-ltb (2 ^ 30 + r) (2 ^ 30) (omega arith) in
    let other : (2 ^ 30 + r == 2 ^ 30 + 32) ≡ false = ne_eqb (2 ^ 30 + r) (2 ^ 30 + 32) (λ e. absurd (omega arith)) in
    let back : 2 ^ 30 + r - 2 ^ 30 ≡ r = omega arith in
    rw (above, other, back) refl

pub reads-register : (v : Seen) (s t : State) (j r : ℕ) → nat_le j 5 ≡ true → Sees v s (use_register j r) → on_register j r (seen_in v j) ≡ made s t (use_register j r)
reads-register v s t j r early sees = go (r == 0) sees
  where
    go : (b : Bool) → Sees v s (cond b [] (use_of j (register_cell r))) → cond b [] (touch j (register_cell r) (seen_in v j)) ≡ made s t (cond b [] (use_of j (register_cell r)))
    go true h = refl
    go false h = ap (touch j (register_cell r)) (h.0 ∙ sym (ap (λ b. cond b (value s (register_cell r)) (value t (register_cell r))) early))

pub reads-two : (v : Seen) (s t : State) (q r : ℕ) → Sees v s (use_register 2 q ++ use_register 3 r) → reads_two q r v ≡ made s t (use_register 2 q ++ use_register 3 r)
reads-two v s t q r sees =
    let first = reads-register v s t 2 q refl (sees-left v s (use_register 2 q) (use_register 3 r) sees) in
    let second = reads-register v s t 3 r refl (sees-right v s (use_register 2 q) (use_register 3 r) sees) in
    joined s t (use_register 2 q) (use_register 3 r) (on_register 2 q v.s2) (on_register 3 r v.s3) first second

-- what is read is the register's value
pub operand-is : (v : Seen) (s : State) (j r : ℕ) → r < 32 → Sees v s (use_register j r) → operand r (seen_in v j) ≡ register s r
operand-is v s j r small sees = go (r == 0) refl sees
  where
    go : (b : Bool) → (r == 0) ≡ b → Sees v s (cond b [] (use_of j (register_cell r))) → cond b 0 (seen_in v j) ≡ cond b 0 (slice_index s.registers (r - 1))
    go true e h = refl
    go false e h = h.0 ∙ value-register s r small ∙ ap (λ b. cond b 0 (slice_index s.registers (r - 1))) e

pub operand-first : (v : Seen) (s : State) (q : ℕ) (us : List Use) → q < 32 → Sees v s (use_register 2 q ++ us) → operand q v.s2 ≡ register s q
operand-first v s q us small sees = operand-is v s 2 q small (sees-left v s (use_register 2 q) us sees)

pub operand-second : (v : Seen) (s : State) (q r : ℕ) → r < 32 → Sees v s (use_register 2 q ++ use_register 3 r) → operand r v.s3 ≡ register s r
operand-second v s q r small sees = operand-is v s 3 r small (sees-right v s (use_register 2 q) (use_register 3 r) sees)

-- a register that is written
pub writes-register : (s t : State) (r w : ℕ) → r < 32 → ((r == 0) ≡ false → register t r ≡ w) → on_register 7 r w ≡ made s t (use_register 7 r)
writes-register s t r w small is = go (r == 0) refl
  where
    go : (b : Bool) → (r == 0) ≡ b → cond b [] (touch 7 (register_cell r) w) ≡ made s t (cond b [] (use_of 7 (register_cell r)))
    go true e = refl
    go false e = ap (touch 7 (register_cell r)) (sym (value-register t r small ∙ is e))

pub register-with : (s : State) (r w : ℕ) → r < 32 → length s.registers ≡ 31 → (r == 0) ≡ false → register (with_register r w s) r ≡ w
register-with s r w small count e =
    let bound : r - 1 < length s.registers = (let some : r ≢ 0 = eqb-false r 0 e in omega arith) in
    rw e (get_or-set_same s.registers (r - 1) w 0 bound)
