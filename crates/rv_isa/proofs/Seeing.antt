-- What the cells show a step is what the state holds.
use Rattle.std.proofs.Common.{◌≡◌, ◌⊎◌, ℕ, zero, suc, ◌+◌, ◌-◌, ◌^◌, ◌<◌, ◌≤◌, Bool, true, false, cond, ◌==◌, ◌&&◌, ◌||◌, nat_lt, List, [], ◌∷◌, slice_index, refl, sym, ◌∙◌, ap, subst, inl, inr, arith, IsTrue}
use Rattle.std.specs.List.{AllByRecursion}
use Rattle.std.proofs.lemmas.Bool.{eqb-false, eq-eqb, lt-ltb, le-ltb, cases_lt}
use Rattle.rv_base.specs.declared.record.Seen.{Seen}
use Rattle.rv_spec.specs.Step.{State, register}
use Rattle.rv_spec.specs.Cells.{is_cell, register_cell, reservation_cell, value}
use Rattle.rv_rules.specs.Expected.{operand}
use Rattle.rv_spec.specs.Visits.{Use}
use Rattle.rv_isa.specs.declared.operands.Operands.{Operands}
use Rattle.rv_isa.specs.Operands.{word_at, cell_in, IsCovered}
use Rattle.rv_isa.specs.Sees.{seen_in, Sees}
use Rattle.rv_isa.proofs.Registers.{value-register}
use Rattle.rv_isa.proofs.Placed.{IsPlaced, ArePlaced}

-- ---- which numbers are cells

pub word-cell : (c : ℕ) → c < 2 ^ 30 → IsTrue (is_cell 2 c)
word-cell c low = ap (λ b. b || (nat_lt (2 ^ 30) c && nat_lt c (2 ^ 30 + 32)) || (c == reservation_cell)) (lt-ltb c (2 ^ 30) low)

pub high-cell : (c : ℕ) → 2 ^ 30 < c → c < 2 ^ 30 + 33 → IsTrue (is_cell 2 c)
high-cell c above below = go (cases_lt c (2 ^ 30 + 32))
  where
    no-word : nat_lt c (2 ^ 30) ≡ false
    no-word = le-ltb c (2 ^ 30) (omega arith)

    not-zero : nat_lt (2 ^ 30) c ≡ true
    not-zero = lt-ltb (2 ^ 30) c above

    go : (c < 2 ^ 30 + 32) ⊎ (2 ^ 30 + 32 ≤ c) → IsTrue (is_cell 2 c)
    go (inl low) = let register : nat_lt c (2 ^ 30 + 32) ≡ true = lt-ltb c (2 ^ 30 + 32) low in λ i. no-word i || (not-zero i && register i) || (c == reservation_cell)
    go (inr high) =
        let none : nat_lt c (2 ^ 30 + 32) ≡ false = le-ltb c (2 ^ 30 + 32) high in
        let last : (c == reservation_cell) ≡ true = eq-eqb c reservation_cell (omega arith) in
        λ i. no-word i || (not-zero i && none i) || last i

abbrev HoldsIn : (ℕ → ℕ) → State → Type 0
HoldsIn f s = (c : ℕ) → IsTrue (is_cell 2 c) → f c ≡ value s c

-- ---- each slot

-- the register cell r, where it is a cell
abbrev pub Reads : State → ℕ → ℕ → Type 0
Reads s v cell = 2 ^ 30 < cell → cell < 2 ^ 30 + 33 → v ≡ value s cell

pub reads-held : (f : ℕ → ℕ) (s : State) (v cell : ℕ) → HoldsIn f s → v ≡ f cell → Reads s v cell
reads-held f s v cell holds is above below = is ∙ holds cell (high-cell cell above below)

pub record ShowsSlots (o : Operands) (s : State) (v : Seen) : Type 0 where
  pub two : Reads s v.s2 (register_cell o.rs1)
  pub three : Reads s v.s3 (register_cell o.rs2)
  pub four : Reads s v.s4 (register_cell 11)
  pub five : Reads s v.s5 (register_cell 12)
  pub six : word_at s o.address < 2 ^ 30 → v.s6 ≡ value s (word_at s o.address)
  pub seven : Reads s v.s7 (register_cell o.rd)
  pub eight : Reads s v.s8 reservation_cell

slot-shown : (o : Operands) (s : State) (v : Seen) (j : ℕ) → ShowsSlots o s v → 2 ≤ j → j < 9 → (j ≡ 6 → cell_in o s j < 2 ^ 30) → (¬ (j ≡ 6) → (2 ^ 30 < cell_in o s j) × (cell_in o s j < 2 ^ 30 + 33)) → seen_in v j ≡ value s (cell_in o s j)
slot-shown o s v zero h lo hi word high = absurd (omega arith)
slot-shown o s v (suc zero) h lo hi word high = absurd (omega arith)
slot-shown o s v (suc (suc zero)) h lo hi word high = let b = high (λ e. absurd (omega arith)) in h.two b.0 b.1
slot-shown o s v (suc (suc (suc zero))) h lo hi word high = let b = high (λ e. absurd (omega arith)) in h.three b.0 b.1
slot-shown o s v (suc (suc (suc (suc zero)))) h lo hi word high = let b = high (λ e. absurd (omega arith)) in h.four b.0 b.1
slot-shown o s v (suc (suc (suc (suc (suc zero))))) h lo hi word high = let b = high (λ e. absurd (omega arith)) in h.five b.0 b.1
slot-shown o s v (suc (suc (suc (suc (suc (suc zero)))))) h lo hi word high = h.six (word refl)
slot-shown o s v (suc (suc (suc (suc (suc (suc (suc zero))))))) h lo hi word high = let b = high (λ e. absurd (omega arith)) in h.seven b.0 b.1
slot-shown o s v (suc (suc (suc (suc (suc (suc (suc (suc zero)))))))) h lo hi word high = let b = high (λ e. absurd (omega arith)) in h.eight b.0 b.1
slot-shown o s v (suc (suc (suc (suc (suc (suc (suc (suc (suc j))))))))) h lo hi word high = absurd (omega arith)

pub sees-covered : (o : Operands) (s : State) (v : Seen) (us : List Use) → ShowsSlots o s v → AllByRecursion (IsCovered o s) us → ArePlaced s.version us → Sees v s us
sees-covered o s v [] h k placed = tt
sees-covered o s v (u ∷ us) h k placed =
    let is : IsPlaced s.version u = placed.0 in (
      slot-shown o s v u.slot h is.0 is.1 (λ e. subst (λ c. c < 2 ^ 30) k.0 (is.2 e)) (λ d. subst (λ c. (2 ^ 30 < c) × (c < 2 ^ 30 + 33)) k.0 (is.3 d))
          ∙ ap (value s) (sym k.0),
      sees-covered o s v us h k.1 placed.1,
    )

-- ---- the word at an address

pub base-held : (f : ℕ → ℕ) (s : State) (r : ℕ) → r < 32 → HoldsIn f s → operand r (f (2 ^ 30 + r)) ≡ register s r
base-held f s r small holds = go (r == 0) refl
  where
    go : (b : Bool) → (r == 0) ≡ b → cond b 0 (f (2 ^ 30 + r)) ≡ cond b 0 (slice_index s.registers (r - 1))
    go true e = refl
    go false e =
        let some : ¬ (r ≡ 0) = eqb-false r 0 e in
        holds (2 ^ 30 + r) (high-cell (2 ^ 30 + r) (omega arith) (omega arith)) ∙ value-register s r small ∙ ap (λ b. cond b 0 (slice_index s.registers (r - 1))) e
