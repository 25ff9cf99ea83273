-- Stores, and the word of memory that they leave.
use Rattle.std.proofs.Common.{◌≡◌, ℕ, ℤ, ◌+◌, ◌/◌, ◌%◌, ◌^◌, ◌<◌, ◌≤◌, cond, ◌==◌, List, [], ◌++◌, length, take, drop, refl, sym, ◌∙◌, ap, ap₂, subst, arith}
use Rattle.std.specs.Int.{w32, from_le_bytes, to_le_bytes}
use Rattle.std.proofs.lemmas.Nat.{from_le_bytes-to_le_bytes_4}
use Rattle.rv_base.specs.declared.record.Seen.{Seen}
use Rattle.rv_base.specs.declared.record.Touch.{Touch}
use Rattle.rv_base.specs.declared.instr.StoreKind.{StoreKind}
use Rattle.rv_base.specs.declared.instr.StoreKind.TheVariants as stores
use Rattle.rv_base.specs.declared.instr.Instr.TheVariants.{Store}
use Rattle.rv_spec.specs.Words.{Memory, byte, word, plus}
use Rattle.rv_spec.specs.Step.{State, register, with_memory, store_width, store_value, store_word, advance, stops, execute}
use Rattle.rv_spec.specs.Visits.{Use, use_of, use_register, where_aligned, uses}
use Rattle.rv_rules.specs.Expected.{Expected, touch, reads_two, moves, pc_plus_4, merge, splice, expected_instr}
use Rattle.rv_rules.specs.Agreement.{IsState}
use Rattle.rv_rules.proofs.Lemmas.{word-stored}
use Rattle.rv_isa.proofs.Uses.{Sees, Follows, made, sees-left, goes-on, aligned-follows}
use Rattle.rv_isa.proofs.Registers.{reads-two, operand-first, operand-second}
use Rattle.rv_isa.proofs.Loads.{word-of-address, word-seen, word-made}

-- bytes at an aligned address stay within the word
pub fits-word : (kind : StoreKind) (a v : ℕ) → a % store_width kind ≡ 0 → a % 4 + length (take (store_width kind) (to_le_bytes w32 v)) ≤ 4
fits-word stores.B a v e = omega arith
fits-word stores.H a v e = omega arith
fits-word stores.W a v e = omega arith

pub merge-stored : (kind : StoreKind) (m : Memory) (a v : ℕ) → a % store_width kind ≡ 0 → ((x : ℕ) → byte m x < 2 ^ 8) → word (store_value kind m a v) (a / 4) ≡ merge kind (word m (a / 4)) (a % 4) v
unfolding store_value
merge-stored kind m a v e fits = word-stored m a (take (store_width kind) (to_le_bytes w32 v)) (fits-word kind a v e) fits

-- a word that is stored whole
pub word-replaced : (m : Memory) (a v : ℕ) → a % 4 ≡ 0 → v < 2 ^ 32 → ((x : ℕ) → byte m x < 2 ^ 8) → word (store_word m a v) (a / 4) ≡ v
unfolding splice
word-replaced m a v e small fits =
    word-stored m a (to_le_bytes w32 v) (omega arith) fits
    ∙ ap (λ k. from_le_bytes w32 (take k (to_le_bytes w32 (word m (a / 4))) ++ to_le_bytes w32 v ++ drop (k + 4) (to_le_bytes w32 (word m (a / 4))))) e
    ∙ from_le_bytes-to_le_bytes_4 v small

store-at : (v : Seen) (s : State) (kind : StoreKind) (a x : ℕ) (us : List Use) (reads : List Touch) → a / 4 < 2 ^ 30 → IsState s → ((t : State) → reads ≡ made s t us)
    → Sees v s (us ++ where_aligned (store_width kind) a (use_of 6 (a / 4)))
    → Follows (moves s.pc (store_width kind) a 5 reads (touch 6 (a / 4) (merge kind v.s6 (a % 4) x))) s
    (cond (a % store_width kind == 0) (advance (with_memory (store_value kind s.memory a x) s)) (stops 5))
    (us ++ where_aligned (store_width kind) a (use_of 6 (a / 4)))
store-at v s kind a x us reads low is read sees =
    let t : State = record s { memory = store_value kind s.memory a x; pc = pc_plus_4 s.pc } in
    aligned-follows v s t (a % store_width kind) (pc_plus_4 s.pc) 5 us (use_of 6 (a / 4)) reads (touch 6 (a / 4) (merge kind v.s6 (a % 4) x)) read
    (λ aligned later.
    let six : v.s6 ≡ word s.memory (a / 4) = word-seen v s (a / 4) [] low later in
    word-made s t (a / 4) (merge kind v.s6 (a % 4) x) low (ap (λ w. merge kind w (a % 4) x) six ∙ sym (merge-stored kind s.memory a x aligned is.bytes)))
    (goes-on s t (pc_plus_4 s.pc) refl refl refl) sees

pub store-follows : (input : List ℕ) (s : State) (v : Seen) (kind : StoreKind) (rs1 rs2 : ℕ) (imm : ℤ) → rs1 < 32 → rs2 < 32 → IsState s → Sees v s (uses input (Store kind rs1 rs2 imm) s)
    → Follows (expected_instr input s.position s.pc (Store kind rs1 rs2 imm) v) s (execute input (Store kind rs1 rs2 imm) s) (uses input (Store kind rs1 rs2 imm) s)
unfolding expected_instr uses execute
store-follows input s v kind rs1 rs2 imm h1 h2 is sees =
    let us : List Use = use_register 2 rs1 ++ use_register 3 rs2 in
    let a : ℕ = plus (register s rs1) imm in
    let reads : Sees v s us = sees-left v s us (where_aligned (store_width kind) a (use_of 6 (a / 4))) sees in
    let by : ℕ → ℕ → Expected = λ (x y : ℕ). moves s.pc (store_width kind) (plus x imm) 5 (reads_two rs1 rs2 v) (touch 6 (plus x imm / 4) (merge kind v.s6 (plus x imm % 4) y)) in
    subst (λ (e : Expected). Follows e s (execute input (Store kind rs1 rs2 imm) s) (uses input (Store kind rs1 rs2 imm) s))
    (sym (ap₂ by (operand-first v s rs1 (use_register 3 rs2) h1 reads) (operand-second v s rs1 rs2 h2 reads)))
    (store-at v s kind a (register s rs2) us (reads_two rs1 rs2 v) (word-of-address (register s rs1) imm) is (λ t. reads-two v s t rs1 rs2 reads) sees)
