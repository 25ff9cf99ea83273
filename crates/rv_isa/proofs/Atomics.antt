-- Atomic instructions: load-reserved, store-conditional and the memory operations.
use Rattle.std.proofs.Common.{◌≡◌, ℕ, ◌+◌, ◌/◌, ◌%◌, ◌^◌, ◌<◌, Bool, true, false, cond, ◌==◌, List, [], ◌++◌, refl, sym, ◌∙◌, ap, ap₂, subst, arith}
use Rattle.rv_base.specs.declared.record.Seen.{Seen}
use Rattle.rv_base.specs.declared.record.Touch.{Touch}
use Rattle.rv_base.specs.declared.instr.LoadKind.TheVariants as loads
use Rattle.rv_base.specs.declared.instr.AtomicOp.{AtomicOp}
use Rattle.rv_base.specs.declared.instr.AtomicOp.TheVariants as amo
use Rattle.rv_base.specs.declared.instr.Atomic.{Atomic}
use Rattle.rv_spec.specs.Words.{Memory, word}
use Rattle.rv_spec.specs.Arithmetic.{amo_result}
use Rattle.rv_spec.specs.Step.{State, Transition, register, with_register, with_memory, store_word, load_value, advance, stops, fetch_and, load_reserved, atomic_at, execute_atomic}
use Rattle.rv_spec.specs.Cells.{reservation_cell, value}
use Rattle.rv_spec.specs.Visits.{Use, use_of, use_register, where_aligned, aligned_atomic_uses, atomic_uses}
use Rattle.rv_rules.specs.Expected.{Expected, touch, on_register, reads_two, moves, pc_plus_4, atomic_writes, misaligned_kind, expected_atomic}
use Rattle.rv_rules.specs.Agreement.{IsState}
use Rattle.rv_rules.proofs.Lemmas.{word-aligned}
use Rattle.rv_isa.proofs.Uses.{Sees, Follows, made, sees-left, sees-right, joined, goes-on, aligned-follows}
use Rattle.rv_isa.proofs.Registers.{reads-two, operand-first, operand-second, writes-register, register-with}
use Rattle.rv_isa.proofs.Loads.{word-seen, word-made}
use Rattle.rv_isa.proofs.Stores.{word-replaced}
use Rattle.rv_isa.proofs.WordRanges.{IsWord, register-fits, word-fits}
use Rattle.rv_isa.proofs.Results.{amo-fits}

-- the reservation in slot 8
reservation-made : (s t : State) → touch 8 reservation_cell t.reservation ≡ made s t (use_of 8 reservation_cell)
unfolding value
reservation-made s t = refl

loaded-word : (m : Memory) (a : ℕ) → a % 4 ≡ 0 → word m (a / 4) ≡ load_value loads.W m a
unfolding load_value
loaded-word m a aligned = word-aligned m a aligned

lr-at : (v : Seen) (s : State) (rd a : ℕ) (us : List Use) (reads : List Touch) → rd < 32 → IsState s → a / 4 < 2 ^ 30 → ((t : State) → reads ≡ made s t us)
    → Sees v s (us ++ where_aligned 4 a (use_of 6 (a / 4) ++ use_register 7 rd ++ use_of 8 reservation_cell))
    → Follows (moves s.pc 4 a 4 reads (touch 6 (a / 4) v.s6 ++ on_register 7 rd v.s6 ++ touch 8 reservation_cell (a + 1))) s (cond (a % 4 == 0) (load_reserved rd a s) (stops 4))
    (us ++ where_aligned 4 a (use_of 6 (a / 4) ++ use_register 7 rd ++ use_of 8 reservation_cell))
lr-at v s rd a us reads small is low read sees =
    let w : ℕ = load_value loads.W s.memory a in
    let t : State = record (with_register rd w s) { reservation = a + 1; pc = pc_plus_4 s.pc } in
    let vs : List Use = use_of 6 (a / 4) ++ use_register 7 rd in
    let writes : List Touch = touch 6 (a / 4) v.s6 ++ on_register 7 rd v.s6 in
    aligned-follows v s t (a % 4) (pc_plus_4 s.pc) 4 us (vs ++ use_of 8 reservation_cell) reads (writes ++ touch 8 reservation_cell (a + 1)) read
    (λ aligned later.
    let six : v.s6 ≡ word s.memory (a / 4) = word-seen v s (a / 4) (use_register 7 rd) low (sees-left v s vs (use_of 8 reservation_cell) later) in
    let loaded : v.s6 ≡ w = six ∙ loaded-word s.memory a aligned in
    let seven : on_register 7 rd v.s6 ≡ made s t (use_register 7 rd) = writes-register s t rd v.s6 small (λ e. register-with s rd w small is.count e ∙ sym loaded) in
    joined s t vs (use_of 8 reservation_cell) writes (touch 8 reservation_cell (a + 1))
    (joined s t (use_of 6 (a / 4)) (use_register 7 rd) (touch 6 (a / 4) v.s6) (on_register 7 rd v.s6) (word-made s t (a / 4) v.s6 low six) seven) (reservation-made s t))
    (goes-on s t (pc_plus_4 s.pc) refl refl refl) sees

-- the reservation that a store-conditional finds in slot 8
reservation-seen : (v : Seen) (s : State) (us : List Use) → Sees v s (us ++ use_of 8 reservation_cell) → v.s8 ≡ s.reservation
unfolding value
reservation-seen v s us sees = (sees-right v s us (use_of 8 reservation_cell) sees).0

abbrev sc_uses : ℕ → ℕ → Bool → List Use
sc_uses rd a reserved = cond reserved (use_of 6 (a / 4)) [] ++ use_register 7 rd

abbrev sc_writes : ℕ → ℕ → ℕ → Bool → List Touch
sc_writes rd a b reserved = cond reserved (touch 6 (a / 4) b) [] ++ on_register 7 rd (cond reserved 0 1) ++ touch 8 reservation_cell 0

abbrev sc_turn : ℕ → ℕ → ℕ → State → Bool → Transition
sc_turn rd a b s reserved =
    cond reserved (advance (record (with_register rd 0 (with_memory (store_word s.memory a b) s)) { reservation = 0 })) (advance (record (with_register rd 1 s) { reservation = 0 }))

-- a store-conditional, by whether the word is still reserved, and whether slot 8 says so
sc-cases : (v : Seen) (s : State) (rd a b : ℕ) (us : List Use) (reads : List Touch) (says reserved : Bool) → rd < 32 → IsState s → IsWord b → a / 4 < 2 ^ 30 → ((t : State) → reads ≡ made s t us)
    → (Sees v s (sc_uses rd a reserved ++ use_of 8 reservation_cell) → says ≡ reserved)
    → Sees v s (us ++ where_aligned 4 a (sc_uses rd a reserved ++ use_of 8 reservation_cell))
    → Follows (moves s.pc 4 a 5 reads (sc_writes rd a b says)) s (cond (a % 4 == 0) (sc_turn rd a b s reserved) (stops 5)) (us ++ where_aligned 4 a (sc_uses rd a reserved ++ use_of 8 reservation_cell))
sc-cases v s rd a b us reads says true small is fits low read same sees =
    let stored : State = with_memory (store_word s.memory a b) s in
    let t : State = record (with_register rd 0 stored) { reservation = 0; pc = pc_plus_4 s.pc } in
    let vs : List Use = use_of 6 (a / 4) ++ use_register 7 rd in
    aligned-follows v s t (a % 4) (pc_plus_4 s.pc) 5 us (vs ++ use_of 8 reservation_cell) reads (sc_writes rd a b says) read
    (λ aligned later.
    let six : touch 6 (a / 4) b ≡ made s t (use_of 6 (a / 4)) = word-made s t (a / 4) b low (sym (word-replaced s.memory a b aligned fits is.bytes)) in
    let seven : on_register 7 rd 0 ≡ made s t (use_register 7 rd) = writes-register s t rd 0 small (register-with stored rd 0 small is.count) in
    ap (sc_writes rd a b) (same later)
    ∙ joined s t vs (use_of 8 reservation_cell) (touch 6 (a / 4) b ++ on_register 7 rd 0) (touch 8 reservation_cell 0)
    (joined s t (use_of 6 (a / 4)) (use_register 7 rd) (touch 6 (a / 4) b) (on_register 7 rd 0) six seven) (reservation-made s t))
    (goes-on s t (pc_plus_4 s.pc) refl refl refl) sees
sc-cases v s rd a b us reads says false small is fits low read same sees =
    let t : State = record (with_register rd 1 s) { reservation = 0; pc = pc_plus_4 s.pc } in
    aligned-follows v s t (a % 4) (pc_plus_4 s.pc) 5 us (use_register 7 rd ++ use_of 8 reservation_cell) reads (sc_writes rd a b says) read
    (λ aligned later.
    let seven : on_register 7 rd 1 ≡ made s t (use_register 7 rd) = writes-register s t rd 1 small (register-with s rd 1 small is.count) in
    ap (sc_writes rd a b) (same later) ∙ joined s t (use_register 7 rd) (use_of 8 reservation_cell) (on_register 7 rd 1) (touch 8 reservation_cell 0) seven (reservation-made s t))
    (goes-on s t (pc_plus_4 s.pc) refl refl refl) sees

amo-at : (op : AtomicOp) (v : Seen) (s : State) (rd a b : ℕ) (us : List Use) (reads : List Touch) → rd < 32 → IsState s → IsWord b → a / 4 < 2 ^ 30 → ((t : State) → reads ≡ made s t us)
    → Sees v s (us ++ where_aligned 4 a (use_of 6 (a / 4) ++ use_register 7 rd))
    → Follows (moves s.pc 4 a 5 reads (touch 6 (a / 4) (amo_result op v.s6 b) ++ on_register 7 rd v.s6)) s (cond (a % 4 == 0) (fetch_and op rd a b s) (stops 5))
    (us ++ where_aligned 4 a (use_of 6 (a / 4) ++ use_register 7 rd))
amo-at op v s rd a b us reads small is fits low read sees =
    let old : ℕ = load_value loads.W s.memory a in
    let stored : State = with_memory (store_word s.memory a (amo_result op old b)) s in
    let t : State = record (with_register rd old stored) { pc = pc_plus_4 s.pc } in
    aligned-follows v s t (a % 4) (pc_plus_4 s.pc) 5 us (use_of 6 (a / 4) ++ use_register 7 rd) reads (touch 6 (a / 4) (amo_result op v.s6 b) ++ on_register 7 rd v.s6) read
    (λ aligned later.
    let loaded : word s.memory (a / 4) ≡ old = loaded-word s.memory a aligned in
    let six : v.s6 ≡ old = word-seen v s (a / 4) (use_register 7 rd) low later ∙ loaded in
    let result : IsWord (amo_result op old b) = amo-fits op old b (subst IsWord loaded (word-fits s.memory (a / 4) is.bytes)) fits in
    let new : amo_result op v.s6 b ≡ word t.memory (a / 4) = ap (λ x. amo_result op x b) six ∙ sym (word-replaced s.memory a (amo_result op old b) aligned result is.bytes) in
    joined s t (use_of 6 (a / 4)) (use_register 7 rd) (touch 6 (a / 4) (amo_result op v.s6 b)) (on_register 7 rd v.s6) (word-made s t (a / 4) (amo_result op v.s6 b) low new)
    (writes-register s t rd v.s6 small (λ e. register-with stored rd old small is.count e ∙ sym six)))
    (goes-on s t (pc_plus_4 s.pc) refl refl refl) sees

-- an atomic instruction at an address with an operand
atomic-follows-at : (op : AtomicOp) (v : Seen) (s : State) (rd a b : ℕ) (us : List Use) (reads : List Touch) → rd < 32 → IsState s → IsWord b → a / 4 < 2 ^ 30 → ((t : State) → reads ≡ made s t us)
    → Sees v s (us ++ where_aligned 4 a (aligned_atomic_uses op rd a s))
    → Follows (moves s.pc 4 a (misaligned_kind op) reads (atomic_writes op rd a b v)) s (atomic_at op rd a b s) (us ++ where_aligned 4 a (aligned_atomic_uses op rd a s))
atomic-follows-at amo.Lr v s rd a b us reads small is fits low read sees = lr-at v s rd a us reads small is low read sees
atomic-follows-at amo.Sc v s rd a b us reads small is fits low read sees =
    sc-cases v s rd a b us reads (v.s8 == a + 1) (s.reservation == a + 1) small is fits low read
    (λ later. ap (λ r. r == a + 1) (reservation-seen v s (sc_uses rd a (s.reservation == a + 1)) later)) sees
atomic-follows-at op v s rd a b us reads small is fits low read sees = amo-at op v s rd a b us reads small is fits low read sees

pub atomic-follows : (s : State) (v : Seen) (i : Atomic) → i.rd < 32 → i.rs1 < 32 → i.rs2 < 32 → IsState s → Sees v s (atomic_uses i s)
    → Follows (expected_atomic s.pc i v) s (execute_atomic i s) (atomic_uses i s)
unfolding expected_atomic execute_atomic atomic_uses
atomic-follows s v i small h1 h2 is sees =
    let us : List Use = use_register 2 i.rs1 ++ use_register 3 i.rs2 in
    let a : ℕ = register s i.rs1 in
    let reads : Sees v s us = sees-left v s us (where_aligned 4 a (aligned_atomic_uses i.op i.rd a s)) sees in
    let by : ℕ → ℕ → Expected = λ (x y : ℕ). moves s.pc 4 x (misaligned_kind i.op) (reads_two i.rs1 i.rs2 v) (atomic_writes i.op i.rd x y v) in
    let low : a / 4 < 2 ^ 30 = (let fits : a < 2 ^ 32 = register-fits s i.rs1 is in omega arith) in
    subst (λ (e : Expected). Follows e s (execute_atomic i s) (atomic_uses i s))
    (sym (ap₂ by (operand-first v s i.rs1 (use_register 3 i.rs2) h1 reads) (operand-second v s i.rs1 i.rs2 h2 reads)))
    (atomic-follows-at i.op v s i.rd a (register s i.rs2) us (reads_two i.rs1 i.rs2 v) small is (register-fits s i.rs2 is) low (λ t. reads-two v s t i.rs1 i.rs2 reads) sees)
