-- Loads, and the word of memory in slot 6.
use Rattle.std.proofs.Common.{◌≡◌, ℕ, ℤ, ◌+◌, ◌/◌, ◌%◌, ◌^◌, ◌<◌, true, cond, ◌==◌, nat_lt, List, ◌++◌, refl, sym, ◌∙◌, ap, subst, arith, mod-lt, lit<}
use Rattle.std.specs.Int.{w32, cast_unsigned}
use Rattle.std.proofs.lemmas.Bool.{lt-ltb}
use Rattle.rv_base.specs.declared.record.Seen.{Seen}
use Rattle.rv_base.specs.declared.record.Touch.{Touch}
use Rattle.rv_base.specs.declared.instr.LoadKind.{LoadKind}
use Rattle.rv_base.specs.declared.instr.Instr.TheVariants.{Load}
use Rattle.rv_spec.specs.Words.{word, plus}
use Rattle.rv_spec.specs.Step.{State, register, with_register, load_width, load_value, advance, stops, execute}
use Rattle.rv_spec.specs.Cells.{value}
use Rattle.rv_spec.specs.Visits.{Use, use_of, use_register, where_aligned, uses}
use Rattle.rv_rules.specs.Expected.{Expected, touch, on_register, reads_one, moves, pc_plus_4, extract, expected_instr}
use Rattle.rv_rules.specs.Agreement.{IsState}
use Rattle.rv_rules.proofs.Lemmas.{extract-loaded}
use Rattle.rv_isa.proofs.Uses.{Sees, Follows, made, sees-left, joined, goes-on, aligned-follows}
use Rattle.rv_isa.proofs.Registers.{reads-register, operand-first, writes-register, register-with}

pub value-word : (s : State) (c : ℕ) → c < 2 ^ 30 → value s c ≡ word s.memory c
unfolding value
value-word s c h = let low : nat_lt c (2 ^ 30) ≡ true = lt-ltb c (2 ^ 30) h in rw low refl

-- an address has a word
pub word-of-address : (a : ℕ) (z : ℤ) → plus a z / 4 < 2 ^ 30
word-of-address a z = let small : plus a z < 2 ^ 32 = mod-lt (a + cast_unsigned w32 z) (lit< tt) in omega arith

-- the word in slot 6, before and after the step
pub word-seen : (v : Seen) (s : State) (c : ℕ) (us : List Use) → c < 2 ^ 30 → Sees v s (use_of 6 c ++ us) → v.s6 ≡ word s.memory c
word-seen v s c us small sees = sees.0 ∙ value-word s c small

pub word-made : (s t : State) (c new : ℕ) → c < 2 ^ 30 → new ≡ word t.memory c → touch 6 c new ≡ made s t (use_of 6 c)
word-made s t c new small is = ap (touch 6 c) (is ∙ sym (value-word t c small))

load-at : (v : Seen) (s : State) (kind : LoadKind) (rd a : ℕ) (us : List Use) (reads : List Touch) → rd < 32 → a / 4 < 2 ^ 30 → IsState s → ((t : State) → reads ≡ made s t us)
    → Sees v s (us ++ where_aligned (load_width kind) a (use_of 6 (a / 4) ++ use_register 7 rd))
    → Follows (moves s.pc (load_width kind) a 4 reads (touch 6 (a / 4) v.s6 ++ on_register 7 rd (extract kind v.s6 (a % 4)))) s
    (cond (a % load_width kind == 0) (advance (with_register rd (load_value kind s.memory a) s)) (stops 4))
    (us ++ where_aligned (load_width kind) a (use_of 6 (a / 4) ++ use_register 7 rd))
load-at v s kind rd a us reads small low is read sees =
    let w : ℕ = load_value kind s.memory a in
    let t : State = record (with_register rd w s) { pc = pc_plus_4 s.pc } in
    aligned-follows v s t (a % load_width kind) (pc_plus_4 s.pc) 4 us (use_of 6 (a / 4) ++ use_register 7 rd) reads (touch 6 (a / 4) v.s6 ++ on_register 7 rd (extract kind v.s6 (a % 4))) read
    (λ aligned later.
    let six : v.s6 ≡ word s.memory (a / 4) = word-seen v s (a / 4) (use_register 7 rd) low later in
    let result : extract kind v.s6 (a % 4) ≡ w = ap (λ x. extract kind x (a % 4)) six ∙ extract-loaded kind s.memory a aligned is.bytes in
    joined s t (use_of 6 (a / 4)) (use_register 7 rd) (touch 6 (a / 4) v.s6) (on_register 7 rd (extract kind v.s6 (a % 4))) (word-made s t (a / 4) v.s6 low six)
    (writes-register s t rd (extract kind v.s6 (a % 4)) small (λ e. register-with s rd w small is.count e ∙ sym result)))
    (goes-on s t (pc_plus_4 s.pc) refl refl refl) sees

pub load-follows : (input : List ℕ) (s : State) (v : Seen) (kind : LoadKind) (rd rs1 : ℕ) (imm : ℤ) → rd < 32 → rs1 < 32 → IsState s → Sees v s (uses input (Load kind rd rs1 imm) s)
    → Follows (expected_instr input s.position s.pc (Load kind rd rs1 imm) v) s (execute input (Load kind rd rs1 imm) s) (uses input (Load kind rd rs1 imm) s)
unfolding expected_instr uses execute
load-follows input s v kind rd rs1 imm small h1 is sees =
    let a : ℕ = plus (register s rs1) imm in
    let later : List Use = where_aligned (load_width kind) a (use_of 6 (a / 4) ++ use_register 7 rd) in
    let first : Sees v s (use_register 2 rs1) = sees-left v s (use_register 2 rs1) later sees in
    let by : ℕ → Expected = λ (x : ℕ). moves s.pc (load_width kind) (plus x imm) 4 (reads_one rs1 v) (touch 6 (plus x imm / 4) v.s6 ++ on_register 7 rd (extract kind v.s6 (plus x imm % 4))) in
    subst (λ x. Follows (by x) s (execute input (Load kind rd rs1 imm) s) (uses input (Load kind rd rs1 imm) s)) (sym (operand-first v s rs1 later h1 sees))
    (load-at v s kind rd a (use_register 2 rs1) (reads_one rs1 v) small (word-of-address (register s rs1) imm) is (λ t. reads-register v s t 2 rs1 refl first) sees)
