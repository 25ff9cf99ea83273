-- The instructions around the body: what begins the program, a round of the loop, and the exit.
use Rattle.std.proofs.Common.{◌≡◌, ℕ, zero, suc, ◌+◌, ◌-◌, ◌*◌, ◌%◌, ◌^◌, ◌<◌, ◌≤◌, ℤ, pos, neg_ℤ, cond, not, ◌||◌, ◌==◌, List, [], ◌∷◌, ◌++◌, length, set, refl, ◌∙◌, ap, subst, arith, length-append, length-set, get_or-set_same, get_or-set_other}
use Rattle.std.specs.Int.{w32, cast_unsigned}
use Rattle.std.proofs.lemmas.Bool.{eq-eqb, ne_eqb}
use Rattle.rv_base.specs.declared.instr.Op.TheVariants as op
use Rattle.rv_base.specs.declared.instr.Cond.TheVariants as condition
use Rattle.rv_base.specs.declared.instr.Instr.{Instr}
use Rattle.rv_base.specs.declared.instr.Instr.TheVariants as instr
use Rattle.rv_spec.specs.Words.{Memory, byte, plus}
use Rattle.rv_spec.specs.Arithmetic.{compute, taken}
use Rattle.rv_spec.specs.Step.{State, Next, Ends, register, with_register, advance, jump, exits, stops, read_call, write_call, return_in_a0, environment_call, execute, step}
use Rattle.rv_gen.specs.Programs.{li, code_start, data_base, front, back}
use Rattle.rv_gen.specs.Runs.{success}
use Rattle.rv_gen.proofs.Drawn.{all-append}
use Rattle.rv_gen.proofs.Harmless.{AreHarmless, IsHarmless}
use Rattle.rv_gen.proofs.Between.{data_start, Between, Fetches, CodeAt, fetched, step-is, base-set, count-set, advances, counter-moves}
use Rattle.rv_gen.proofs.Ending.{EndsWithin, ends-now, step-before, within-more, row-ends}

-- the state at the next instruction
abbrev pub ahead : State → State
ahead s = record s { pc = (s.pc + 4) % 2 ^ 32 }

module _ (input : List ℕ) (m : Memory) where
  -- ---- single instructions

  -- a register takes a small number
  li-steps : (k r n : ℕ) (s : State) → Fetches m k (li r (pos n)) → n < 2 ^ 32 → s.pc ≡ code_start + 4 * k → ((a : ℕ) → code_start ≤ a → a < data_start → byte s.memory a ≡ byte m a)
      → step input s ≡ Next (ahead (with_register r n s))
  unfolding execute compute
  li-steps k r n s f small pc code =
      let sum : (0 + n) % 2 ^ 32 ≡ n = omega arith in
      fetched input m k (li r (pos n)) s f pc code ∙ ap (λ v. Next (ahead (with_register r v s))) sum

  -- ---- the exit

  exits-with : (s : State) → register s 17 ≡ 93 → register s 10 ≡ 0 → environment_call input s ≡ Ends success
  unfolding environment_call
  exits-with s number code =
      ap (λ n. cond (n == 93 || n == 94) (exits (register s 10)) (cond (register s 17 == 63) (read_call input s) (cond (register s 17 == 64) (write_call s) (return_in_a0 0xFFFFFFDA s)))) number
      ∙ ap exits code

  exit-ends : (k : ℕ) (s : State) → CodeAt m k (li 10 (pos 0) ∷ li 17 (pos 93) ∷ instr.Ecall ∷ []) → Between m data_start 0 k s → EndsWithin input 2 s
  unfolding execute
  exit-ends k s c b =
      let below = c.1.1.0.below in
      let many = b.many in
      let pc = b.pc in
      let t : State = ahead (with_register 10 0 s) in
      let u : State = ahead (with_register 17 93 t) in
      let first : step input s ≡ Next t = li-steps k 10 0 s c.0 (omega arith) b.pc b.code in
      let second : step input t ≡ Next u = li-steps (suc k) 17 93 t c.1.0 (omega arith) (omega arith) b.code in
      let third : step input u ≡ execute input instr.Ecall u = fetched input m (suc (suc k)) instr.Ecall u c.1.1.0 (omega arith) b.code in
      let as_many : length (set s.registers 9 0) ≡ 31 = length-set s.registers 9 0 ∙ b.many in
      let number : register u 17 ≡ 93 = get_or-set_same (set s.registers 9 0) 16 93 0 (omega arith) in
      let code : register u 10 ≡ 0 = get_or-set_other (set s.registers 9 0) 16 9 93 0 (λ e. omega arith) ∙ get_or-set_same s.registers 9 0 0 (omega arith) in
      step-before input 1 s t first (step-before input 0 t u second (ends-now input u (third ∙ exits-with u number code)))

  -- ---- a round

  abbrev down : Instr
  down = instr.OpImm op.Add 9 9 (neg_ℤ (pos 1))

  counts-down : (count k : ℕ) (s : State) → Fetches m k down → suc count < 2 ^ 32 → Between m data_start (suc count) k s → step input s ≡ Next (ahead (with_register 9 count s))
  unfolding execute compute
  counts-down count k s f small b =
      let counted = b.counted in
      let less : (register s 9 + (2 ^ 32 - 1)) % 2 ^ 32 ≡ count = omega arith in
      step-is input m data_start (suc count) k down s f b ∙ ap (λ v. Next (ahead (with_register 9 v s))) less

  negative : (n : ℕ) → 0 < n → cast_unsigned w32 (neg_ℤ (pos n)) ≡ 2 ^ 32 - n
  negative zero h = absurd (omega arith)
  negative (suc n) h = refl

  abbrev again : ℕ → Instr
  again n = instr.Branch condition.Ne 9 0 (neg_ℤ (pos (4 * (n + 2))))

  goes-past : (n k : ℕ) (s : State) → Fetches m k (again n) → Between m data_start 0 k s → step input s ≡ Next (ahead s)
  unfolding execute taken
  goes-past n k s f b =
      step-is input m data_start 0 k (again n) s f b
      ∙ ap (λ c. cond (not (c == 0)) (jump (plus s.pc (neg_ℤ (pos (4 * (n + 2))))) s) (advance s)) b.counted

  goes-back : (n k count : ℕ) (s : State) → Fetches m (k + n + 2) (again n) → Between m data_start (suc count) (k + n + 2) s → step input s ≡ Next (record s { pc = code_start + 4 * k })
  unfolding execute taken
  goes-back n k count s f b =
      let pc = b.pc in
      let below = f.below in
      let off : ℤ = neg_ℤ (pos (4 * (n + 2))) in
      let distance : cast_unsigned w32 off ≡ 2 ^ 32 - 4 * (n + 2) = negative (4 * (n + 2)) (omega arith) in
      let target : plus s.pc off ≡ code_start + 4 * k = ap (λ z. (s.pc + z) % 2 ^ 32) distance ∙ omega arith in
      let aligned : (code_start + 4 * k) % 4 ≡ 0 = omega arith in
      step-is input m data_start (suc count) (k + n + 2) (again n) s f b
      ∙ ap (λ c. cond (not (c == 0)) (jump (plus s.pc off) s) (advance s)) b.counted
      ∙ ap (λ q. cond (not q) (jump (plus s.pc off) s) (advance s)) (ne_eqb (suc count) 0 (λ e. omega arith))
      ∙ ap (λ a. jump a s) target
      ∙ ap (λ p. cond p (Next (record s { pc = code_start + 4 * k })) (stops 3)) (eq-eqb ((code_start + 4 * k) % 4) 0 aligned)

  -- the steps that go on from the count on, where so many rounds come behind the round and each has n instructions
  abbrev pub rounds_steps : ℕ → ℕ → ℕ
  rounds_steps n zero = 4
  rounds_steps n (suc count) = 3 + n + rounds_steps n count

  pub rounds-few : (n count : ℕ) → n ≤ 160 → rounds_steps n count ≤ 4 + 163 * count
  rounds-few n zero h = omega arith
  rounds-few n (suc count) h = (let before = rounds-few n count h in omega arith)

  -- the fence before the count
  fence-before : (count k most : ℕ) (s : State) → Fetches m k (instr.Fence 0 0 (pos 0)) → Between m data_start count k s → ((t : State) → Between m data_start count (suc k) t → EndsWithin input most t) → EndsWithin input (suc most) s
  unfolding execute
  fence-before count k most s f b behind =
      step-before input most s (ahead s) (step-is input m data_start count k (instr.Fence 0 0 (pos 0)) s f b) (behind (ahead s) (advances m data_start count k s f.below b))

  -- from the count on, at the end of a round; the body begins at instruction k
  rounds-end : (body : List Instr) (k count : ℕ) (s : State) → AreHarmless body → CodeAt m k body → CodeAt m (k + length body) (back (length body)) → suc count < 2 ^ 32
      → Between m data_start (suc count) (suc (k + length body)) s → EndsWithin input (rounds_steps (length body) count) s
  rounds-end body k zero s h c d small b =
      let at : ℕ = suc (k + length body) in
      let t : State = ahead (with_register 9 0 s) in
      let counted : Between m data_start 0 (suc at) t = advances m data_start 0 at (with_register 9 0 s) d.1.0.below (count-set m data_start 1 at s 0 b) in
      let past : Between m data_start 0 (suc (suc at)) (ahead t) = advances m data_start 0 (suc at) t d.1.1.0.below counted in
      step-before input 3 s t (counts-down 0 at s d.1.0 small b)
      (step-before input 2 t (ahead t) (goes-past (length body) (suc at) t d.1.1.0 counted) (exit-ends (suc (suc at)) (ahead t) d.1.1.1 past))
  rounds-end body k (suc count) s h c d small b =
      let n : ℕ = length body in
      let at : ℕ = suc (k + n) in
      let t : State = ahead (with_register 9 (suc count) s) in
      let counted : Between m data_start (suc count) (suc at) t = advances m data_start (suc count) at (with_register 9 (suc count) s) d.1.0.below (count-set m data_start (suc (suc count)) at s (suc count) b) in
      let u : State = record t { pc = code_start + 4 * k } in
      let place : suc at ≡ k + n + 2 = omega arith in
      let back_at_body : step input t ≡ Next u = goes-back n k count t (subst (λ j. Fetches m j (again n)) place d.1.1.0) (subst (λ j. Between m data_start (suc count) j t) place counted) in
      let begun : Between m data_start (suc count) k u = counter-moves m data_start (suc count) (suc at) t (code_start + 4 * k) k refl counted in
      let later : (v : State) → Between m data_start (suc count) at v → EndsWithin input (rounds_steps n count) v = λ v e. rounds-end body k count v h c d (omega arith) e in
      let round : EndsWithin input (n + suc (rounds_steps n count)) u =
      row-ends input m (suc count) body k (k + n) (suc (rounds_steps n count)) u refl h c begun
      (λ v e. fence-before (suc count) (k + n) (rounds_steps n count) v d.0 e later)
      (λ v e. within-more input (rounds_steps n count) (suc (rounds_steps n count)) v (omega arith) (later v e)) in
      within-more input (suc (suc (n + suc (rounds_steps n count)))) (3 + n + rounds_steps n count) s (omega arith)
      (step-before input (suc (n + suc (rounds_steps n count))) s t (counts-down (suc count) at s d.1.0 small b) (step-before input (n + suc (rounds_steps n count)) t u back_at_body round))

  -- ---- the program

  code-split : (is js : List Instr) (k : ℕ) → CodeAt m k (is ++ js) → CodeAt m k is × CodeAt m (k + length is) js
  code-split [] js k c = (tt, subst (λ n. CodeAt m n js) (let here : k ≡ k + 0 = omega arith in here) c)
  code-split (i ∷ is) js k c =
      let rest = code-split is js (suc k) c.1 in
      ((c.0, rest.0), subst (λ n. CodeAt m n js) (let place : suc k + length is ≡ k + suc (length is) = omega arith in place) rest.1)

  -- from the words behind the front on, the first round begins with the words that fill the registers
  filled-ends : (start body : List Instr) (count : ℕ) (s : State) → AreHarmless start → AreHarmless body → CodeAt m 2 (start ++ body ++ back (length body)) → length start ≡ 20 → length body ≤ 160 → suc count < 2 ^ 32
      → Between m data_start (suc count) 2 s → EndsWithin input (185 + 163 * count) s
  filled-ends start body count s h g c long few small b =
      let n : ℕ = length body in
      let whole : length (start ++ body) ≡ 20 + n = length-append start body ∙ ap (λ k. k + n) long in
      let parts = code-split (start ++ body) (back n) 2 c in
      let body_at : CodeAt m 22 body = subst (λ k. CodeAt m k body) (let place : 2 + length start ≡ 22 = omega arith in place) (code-split start body 2 parts.0).1 in
      let back_at : CodeAt m (22 + n) (back n) = subst (λ k. CodeAt m k (back n)) (let place : 2 + length (start ++ body) ≡ 22 + n = omega arith in place) parts.1 in
      let later : (t : State) → Between m data_start (suc count) (suc (22 + n)) t → EndsWithin input (rounds_steps n count) t = λ t e. rounds-end body 22 count t g body_at back_at small e in
      let first : EndsWithin input (length (start ++ body) + suc (rounds_steps n count)) s =
      row-ends input m (suc count) (start ++ body) 2 (22 + n) (suc (rounds_steps n count)) s (omega arith) (all-append IsHarmless start body h g) parts.0 b
      (λ t e. fence-before (suc count) (22 + n) (rounds_steps n count) t back_at.0 e later)
      (λ t e. within-more input (rounds_steps n count) (suc (rounds_steps n count)) t (omega arith) (later t e)) in
      let most = rounds-few n count few in
      within-more input (length (start ++ body) + suc (rounds_steps n count)) (185 + 163 * count) s (omega arith) first

  -- the whole program
  pub program-ends : (start body : List Instr) (rounds : ℕ) (s : State) → AreHarmless start → AreHarmless body → CodeAt m 0 (front rounds ++ start ++ body ++ back (length body)) → length start ≡ 20
      → length body ≤ 160 → 0 < rounds → rounds < 2 ^ 32 → Between m 0 0 0 s → EndsWithin input (163 * rounds + 24) s
  unfolding execute
  program-ends start body zero s h g c long few some small b = absurd (omega arith)
  program-ends start body (suc count) s h g c long few some small b =
      let t : State = ahead (with_register 8 data_start s) in
      let u : State = ahead (with_register 9 (suc count) t) in
      let first : step input s ≡ Next t = step-is input m 0 0 0 (instr.Lui data_base 0x20000) s c.0 b in
      let based : Between m data_start 0 1 t = advances m data_start 0 0 (with_register 8 data_start s) c.0.below (base-set m 0 0 0 s data_start b) in
      let second : step input t ≡ Next u = li-steps 1 9 (suc count) t c.1.0 small based.pc based.code in
      let counted : Between m data_start (suc count) 2 u = advances m data_start (suc count) 1 (with_register 9 (suc count) t) c.1.0.below (count-set m data_start 0 1 t (suc count) based) in
      let behind : EndsWithin input (185 + 163 * count) u = filled-ends start body count u h g c.1.1 long few small counted in
      within-more input (suc (suc (185 + 163 * count))) (163 * suc count + 24) s (omega arith)
      (step-before input (suc (185 + 163 * count)) s t first (step-before input (185 + 163 * count) t u second behind))
