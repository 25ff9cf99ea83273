-- A step of a harmless instruction keeps what holds between instructions, goes on, and goes to the next instruction or skips one.
use Rattle.std.proofs.Common.{◌≡◌, ◌⊎◌, inl, inr, ℕ, suc, ◌+◌, ◌-◌, ◌%◌, ◌^◌, ◌<◌, ◌≤◌, ℤ, pos, min, Bool, true, false, cond, ◌||◌, ◌==◌, List, ◌++◌, length, take, drop, sym, ◌∙◌, ap, subst, arith}
use Rattle.std.specs.Int.{w32, cast_unsigned, to_le_bytes}
use Rattle.std.proofs.lemmas.List.{length-take}
use Rattle.std.proofs.lemmas.Bool.{eq-eqb, ne_eqb, or_from}
use Rattle.rv_base.specs.declared.instr.Instr.{Instr}
use Rattle.rv_base.specs.declared.instr.Instr.TheVariants as instr
use Rattle.rv_spec.specs.Words.{Memory, bytes_from, store_bytes, plus}
use Rattle.rv_spec.specs.Arithmetic.{compute, taken}
use Rattle.rv_spec.specs.Step.{State, Transition, Next, Ends, register, with_register, with_memory, advance, jump, exits, stops, load_width, store_width, load_value, store_value, within_word, return_in_a0, read_call, write_call, environment_call, execute, step}
use Rattle.rv_gen.specs.Programs.{code_start}
use Rattle.rv_gen.proofs.Harmless.{IsFree, IsInData, IsWidth, NamesCall, NamesBuffer, IsHarmless, x10-free, width-of-load, width-of-store}
use Rattle.rv_gen.proofs.Between.{data_start, IsOffCode, Between, Fetches, step-is, free-stays, number-stays, buffer-stays, memory-stays, streams-stay, advances, counter-moves}

-- the run goes on at the next instruction or at the one behind it
abbrev pub Moves : Memory → ℕ → ℕ → ℕ → Transition → Type 0
Moves m base count k (Next t) = Between m base count (suc k) t ⊎ Between m base count (suc (suc k)) t
Moves m base count k (Ends e) = ⊥

module _ (m : Memory) (count k : ℕ) (below : k < 1000) where
  abbrev Here : State → Type 0
  Here s = Between m data_start count k s

  abbrev Goes : Transition → Type 0
  Goes t = Moves m data_start count k t

  advance-goes : (s : State) → Here s → Goes (advance s)
  advance-goes s b = inl (advances m data_start count k s below b)

  sets-goes : (s : State) (r v : ℕ) → IsFree r → Here s → Goes (advance (with_register r v s))
  sets-goes s r v free b = advance-goes (with_register r v s) (free-stays m data_start count k s r v free b)

  skip-goes : (s : State) → Here s → Goes (jump (plus s.pc (pos 8)) s)
  skip-goes s b =
      let pc = b.pc in
      let target : ℕ = plus s.pc (pos 8) in
      let aligned : target % 4 ≡ 0 = omega arith in
      subst (λ p. Goes (cond p (Next (record s { pc = target })) (stops 3))) (sym (eq-eqb (target % 4) 0 aligned)) (inr (counter-moves m data_start count k s target (suc (suc k)) (omega arith) b))

  branch-goes : (s : State) (p : Bool) (off : ℤ) → off ≡ pos 8 → Here s → Goes (cond p (jump (plus s.pc off) s) (advance s))
  branch-goes s true off e b = subst (λ o. Goes (jump (plus s.pc o) s)) (sym e) (skip-goes s b)
  branch-goes s false off e b = advance-goes s b

  -- ---- the data

  address-is : (s : State) (width rs1 : ℕ) (imm : ℤ) → IsWidth width → IsInData width rs1 imm → Here s → (plus (register s rs1) imm % width ≡ 0) × (data_start ≤ plus (register s rs1) imm)
  address-is s width rs1 imm is h b =
      let n = h.place in
      let small = h.within in
      let based = b.based in
      let sum : plus (register s 8) (pos n) ≡ data_start + n = omega arith in
      let address : plus (register s rs1) imm ≡ data_start + n = ap (λ r. plus (register s r) imm) h.base_is ∙ ap (λ z. plus (register s 8) z) h.offset_is ∙ sum in
      (ap (λ a. a % width) address ∙ multiple n width is h.aligned, omega arith)
    where
      multiple : (n width : ℕ) → IsWidth width → n % width ≡ 0 → (data_start + n) % width ≡ 0
      multiple n width (inl e) z = subst (λ w. (data_start + n) % w ≡ 0) (sym e) (omega arith)
      multiple n width (inr (inl e)) z = let two : n % 2 ≡ 0 = subst (λ w. n % w ≡ 0) e z in subst (λ w. (data_start + n) % w ≡ 0) (sym e) (omega arith)
      multiple n width (inr (inr e)) z = let four : n % 4 ≡ 0 = subst (λ w. n % w ≡ 0) e z in subst (λ w. (data_start + n) % w ≡ 0) (sym e) (omega arith)

  aligned-goes : (n kind : ℕ) (t : Transition) → n ≡ 0 → Goes t → Goes (cond (n == 0) t (stops kind))
  aligned-goes n kind t e h = subst (λ p. Goes (cond p t (stops kind))) (sym (eq-eqb n 0 e)) h

  stored-goes : (s : State) (a : ℕ) (bs : List ℕ) → data_start ≤ a → Here s → Goes (advance (with_memory (store_bytes s.memory a bs) s))
  stored-goes s a bs above b = advance-goes (with_memory (store_bytes s.memory a bs) s) (memory-stays m data_start count k s a bs (inr above) b)

  -- ---- calls

  answer-goes : (s : State) (v : ℕ) → Here s → Goes (return_in_a0 v s)
  answer-goes s v b = sets-goes s 10 v x10-free b

  stays-filled : (input : List ℕ) (s : State) (moved : ℕ) → moved ≤ 4 → Here s → Here (record s { memory = store_bytes s.memory (register s 11) (take moved (drop s.position input)); position = s.position + moved })
  stays-filled input s moved most b =
      let bytes : List ℕ = take moved (drop s.position input) in
      let few : length bytes ≤ 4 = omega (arith, length-take moved (drop s.position input)) in
      streams-stay m data_start count k (with_memory (store_bytes s.memory (register s 11) bytes) s) (s.position + moved) s.output (memory-stays m data_start count k s (register s 11) bytes (outside few b.buffer) b)
    where
      outside : length (take moved (drop s.position input)) ≤ 4 → IsOffCode (register s 11)
          → (register s 11 + length (take moved (drop s.position input)) ≤ code_start) ⊎ (data_start ≤ register s 11)
      outside few (inl below) = inl (omega arith)
      outside few (inr above) = inr above

  read-goes : (input : List ℕ) (s : State) → Here s → Goes (read_call input s)
  read-goes input s b = go (register s 10 == 0)
    where
      go : (p : Bool) →
          let moved = min (length input - s.position) (within_word (register s 11) (register s 12)) in
          let filled = record s { memory = store_bytes s.memory (register s 11) (take moved (drop s.position input)); position = s.position + moved } in
          Goes (cond p (return_in_a0 moved filled) (return_in_a0 0xFFFFFFF7 s))
      go true =
          let moved : ℕ = min (length input - s.position) (within_word (register s 11) (register s 12)) in
          let filled : State = record s { memory = store_bytes s.memory (register s 11) (take moved (drop s.position input)); position = s.position + moved } in
          answer-goes filled moved (stays-filled input s moved (omega arith) b)
      go false = answer-goes s 0xFFFFFFF7 b

  write-goes : (s : State) → Here s → Goes (write_call s)
  write-goes s b = go (register s 10 == 1) (register s 10 == 2)
    where
      go : (p q : Bool) →
          let n = within_word (register s 11) (register s 12) in
          Goes (cond p (return_in_a0 n (record s { output = s.output ++ bytes_from s.memory (register s 11) n })) (cond q (return_in_a0 (register s 12) s) (return_in_a0 0xFFFFFFF7 s)))
      go true q =
          let n : ℕ = within_word (register s 11) (register s 12) in
          let output : List ℕ = s.output ++ bytes_from s.memory (register s 11) n in
          answer-goes (record s { output = output }) n (streams-stay m data_start count k s s.position output b)
      go false true = answer-goes s (register s 12) b
      go false false = answer-goes s 0xFFFFFFF7 b

  no-exit : (s : State) → Here s → (register s 17 == 93 || register s 17 == 94) ≡ false
  no-exit s b =
      let small = b.call in
      or_from (register s 17 == 93) (register s 17 == 94) (ne_eqb (register s 17) 93 (λ e. omega arith)) (ne_eqb (register s 17) 94 (λ e. omega arith))

  call-goes : (input : List ℕ) (s : State) → Here s → Goes (environment_call input s)
  unfolding environment_call
  call-goes input s b =
      subst (λ p. Goes (cond p (exits (register s 10)) (cond (register s 17 == 63) (read_call input s) (cond (register s 17 == 64) (write_call s) (return_in_a0 0xFFFFFFDA s))))) (sym (no-exit s b))
      (go (register s 17 == 63) (register s 17 == 64))
    where
      go : (p q : Bool) → Goes (cond p (read_call input s) (cond q (write_call s) (return_in_a0 0xFFFFFFDA s)))
      go true q = read-goes input s b
      go false true = write-goes s b
      go false false = answer-goes s 0xFFFFFFDA b

  -- ---- each instruction

  named-goes : (input : List ℕ) (i : Instr) (s : State) → NamesCall i → Here s → Goes (execute input i s)
  unfolding execute compute
  named-goes input i s named b =
      let small = named.small in
      let sum : (0 + named.number) % 2 ^ 32 ≡ named.number = omega arith in
      subst (λ j. Goes (execute input j s)) (sym named.is)
      (subst (λ n. Goes (advance (with_register 17 n s))) (sym sum) (advance-goes (with_register 17 named.number s) (number-stays m data_start count k s named.number small b)))

  buffer-goes : (input : List ℕ) (i : Instr) (s : State) → NamesBuffer i → Here s → Goes (execute input i s)
  unfolding execute compute
  buffer-goes input i s named b =
      let within = named.within in
      let based = b.based in
      let a : ℕ = (register s 8 + named.place) % 2 ^ 32 in
      subst (λ j. Goes (execute input j s)) (sym named.is) (advance-goes (with_register 11 a s) (buffer-stays m data_start count k s a (omega arith) b))

  instruction-goes : (input : List ℕ) (i : Instr) (s : State) → IsHarmless i → Here s → Goes (execute input i s)
  unfolding execute store_value
  instruction-goes input (instr.Lui rd imm) s h b = sets-goes s rd imm h b
  instruction-goes input (instr.Op o rd rs1 rs2) s h b = sets-goes s rd (compute o (register s rs1) (register s rs2)) h b
  instruction-goes input (instr.OpImm o rd rs1 imm) s (inl free) b = sets-goes s rd (compute o (register s rs1) (cast_unsigned w32 imm)) free b
  instruction-goes input (instr.OpImm o rd rs1 imm) s (inr (inl named)) b = named-goes input (instr.OpImm o rd rs1 imm) s named b
  instruction-goes input (instr.OpImm o rd rs1 imm) s (inr (inr named)) b = buffer-goes input (instr.OpImm o rd rs1 imm) s named b
  instruction-goes input (instr.Load kind rd rs1 imm) s h b =
      let a : ℕ = plus (register s rs1) imm in
      aligned-goes (a % load_width kind) 4 (advance (with_register rd (load_value kind s.memory a) s)) (address-is s (load_width kind) rs1 imm (width-of-load kind) h.1 b).0
      (sets-goes s rd (load_value kind s.memory a) h.0 b)
  instruction-goes input (instr.Store kind rs1 rs2 imm) s h b =
      let a : ℕ = plus (register s rs1) imm in
      let bytes : List ℕ = take (store_width kind) (to_le_bytes w32 (register s rs2)) in
      let address = address-is s (store_width kind) rs1 imm (width-of-store kind) h b in
      aligned-goes (a % store_width kind) 5 (advance (with_memory (store_bytes s.memory a bytes) s)) address.0 (stored-goes s a bytes address.1 b)
  instruction-goes input (instr.Branch c rs1 rs2 off) s h b = branch-goes s (taken c (register s rs1) (register s rs2)) off h b
  instruction-goes input instr.Ecall s h b = call-goes input s b
  instruction-goes input (instr.Auipc rd imm) s h b = absurd h
  instruction-goes input (instr.Jal rd off) s h b = absurd h
  instruction-goes input (instr.Jalr rd rs1 imm) s h b = absurd h
  instruction-goes input (instr.Fence rd rs1 imm) s h b = absurd h
  instruction-goes input instr.Ebreak s h b = absurd h

-- the step
pub harmless-moves : (input : List ℕ) (m : Memory) (count k : ℕ) (i : Instr) (s : State) → IsHarmless i → Fetches m k i → Between m data_start count k s → Moves m data_start count k (step input s)
harmless-moves input m count k i s h f b =
    subst (Moves m data_start count k) (sym (step-is input m data_start count k i s f b)) (instruction-goes m count k f.below input i s h b)
