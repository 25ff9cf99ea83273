-- Calls of the environment: exit, read, write, and those that are not known.
use Rattle.std.proofs.Common.{◌≡◌, ℕ, zero, suc, ◌+◌, ◌-◌, ◌*◌, ◌/◌, ◌%◌, ◌^◌, ◌<◌, ◌≤◌, min, Bool, true, false, cond, ◌||◌, ◌==◌, List, [], ◌∷◌, ◌++◌, length, take, drop, Some, refl, sym, ◌∙◌, ap, subst, arith, add-zero, append-nil, length-take}
use Rattle.std.specs.Int.{w32, to_le_bytes}
use Rattle.std.proofs.lemmas.Bool.{eqb-true}
use Rattle.std.proofs.lemmas.Nat.{le_bytes_4}
use Rattle.rv_base.specs.declared.record.Seen.{Seen}
use Rattle.rv_base.specs.declared.instr.Instr.TheVariants.{Ecall}
use Rattle.rv_spec.specs.Words.{Memory, byte, bytes_from, store_bytes, word}
use Rattle.rv_spec.specs.Step.{State, register, with_register, within_word, exits, return_in_a0, read_call, write_call, environment_call, execute}
use Rattle.rv_spec.specs.Visits.{Use, use_of, use_register, use_buffer, argument_uses, call_uses, uses}
use Rattle.rv_spec.specs.Cells.{register_cell}
use Rattle.rv_rules.specs.Expected.{Expected, touch, on_register, on_buffer, splice, argument_touches, ends, pc_plus_4, expected_return, expected_read, expected_write, expected_call, expected_instr}
use Rattle.rv_rules.specs.Agreement.{IsState}
use Rattle.rv_rules.proofs.Lemmas.{word-stored}
use Rattle.rv_isa.proofs.Uses.{Sees, Follows, made, sees-left, sees-right, joined}
use Rattle.rv_isa.proofs.Registers.{value-register, reads-register, reads-two, operand-second, writes-register, register-with}
use Rattle.rv_isa.proofs.Operations.{sets-follows}
use Rattle.rv_isa.proofs.Loads.{word-seen, word-made}
use Rattle.rv_isa.proofs.WordRanges.{register-fits, index-below}

-- ---- bytes of a word

part-of : (m : Memory) (n len j k p : ℕ) → p ≡ n + j → j + k ≤ len → take k (drop j (bytes_from m n len)) ≡ bytes_from m p k
part-of m n len zero zero p e h = refl
part-of m n zero zero (suc k) p e h = absurd (omega arith)
part-of m n (suc len) zero (suc k) p e h =
    let head : byte m n ≡ byte m p = ap (byte m) (omega arith) in
    let tail = part-of m (n + 1) len zero k (p + 1) (omega arith) (omega arith) in
    λ i. head i ∷ tail i
part-of m n zero (suc j) k p e h = absurd (omega arith)
part-of m n (suc len) (suc j) k p e h = part-of m (n + 1) len j k p (omega arith) (omega arith)

-- k bytes of a word, from an address on, are those in memory
bytes-of-word : (m : Memory) (a k : ℕ) → a % 4 + k ≤ 4 → ((x : ℕ) → byte m x < 2 ^ 8) → take k (drop (a % 4) (to_le_bytes w32 (word m (a / 4)))) ≡ bytes_from m a k
bytes-of-word m a k h fits =
    let n : ℕ = 4 * (a / 4) in
    let whole : to_le_bytes w32 (word m (a / 4)) ≡ bytes_from m n 4 =
    le_bytes_4 (bytes_from m n 4) (word m (a / 4)) refl (λ i. index-below 256 (bytes_from m n 4) i (omega arith) (fits n, (fits (n + 1), (fits (n + 1 + 1), (fits (n + 1 + 1 + 1), tt))))) refl in
    ap (λ l. take k (drop (a % 4) l)) whole ∙ part-of m n 4 (a % 4) k a (omega arith) h

-- ---- the slots of a call

arguments-made : (v : Seen) (s t : State) → Sees v s argument_uses → argument_touches v ≡ made s t argument_uses
arguments-made v s t h = λ i. touch 2 (register_cell 17) (h.0 i) ++ touch 3 (register_cell 10) (h.1.0 i) ++ touch 4 (register_cell 11) (h.1.1.0 i) ++ touch 5 (register_cell 12) (h.1.1.1.0 i)

-- the word of the buffer, where the call moves bytes
buffer-made : (v : Seen) (s t : State) (buffer k new : ℕ) → (Sees v s (use_of 6 (buffer / 4)) → touch 6 (buffer / 4) new ≡ made s t (use_of 6 (buffer / 4))) → Sees v s (use_buffer buffer k)
    → on_buffer buffer k new ≡ made s t (use_buffer buffer k)
buffer-made v s t buffer k new is sees = go (k == 0) sees
  where
    go : (b : Bool) → Sees v s (cond b [] (use_of 6 (buffer / 4))) → cond b [] (touch 6 (buffer / 4) new) ≡ made s t (cond b [] (use_of 6 (buffer / 4)))
    go true h = refl
    go false h = is h

-- what is left of the word that a buffer begins in
pub within : (buffer len : ℕ) → buffer % 4 + within_word buffer len ≤ 4
within buffer len = omega arith

buffer-word : (s : State) → IsState s → register s 11 / 4 < 2 ^ 30
buffer-word s is = let fits : register s 11 < 2 ^ 32 = register-fits s 11 is in omega arith

-- a call that only answers
answers : (v : Seen) (s : State) (w : ℕ) → IsState s → Sees v s (argument_uses ++ use_register 7 10) → Follows (expected_return s.pc (argument_touches v) w) s (return_in_a0 w s) (argument_uses ++ use_register 7 10)
answers v s w is sees =
    sets-follows s 10 w w argument_uses (argument_touches v) (omega arith) is.count refl (λ t. arguments-made v s t (sees-left v s argument_uses (use_register 7 10) sees))

-- the old values, where the arguments are those in the registers
abbrev knowing : Seen → State → Seen
knowing v s = record v { s3 = register s 10; s4 = register s 11; s5 = register s 12 }

known : (v : Seen) (s : State) → Sees v s argument_uses → v ≡ knowing v s
known v s h =
    let a : v.s3 ≡ register s 10 = h.1.0 ∙ value-register s 10 (omega arith) in
    let b : v.s4 ≡ register s 11 = h.1.1.0 ∙ value-register s 11 (omega arith) in
    let c : v.s5 ≡ register s 12 = h.1.1.1.0 ∙ value-register s 12 (omega arith) in
    λ i. record v { s3 = a i; s4 = b i; s5 = c i }

-- ---- read

abbrev read_count : List ℕ → State → ℕ
read_count input s = min (length input - s.position) (within_word (register s 11) (register s 12))

abbrev read_uses : List ℕ → State → Bool → List Use
read_uses input s zero_descriptor = argument_uses ++ use_buffer (register s 11) (cond zero_descriptor (read_count input s) 0) ++ use_register 7 10

read-cases : (input : List ℕ) (v : Seen) (s : State) (zero_descriptor : Bool) → IsState s → Sees (knowing v s) s (read_uses input s zero_descriptor) →
    let buffer = register s 11 in
    let k = read_count input s in
    let bytes = take k (drop s.position input) in
    let filled = on_buffer buffer k (splice v.s6 (buffer % 4) bytes) in
    let w = knowing v s in
    Follows (cond zero_descriptor (record (expected_return s.pc (argument_touches w ++ filled) k) { took = k }) (expected_return s.pc (argument_touches w) 0xFFFFFFF7)) s
    (cond zero_descriptor (return_in_a0 k (record s { memory = store_bytes s.memory buffer bytes; position = s.position + k })) (return_in_a0 0xFFFFFFF7 s)) (read_uses input s zero_descriptor)
read-cases input v s false is sees = answers (knowing v s) s 0xFFFFFFF7 is sees
read-cases input v s true is sees =
    let w : Seen = knowing v s in
    let buffer : ℕ = register s 11 in
    let k : ℕ = read_count input s in
    let bytes : List ℕ = take k (drop s.position input) in
    let filled : State = record s { memory = store_bytes s.memory buffer bytes; position = s.position + k } in
    let t : State = record (with_register 10 k filled) { pc = pc_plus_4 s.pc } in
    let us : List Use = argument_uses ++ use_buffer buffer k in
    let first : Sees w s us = sees-left w s us (use_register 7 10) sees in
    let arguments : argument_touches w ≡ made s t argument_uses = arguments-made w s t (sees-left w s argument_uses (use_buffer buffer k) first) in
    let low : buffer / 4 < 2 ^ 30 = buffer-word s is in
    let inside : buffer % 4 + length bytes ≤ 4 = omega (arith, length-take k (drop s.position input), within buffer (register s 12)) in
    let new : ℕ = splice v.s6 (buffer % 4) bytes in
    let six : on_buffer buffer k new ≡ made s t (use_buffer buffer k) =
    buffer-made w s t buffer k new (λ h. word-made s t (buffer / 4) new low (ap (λ x. splice x (buffer % 4) bytes) (word-seen w s (buffer / 4) [] low h) ∙ sym (word-stored s.memory buffer bytes inside is.bytes)))
    (sees-right w s argument_uses (use_buffer buffer k) first) in
    let seven : on_register 7 10 k ≡ made s t (use_register 7 10) = writes-register s t 10 k (omega arith) (register-with filled 10 k (omega arith) is.count) in (
      joined s t us (use_register 7 10) (argument_touches w ++ on_buffer buffer k new) (on_register 7 10 k) (joined s t argument_uses (use_buffer buffer k) (argument_touches w) (on_buffer buffer k new) arguments six) seven,
      (refl, refl, refl, append-nil s.output),
    )

read-follows : (input : List ℕ) (v : Seen) (s : State) → IsState s → Sees v s (read_uses input s (register s 10 == 0)) → Follows (expected_read input s.position s.pc v) s (read_call input s) (read_uses input s (register s 10 == 0))
read-follows input v s is sees =
    let us : List Use = read_uses input s (register s 10 == 0) in
    let k : ℕ = cond (register s 10 == 0) (read_count input s) 0 in
    let arguments : Sees v s argument_uses = sees-left v s argument_uses (use_buffer (register s 11) k) (sees-left v s (argument_uses ++ use_buffer (register s 11) k) (use_register 7 10) sees) in
    let same : v ≡ knowing v s = known v s arguments in
    subst (λ (w : Seen). Follows (expected_read input s.position s.pc w) s (read_call input s) us) (sym same) (read-cases input v s (register s 10 == 0) is (subst (λ (w : Seen). Sees w s us) same sees))

-- ---- write

abbrev write_count : State → ℕ
write_count s = within_word (register s 11) (register s 12)

abbrev write_uses : State → Bool → List Use
write_uses s output = argument_uses ++ use_buffer (register s 11) (cond output (write_count s) 0) ++ use_register 7 10

-- the bytes that are put are those of the buffer
put-is : (v : Seen) (s : State) (buffer k : ℕ) → IsState s → buffer / 4 < 2 ^ 30 → buffer % 4 + k ≤ 4 → Sees v s (use_buffer buffer k) → take k (drop (buffer % 4) (to_le_bytes w32 v.s6)) ≡ bytes_from s.memory buffer k
put-is v s buffer k is low inside sees = go (k == 0) refl sees
  where
    go : (b : Bool) → (k == 0) ≡ b → Sees v s (cond b [] (use_of 6 (buffer / 4))) → take k (drop (buffer % 4) (to_le_bytes w32 v.s6)) ≡ bytes_from s.memory buffer k
    go true e h = subst (λ n. take n (drop (buffer % 4) (to_le_bytes w32 v.s6)) ≡ bytes_from s.memory buffer n) (sym (eqb-true k 0 e)) refl
    go false e h = ap (λ x. take k (drop (buffer % 4) (to_le_bytes w32 x))) (word-seen v s (buffer / 4) [] low h) ∙ bytes-of-word s.memory buffer k inside is.bytes

write-cases : (v : Seen) (s : State) (output error : Bool) → IsState s → Sees (knowing v s) s (write_uses s output) →
    let buffer = register s 11 in
    let k = write_count s in
    let w = knowing v s in
    Follows (cond output (record (expected_return s.pc (argument_touches w ++ on_buffer buffer k v.s6) k) { put = take k (drop (buffer % 4) (to_le_bytes w32 v.s6)) })
    (cond error (expected_return s.pc (argument_touches w) (register s 12)) (expected_return s.pc (argument_touches w) 0xFFFFFFF7))) s
    (cond output (return_in_a0 k (record s { output = s.output ++ bytes_from s.memory buffer k })) (cond error (return_in_a0 (register s 12) s) (return_in_a0 0xFFFFFFF7 s))) (write_uses s output)
write-cases v s false true is sees = answers (knowing v s) s (register s 12) is sees
write-cases v s false false is sees = answers (knowing v s) s 0xFFFFFFF7 is sees
write-cases v s true error is sees =
    let w : Seen = knowing v s in
    let buffer : ℕ = register s 11 in
    let k : ℕ = write_count s in
    let put : State = record s { output = s.output ++ bytes_from s.memory buffer k } in
    let t : State = record (with_register 10 k put) { pc = pc_plus_4 s.pc } in
    let us : List Use = argument_uses ++ use_buffer buffer k in
    let first : Sees w s us = sees-left w s us (use_register 7 10) sees in
    let arguments : argument_touches w ≡ made s t argument_uses = arguments-made w s t (sees-left w s argument_uses (use_buffer buffer k) first) in
    let low : buffer / 4 < 2 ^ 30 = buffer-word s is in
    let second : Sees w s (use_buffer buffer k) = sees-right w s argument_uses (use_buffer buffer k) first in
    let six : on_buffer buffer k v.s6 ≡ made s t (use_buffer buffer k) = buffer-made w s t buffer k v.s6 (λ h. word-made s t (buffer / 4) v.s6 low (word-seen w s (buffer / 4) [] low h)) second in
    let seven : on_register 7 10 k ≡ made s t (use_register 7 10) = writes-register s t 10 k (omega arith) (register-with put 10 k (omega arith) is.count) in (
      joined s t us (use_register 7 10) (argument_touches w ++ on_buffer buffer k v.s6) (on_register 7 10 k) (joined s t argument_uses (use_buffer buffer k) (argument_touches w) (on_buffer buffer k v.s6) arguments six) seven,
      (refl, refl, add-zero s.position, ap (λ l. s.output ++ l) (put-is w s buffer k is low (within buffer (register s 12)) second)),
    )

write-follows : (v : Seen) (s : State) → IsState s → Sees v s (write_uses s (register s 10 == 1)) → Follows (expected_write s.pc v) s (write_call s) (write_uses s (register s 10 == 1))
write-follows v s is sees =
    let us : List Use = write_uses s (register s 10 == 1) in
    let k : ℕ = cond (register s 10 == 1) (write_count s) 0 in
    let arguments : Sees v s argument_uses = sees-left v s argument_uses (use_buffer (register s 11) k) (sees-left v s (argument_uses ++ use_buffer (register s 11) k) (use_register 7 10) sees) in
    let same : v ≡ knowing v s = known v s arguments in
    subst (λ (w : Seen). Follows (expected_write s.pc w) s (write_call s) us) (sym same) (write-cases v s (register s 10 == 1) (register s 10 == 2) is (subst (λ (w : Seen). Sees w s us) same sees))

-- ---- each call

number-seen : (input : List ℕ) (v : Seen) (s : State) → Sees v s (call_uses input s) → v.s2 ≡ register s 17
number-seen input v s sees = go (register s 17 == 93 || register s 17 == 94) (register s 17 == 63) (register s 17 == 64) sees
  where
    go : (a b c : Bool) → Sees v s (cond a (use_register 2 17 ++ use_register 3 10) (cond b (read_uses input s (register s 10 == 0)) (cond c (write_uses s (register s 10 == 1)) (use_register 2 17 ++ use_register 7 10)))) → v.s2 ≡ register s 17
    go true b c h = h.0 ∙ value-register s 17 (omega arith)
    go false true c h = h.0 ∙ value-register s 17 (omega arith)
    go false false true h = h.0 ∙ value-register s 17 (omega arith)
    go false false false h = h.0 ∙ value-register s 17 (omega arith)

call-cases : (input : List ℕ) (v : Seen) (s : State) (exit read write : Bool) → IsState s →
    let us = cond exit (use_register 2 17 ++ use_register 3 10) (cond read (read_uses input s (register s 10 == 0)) (cond write (write_uses s (register s 10 == 1)) (use_register 2 17 ++ use_register 7 10))) in
    Sees v s us →
    Follows (cond exit (ends s.pc 0 v.s3 (on_register 2 17 v.s2 ++ on_register 3 10 v.s3)) (cond read (expected_read input s.position s.pc v) (cond write (expected_write s.pc v) (expected_return s.pc (on_register 2 17 v.s2) 0xFFFFFFDA)))) s
    (cond exit (exits (register s 10)) (cond read (read_call input s) (cond write (write_call s) (return_in_a0 0xFFFFFFDA s)))) us
call-cases input v s true read write is sees =
    let code : v.s3 ≡ register s 10 = operand-second v s 17 10 (omega arith) sees in
    (reads-two v s s 17 10 sees, (ap (λ c. Some (record { kind = 0; code = c })) code, refl, refl, refl))
call-cases input v s false true write is sees = read-follows input v s is sees
call-cases input v s false false true is sees = write-follows v s is sees
call-cases input v s false false false is sees =
    sets-follows s 10 0xFFFFFFDA 0xFFFFFFDA (use_register 2 17) (on_register 2 17 v.s2) (omega arith) is.count refl (λ t. reads-register v s t 2 17 refl (sees-left v s (use_register 2 17) (use_register 7 10) sees))

pub call-follows : (input : List ℕ) (s : State) (v : Seen) → IsState s → Sees v s (uses input Ecall s) → Follows (expected_instr input s.position s.pc Ecall v) s (execute input Ecall s) (uses input Ecall s)
unfolding expected_instr uses execute expected_call environment_call
call-follows input s v is sees =
    let by : ℕ → Expected = λ (n : ℕ). cond (n == 93 || n == 94) (ends s.pc 0 v.s3 (on_register 2 17 v.s2 ++ on_register 3 10 v.s3))
    (cond (n == 63) (expected_read input s.position s.pc v) (cond (n == 64) (expected_write s.pc v) (expected_return s.pc (on_register 2 17 v.s2) 0xFFFFFFDA))) in
    subst (λ n. Follows (by n) s (environment_call input s) (call_uses input s)) (sym (number-seen input v s sees))
    (call-cases input v s (register s 17 == 93 || register s 17 == 94) (register s 17 == 63) (register s 17 == 64) is sees)
