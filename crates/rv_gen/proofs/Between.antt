-- What holds between the instructions of a generated program, and what keeps it.
use Rattle.std.proofs.Common.{◌≡◌, ◌≢◌, ◌⊎◌, inl, inr, ℕ, suc, ◌+◌, ◌-◌, ◌*◌, ◌%◌, ◌^◌, ◌<◌, ◌≤◌, Bool, true, false, cond, ◌==◌, List, [], ◌∷◌, length, set, slice_index, Option, Some, None, option_map, refl, sym, ◌∙◌, ap, subst, arith, length-set, get_or-set_same, get_or-set_other}
use Rattle.std.specs.Int.{w32, from_le_bytes}
use Rattle.std.specs.Option.{option_or}
use Rattle.std.proofs.lemmas.Bool.{eqb-false}
use Rattle.rv_base.specs.declared.instr.Instr.{Instr}
use Rattle.rv_spec.specs.Words.{Memory, byte, bytes_from, store_bytes}
use Rattle.rv_spec.specs.Decode.{AnyInstr, rv32im, rv32a, decode, decode_atomic, decode_any}
use Rattle.rv_spec.specs.Step.{State, with_register, with_memory, execute, execute_if, fetch_word, step}
use Rattle.rv_rules.proofs.Lemmas.{byte-outside}
use Rattle.rv_gen.specs.Programs.{code_start}
use Rattle.rv_gen.proofs.Harmless.{IsFree}

-- the address of the data
abbrev pub data_start : ℕ
data_start = 0x20000

-- four bytes from an address on are not in the code
abbrev pub IsOffCode : ℕ → Type 0
IsOffCode a = (a + 4 ≤ code_start) ⊎ (data_start ≤ a)

-- At instruction k the memory from the code on and below the data is m's. x8 has the base and x9 the count, x17 has no number of an exit, and the buffer that x11 names is not in the code.
pub record Between (m : Memory) (base count k : ℕ) (s : State) : Type 0 where
  pub pc : s.pc ≡ code_start + 4 * k
  pub many : length s.registers ≡ 31
  pub based : slice_index s.registers 7 ≡ base
  pub counted : slice_index s.registers 8 ≡ count
  pub buffer : IsOffCode (slice_index s.registers 10)
  pub call : slice_index s.registers 16 ≤ 64
  pub code : (a : ℕ) → code_start ≤ a → a < data_start → byte s.memory a ≡ byte m a

-- ---- fetching

-- the word of instruction k in a memory, which lies below the data, spells it
pub record Fetches (m : Memory) (k : ℕ) (i : Instr) : Type 0 where
  pub below : k < 1000
  pub spells : decode (from_le_bytes w32 (bytes_from m (code_start + 4 * k) 4)) ≡ Some i

-- the words from instruction k on spell these
abbrev pub CodeAt : Memory → ℕ → List Instr → Type 0
CodeAt m k [] = Unit {0}
CodeAt m k (i ∷ is) = Fetches m k i × CodeAt m (suc k) is

pub four-same : (a b c d x y z w : ℕ) → a ≡ x → b ≡ y → c ≡ z → d ≡ w → a ∷ b ∷ c ∷ d ∷ [] ≡ x ∷ y ∷ z ∷ w ∷ []
four-same a b c d x y z w e f g h = ap (λ a. a ∷ b ∷ c ∷ d ∷ []) e ∙ ap (λ b. x ∷ b ∷ c ∷ d ∷ []) f ∙ ap (λ c. x ∷ y ∷ c ∷ d ∷ []) g ∙ ap (λ d. x ∷ y ∷ z ∷ d ∷ []) h

-- what a step at instruction k does, whatever the registers hold
pub fetched : (input : List ℕ) (m : Memory) (k : ℕ) (i : Instr) (s : State) → Fetches m k i → s.pc ≡ code_start + 4 * k
    → ((a : ℕ) → code_start ≤ a → a < data_start → byte s.memory a ≡ byte m a) → step input s ≡ execute input i s
unfolding step decode_any
fetched input m k i s f pc code =
    let below = f.below in
    let at : ℕ = code_start + 4 * k in
    let words : bytes_from s.memory s.pc 4 ≡ bytes_from m at 4 =
    ap (λ a. bytes_from s.memory a 4) pc
    ∙ four-same (byte s.memory at) (byte s.memory (at + 1)) (byte s.memory (at + 1 + 1)) (byte s.memory (at + 1 + 1 + 1)) (byte m at) (byte m (at + 1)) (byte m (at + 1 + 1)) (byte m (at + 1 + 1 + 1))
    (code at (omega arith) (omega arith)) (code (at + 1) (omega arith) (omega arith)) (code (at + 1 + 1) (omega arith) (omega arith)) (code (at + 1 + 1 + 1) (omega arith) (omega arith)) in
    let spelt : decode (fetch_word s) ≡ Some i = ap (λ bs. decode (from_le_bytes w32 bs)) words ∙ f.spells in
    let atomic : Option AnyInstr = cond (s.version == 2) (option_map rv32a (decode_atomic (fetch_word s))) None in
    ap (λ o. execute_if input (option_or (option_map rv32im o) atomic) s) spelt

pub step-is : (input : List ℕ) (m : Memory) (base count k : ℕ) (i : Instr) (s : State) → Fetches m k i → Between m base count k s → step input s ≡ execute input i s
step-is input m base count k i s f b = fetched input m k i s f b.pc b.code

-- ---- registers

-- a register that isn't written
pub other-register : (xs : List ℕ) (r v j : ℕ) → r ≢ suc j → slice_index (cond (r == 0) xs (set xs (r - 1) v)) j ≡ slice_index xs j
other-register xs r v j other = go (r == 0) refl
  where
    go : (b : Bool) → (r == 0) ≡ b → slice_index (cond b xs (set xs (r - 1) v)) j ≡ slice_index xs j
    go true e = refl
    go false e =
        let some : r ≢ 0 = eqb-false r 0 e in
        get_or-set_other xs (r - 1) j v 0 (λ same. other (omega arith))

pub as-many : (xs : List ℕ) (r v : ℕ) → length (cond (r == 0) xs (set xs (r - 1) v)) ≡ length xs
as-many xs r v = go (r == 0)
  where
    go : (b : Bool) → length (cond b xs (set xs (r - 1) v)) ≡ length xs
    go true = refl
    go false = length-set xs (r - 1) v

-- ---- what keeps it

module _ (m : Memory) (base count k : ℕ) where
  pub free-stays : (s : State) (r v : ℕ) → IsFree r → Between m base count k s → Between m base count k (with_register r v s)
  free-stays s r v free b = record {
    pc = b.pc;
    many = as-many s.registers r v ∙ b.many;
    based = other-register s.registers r v 7 free.0 ∙ b.based;
    counted = other-register s.registers r v 8 free.1 ∙ b.counted;
    buffer = subst IsOffCode (sym (other-register s.registers r v 10 free.2)) b.buffer;
    call = subst (λ x. x ≤ 64) (sym (other-register s.registers r v 16 free.3)) b.call;
    code = b.code;
  }

  -- x17 takes the number of a call that is no exit
  pub number-stays : (s : State) (n : ℕ) → n ≤ 64 → Between m base count k s → Between m base count k (with_register 17 n s)
  number-stays s n small b = record {
    pc = b.pc;
    many = as-many s.registers 17 n ∙ b.many;
    based = other-register s.registers 17 n 7 (λ e. omega arith) ∙ b.based;
    counted = other-register s.registers 17 n 8 (λ e. omega arith) ∙ b.counted;
    buffer = subst IsOffCode (sym (other-register s.registers 17 n 10 (λ e. omega arith))) b.buffer;
    call = subst (λ x. x ≤ 64) (sym (get_or-set_same s.registers 16 n 0 (let many = b.many in omega arith))) small;
    code = b.code;
  }

  -- x11 takes an address of the data
  pub buffer-stays : (s : State) (a : ℕ) → data_start ≤ a → Between m base count k s → Between m base count k (with_register 11 a s)
  buffer-stays s a within b = record {
    pc = b.pc;
    many = as-many s.registers 11 a ∙ b.many;
    based = other-register s.registers 11 a 7 (λ e. omega arith) ∙ b.based;
    counted = other-register s.registers 11 a 8 (λ e. omega arith) ∙ b.counted;
    buffer = inr (subst (λ x. data_start ≤ x) (sym (get_or-set_same s.registers 10 a 0 (let many = b.many in omega arith))) within);
    call = subst (λ x. x ≤ 64) (sym (other-register s.registers 11 a 16 (λ e. omega arith))) b.call;
    code = b.code;
  }

  -- x8 and x9 take the base and the count
  pub base-set : (s : State) (a : ℕ) → Between m base count k s → Between m a count k (with_register 8 a s)
  base-set s a b = record {
    pc = b.pc;
    many = as-many s.registers 8 a ∙ b.many;
    based = get_or-set_same s.registers 7 a 0 (let many = b.many in omega arith);
    counted = other-register s.registers 8 a 8 (λ e. omega arith) ∙ b.counted;
    buffer = subst IsOffCode (sym (other-register s.registers 8 a 10 (λ e. omega arith))) b.buffer;
    call = subst (λ x. x ≤ 64) (sym (other-register s.registers 8 a 16 (λ e. omega arith))) b.call;
    code = b.code;
  }

  pub count-set : (s : State) (n : ℕ) → Between m base count k s → Between m base n k (with_register 9 n s)
  count-set s n b = record {
    pc = b.pc;
    many = as-many s.registers 9 n ∙ b.many;
    based = other-register s.registers 9 n 7 (λ e. omega arith) ∙ b.based;
    counted = get_or-set_same s.registers 8 n 0 (let many = b.many in omega arith);
    buffer = subst IsOffCode (sym (other-register s.registers 9 n 10 (λ e. omega arith))) b.buffer;
    call = subst (λ x. x ≤ 64) (sym (other-register s.registers 9 n 16 (λ e. omega arith))) b.call;
    code = b.code;
  }

  -- bytes that are not stored in the code
  pub memory-stays : (s : State) (a : ℕ) (bs : List ℕ) → (a + length bs ≤ code_start) ⊎ (data_start ≤ a) → Between m base count k s → Between m base count k (with_memory (store_bytes s.memory a bs) s)
  memory-stays s a bs outside b = record {
    pc = b.pc;
    many = b.many;
    based = b.based;
    counted = b.counted;
    buffer = b.buffer;
    call = b.call;
    code = λ x low high. byte-outside s.memory a bs x (elim outside as (λ _. (x < a) ⊎ (a + length bs ≤ x)) [ inl below ↦ inr (omega arith) | inr above ↦ inl (omega arith) ]) ∙ b.code x low high;
  }

  pub streams-stay : (s : State) (position : ℕ) (output : List ℕ) → Between m base count k s → Between m base count k (record s { position = position; output = output })
  streams-stay s position output b = record { pc = b.pc; many = b.many; based = b.based; counted = b.counted; buffer = b.buffer; call = b.call; code = b.code }

  -- at another instruction
  pub advances : (s : State) → k < 1000 → Between m base count k s → Between m base count (suc k) (record s { pc = (s.pc + 4) % 2 ^ 32 })
  advances s below b = record { pc = (let pc = b.pc in omega arith); many = b.many; based = b.based; counted = b.counted; buffer = b.buffer; call = b.call; code = b.code }

  pub counter-moves : (s : State) (pc j : ℕ) → pc ≡ code_start + 4 * j → Between m base count k s → Between m base count j (record s { pc = pc })
  counter-moves s pc j e b = record { pc = e; many = b.many; based = b.based; counted = b.counted; buffer = b.buffer; call = b.call; code = b.code }
