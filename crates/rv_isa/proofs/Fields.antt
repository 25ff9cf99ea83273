-- What the fields of an instruction are: registers below 32, and immediates that are words.
use Rattle.std.proofs.Common.{ℕ, ◌*◌, ◌%◌, ◌^◌, ◌<◌, Bool, true, false, cond, ◌==◌, List, [], ◌∷◌, Option, Some, None, find, option_map, arith, mod-lt, lit<}
use Rattle.std.specs.Option.{IfSome, option_or}
use Rattle.std.specs.List.{AllByRecursion}
use Rattle.std.specs.Int.{w32, cast_unsigned}
use Rattle.rv_base.specs.declared.instr.Instr.{Instr}
use Rattle.rv_base.specs.declared.instr.Atomic.{Atomic}
use Rattle.rv_spec.specs.Words.{sign_extend}
use Rattle.rv_spec.specs.Decode.{Encoding, by_table, rv32im_table, rv32a_table, decode, decode_atomic, decode_any, rv32im, rv32a}
pub use Rattle.rv_isa.specs.Fields.{HasFields, HasAtomicFields, HasAnyFields}
use Rattle.rv_isa.proofs.WordRanges.{IsWord}
use Rattle.rv_isa.proofs.SignedWords.{extended-fits}

five-bits : (n : ℕ) → n % 32 < 32
five-bits n = mod-lt n (lit< tt)

upper-bits : (n : ℕ) → n % 2 ^ 20 * 2 ^ 12 < 2 ^ 32
upper-bits n = omega arith

shift-amount : (n : ℕ) → n % 32 < 2 ^ 32
shift-amount n = omega arith

-- a number of 12 bits, with its sign, as a word
signed-word : (n : ℕ) → IsWord (cast_unsigned w32 (sign_extend 12 (n % 2 ^ 12)))
signed-word n = let small : IsWord (n % 2 ^ 12) = omega arith in extended-fits 12 (n % 2 ^ 12) small

-- each row of the table
rows-have : AllByRecursion (λ e. (w : ℕ) → HasFields (e.fields w)) rv32im_table
unfolding rv32im_table
rows-have = search (five-bits, upper-bits, shift-amount, signed-word)

atomic-rows-have : AllByRecursion (λ e. (w : ℕ) → HasAtomicFields (e.fields w)) rv32a_table
unfolding rv32a_table
atomic-rows-have = search five-bits

-- ---- what decodes

by-table : {A : Type 0} (P : A → Type 0) (rows : List (Encoding A)) → AllByRecursion (λ e. (w : ℕ) → P (e.fields w)) rows → (w : ℕ) → IfSome (by_table rows w) P
by-table P [] h w = tt
by-table P (e ∷ es) h w = go (e.matches w) (by-table P es h.1 w)
  where
    go : (b : Bool) → IfSome (by_table es w) P → IfSome (option_map (λ r. r.fields w) (cond b (Some e) (find (λ r. r.matches w) es))) P
    go true later = h.0 w
    go false later = later

decoded : (w : ℕ) → IfSome (decode w) HasFields
unfolding decode
decoded w = by-table HasFields rv32im_table rows-have w

atomic-decoded : (w : ℕ) → IfSome (decode_atomic w) HasAtomicFields
unfolding decode_atomic
atomic-decoded w = by-table HasAtomicFields rv32a_table atomic-rows-have w

pub any-decoded : (version w : ℕ) → IfSome (decode_any version w) HasAnyFields
unfolding decode_any
any-decoded version w = go (decode w) (decode_atomic w) (version == 2) (decoded w) (atomic-decoded w)
  where
    go : (o : Option Instr) (p : Option Atomic) (b : Bool) → IfSome o HasFields → IfSome p HasAtomicFields → IfSome (option_or (option_map rv32im o) (cond b (option_map rv32a p) None)) HasAnyFields
    go (Some i) p b h k = h
    go None (Some i) true h k = k
    go None None true h k = tt
    go None p false h k = tt
