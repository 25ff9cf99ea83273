-- What operations and loads give is a word.
use Rattle.std.proofs.Common.{ℕ, ◌+◌, ◌-◌, ◌*◌, ◌/◌, ◌%◌, ◌^◌, ◌<◌, Bool, true, false, ◌==◌, nat_lt, arith, mod-lt, lit<}
use Rattle.std.specs.Prelude.{int_lt, int_div, int_rem}
use Rattle.std.specs.Int.{w16, from_le_bytes, from_bool}
use Rattle.std.specs.Int.Bits.{and_lt}
use Rattle.std.proofs.Math.Nat.{div-le_self, mod-le}
use Rattle.std.proofs.lemmas.Nat.{mul-lt, xor_lt, or_lt}
use Rattle.rv_base.specs.declared.instr.Op.{Op}
use Rattle.rv_base.specs.declared.instr.Op.TheVariants.{Add, Sub, Sll, Slt, Sltu, Xor, Srl, Sra, Or, And, Mul, Mulh, Mulhsu, Mulhu, Div, Divu, Rem, Remu}
use Rattle.rv_base.specs.declared.instr.LoadKind.{LoadKind}
use Rattle.rv_base.specs.declared.instr.LoadKind.TheVariants as loads
use Rattle.rv_base.specs.declared.instr.AtomicOp.{AtomicOp}
use Rattle.rv_base.specs.declared.instr.AtomicOp.TheVariants as amo
use Rattle.rv_spec.specs.Words.{Memory, byte, bytes_from}
use Rattle.rv_spec.specs.Arithmetic.{signed, unsigned, compute, amo_result}
use Rattle.rv_spec.specs.Step.{load_value}
use Rattle.rv_isa.proofs.WordRanges.{IsWord, either-fits, four-fit}
use Rattle.rv_isa.proofs.SignedWords.{div-fits, rem-fits, shr-fits, signed-high-fits, mixed-high-fits, extended-fits, choice-fits}

test-fits : (b : Bool) → IsWord (from_bool b)
test-fits true = omega arith
test-fits false = omega arith

product-high : (a b : ℕ) → IsWord a → IsWord b → IsWord (a * b / 2 ^ 32)
product-high a b h k = let product : a * b < 2 ^ 32 * 2 ^ 32 = mul-lt a b (2 ^ 32) (2 ^ 32) h k in omega arith

quotient-fits : (a k : ℕ) → IsWord a → IsWord (a / k)
quotient-fits a k h = omega (arith, div-le_self a k)

pub compute-fits : (op : Op) (a b : ℕ) → IsWord a → IsWord b → IsWord (compute op a b)
unfolding compute
compute-fits Add a b h k = mod-lt (a + b) (lit< tt)
compute-fits Sub a b h k = mod-lt (a + (2 ^ 32 - b)) (lit< tt)
compute-fits Sll a b h k = mod-lt (a * 2 ^ (b % 32)) (lit< tt)
compute-fits Slt a b h k = test-fits (int_lt (signed a) (signed b))
compute-fits Sltu a b h k = test-fits (nat_lt a b)
compute-fits Xor a b h k = xor_lt 32 a b h k
compute-fits Srl a b h k = quotient-fits a (2 ^ (b % 32)) h
compute-fits Sra a b h k = shr-fits a (b % 32) h
compute-fits Or a b h k = or_lt 32 a b h k
compute-fits And a b h k = and_lt 32 a b h k
compute-fits Mul a b h k = mod-lt (a * b) (lit< tt)
compute-fits Mulh a b h k = signed-high-fits a b h k
compute-fits Mulhsu a b h k = mixed-high-fits a b h k
compute-fits Mulhu a b h k = product-high a b h k
compute-fits Div a b h k = either-fits (b == 0) (2 ^ 32 - 1) (unsigned (int_div (signed a) (signed b))) (omega arith) (div-fits a b h)
compute-fits Divu a b h k = either-fits (b == 0) (2 ^ 32 - 1) (a / b) (omega arith) (quotient-fits a b h)
compute-fits Rem a b h k = either-fits (b == 0) a (unsigned (int_rem (signed a) (signed b))) h (rem-fits a b h)
compute-fits Remu a b h k = either-fits (b == 0) a (a % b) h (omega (arith, mod-le a b))

pub amo-fits : (op : AtomicOp) (a b : ℕ) → IsWord a → IsWord b → IsWord (amo_result op a b)
unfolding amo_result
amo-fits amo.Lr a b p q = p
amo-fits amo.Sc a b p q = q
amo-fits amo.Swap a b p q = q
amo-fits amo.Add a b p q = mod-lt (a + b) (lit< tt)
amo-fits amo.Xor a b p q = xor_lt 32 a b p q
amo-fits amo.And a b p q = and_lt 32 a b p q
amo-fits amo.Or a b p q = or_lt 32 a b p q
amo-fits amo.Min a b p q = choice-fits (int_lt (signed b) (signed a)) b a q p
amo-fits amo.Max a b p q = choice-fits (int_lt (signed b) (signed a)) a b p q
amo-fits amo.Minu a b p q = omega arith
amo-fits amo.Maxu a b p q = omega arith

two-fit : (m : Memory) (a : ℕ) → ((x : ℕ) → byte m x < 2 ^ 8) → from_le_bytes w16 (bytes_from m a 2) < 2 ^ 16
two-fit m a fits = spell (byte m a) (byte m (a + 1)) (fits a) (fits (a + 1))
  where
    spell : (b0 b1 : ℕ) → b0 < 256 → b1 < 256 → b0 + b1 * 256 < 2 ^ 16
    spell b0 b1 h0 h1 = omega arith

pub load-fits : (kind : LoadKind) (m : Memory) (a : ℕ) → ((x : ℕ) → byte m x < 2 ^ 8) → IsWord (load_value kind m a)
unfolding load_value
load-fits loads.B m a fits = extended-fits 8 (byte m a) (omega (arith, fits a))
load-fits loads.H m a fits = extended-fits 16 (from_le_bytes w16 (bytes_from m a 2)) (omega (arith, two-fit m a fits))
load-fits loads.W m a fits = four-fit m a fits
load-fits loads.Bu m a fits = omega (arith, fits a)
load-fits loads.Hu m a fits = omega (arith, two-fit m a fits)
