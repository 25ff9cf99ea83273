-- Operations on registers: RISC-V Unprivileged ISA, RV32I "Integer Computational Instructions" and "Conditional Branches", the M extension with its table of division by zero and overflow, and the A extension.
use Rattle.std.specs.Prelude.{ℕ, ◌+◌, ◌-◌, ◌*◌, ◌/◌, ◌%◌, ◌^◌, ℤ, pos, ◌*ℤ◌, Bool, not, min, max, nat_lt, ◌==◌, if◌then◌else◌, bit_and, bit_or, bit_xor, int_lt, int_div, int_rem}
use Rattle.std.specs.Int.{w32, w64, cast_signed, cast_unsigned, from_bool, int_shr, int_min, int_max}
use Rattle.rv_base.specs.declared.instr.Op.{Op}
use Rattle.rv_base.specs.declared.instr.Op.TheVariants.{Add, Sub, Sll, Slt, Sltu, Xor, Srl, Sra, Or, And, Mul, Mulh, Mulhsu, Mulhu, Div, Divu, Rem, Remu}
use Rattle.rv_base.specs.declared.instr.Cond.{Cond}
use Rattle.rv_base.specs.declared.instr.Cond.TheVariants.{Eq, Ne, Lt, Ge, Ltu, Geu}
use Rattle.rv_base.specs.declared.instr.AtomicOp.{AtomicOp}
use Rattle.rv_base.specs.declared.instr.AtomicOp.TheVariants as amo

-- a register as a signed number, and back, in two's complement
abbrev pub signed : ℕ → ℤ
signed a = cast_signed w32 a

abbrev pub unsigned : ℤ → ℕ
unsigned z = cast_unsigned w32 z

-- the upper 32 bits of a signed product
abbrev pub high_word : ℤ → ℕ
high_word z = cast_unsigned w64 z / 2 ^ 32

unfoldable pub compute : Op → ℕ → ℕ → ℕ
compute Add a b = (a + b) % 2 ^ 32
compute Sub a b = (a + (2 ^ 32 - b)) % 2 ^ 32
compute Sll a b = a * 2 ^ (b % 32) % 2 ^ 32
compute Slt a b = from_bool (int_lt (signed a) (signed b))
compute Sltu a b = from_bool (nat_lt a b)
compute Xor a b = bit_xor a b
compute Srl a b = a / 2 ^ (b % 32)
compute Sra a b = unsigned (int_shr (signed a) (b % 32))
compute Or a b = bit_or a b
compute And a b = bit_and a b
compute Mul a b = a * b % 2 ^ 32
compute Mulh a b = high_word (signed a *ℤ signed b)
compute Mulhsu a b = high_word (signed a *ℤ pos b)
compute Mulhu a b = a * b / 2 ^ 32
compute Div a b = if b == 0 then 2 ^ 32 - 1 else unsigned (int_div (signed a) (signed b))
compute Divu a b = if b == 0 then 2 ^ 32 - 1 else a / b
compute Rem a b = if b == 0 then a else unsigned (int_rem (signed a) (signed b))
compute Remu a b = if b == 0 then a else a % b

unfoldable pub taken : Cond → ℕ → ℕ → Bool
taken Eq a b = a == b
taken Ne a b = not (a == b)
taken Lt a b = int_lt (signed a) (signed b)
taken Ge a b = not (int_lt (signed a) (signed b))
taken Ltu a b = nat_lt a b
taken Geu a b = not (nat_lt a b)

-- the word that an atomic memory operation leaves, of the old word and the register
unfoldable pub amo_result : AtomicOp → ℕ → ℕ → ℕ
amo_result amo.Lr a b = a
amo_result amo.Sc a b = b
amo_result amo.Swap a b = b
amo_result amo.Add a b = (a + b) % 2 ^ 32
amo_result amo.Xor a b = bit_xor a b
amo_result amo.And a b = bit_and a b
amo_result amo.Or a b = bit_or a b
amo_result amo.Min a b = unsigned (int_min (signed a) (signed b))
amo_result amo.Max a b = unsigned (int_max (signed a) (signed b))
amo_result amo.Minu a b = min a b
amo_result amo.Maxu a b = max a b
