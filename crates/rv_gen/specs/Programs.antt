-- Generated programs: a loop over drawn instructions that always ends with exit code 0 (this project's own).
use Rattle.std.specs.Prelude.{◌≡◌, ℕ, zero, suc, ◌+◌, ◌-◌, ◌*◌, ◌/◌, ◌%◌, ◌^◌, ◌<◌, ℤ, pos, neg_ℤ, ◌-ℤ◌, List, [], ◌∷◌, ◌++◌, length, map, Some, slice_index_or, nat_lt, ◌==◌, if◌then◌else◌}
use Rattle.std.specs.List.{AllByRecursion}
use Rattle.rv_base.specs.declared.machine.TheConstants.{READ, EXIT_CALL}
use Rattle.rv_base.specs.declared.instr.Op.{Op}
use Rattle.rv_base.specs.declared.instr.Op.TheVariants as op
use Rattle.rv_base.specs.declared.instr.Cond.{Cond}
use Rattle.rv_base.specs.declared.instr.Cond.TheVariants as cond
use Rattle.rv_base.specs.declared.instr.LoadKind.{LoadKind}
use Rattle.rv_base.specs.declared.instr.LoadKind.TheVariants as load
use Rattle.rv_base.specs.declared.instr.StoreKind.{StoreKind}
use Rattle.rv_base.specs.declared.instr.StoreKind.TheVariants as store
use Rattle.rv_base.specs.declared.instr.Instr.{Instr}
use Rattle.rv_base.specs.declared.instr.Instr.TheVariants as instr
use Rattle.rv_spec.specs.Decode.{decode}
use Rattle.rv_elf.specs.ElfFile.{elf_file}
use Rattle.rv_elf.specs.Written.{words_bytes}
use Rattle.rv_gen.specs.Draws.{Draw, given, draw, bytes, ◌>>=◌}

-- ---- what is drawn from

abbrev pub operations : List Op
operations =
    op.Add ∷ op.Sub ∷ op.Sll ∷ op.Slt ∷ op.Sltu ∷ op.Xor ∷ op.Srl ∷ op.Sra ∷ op.Or ∷ op.And
    ∷ op.Mul ∷ op.Mulh ∷ op.Mulhsu ∷ op.Mulhu ∷ op.Div ∷ op.Divu ∷ op.Rem ∷ op.Remu ∷ []

abbrev pub immediate_operations : List Op
immediate_operations = op.Add ∷ op.Slt ∷ op.Sltu ∷ op.Xor ∷ op.Or ∷ op.And ∷ []

abbrev pub loads : List LoadKind
loads = load.B ∷ load.H ∷ load.W ∷ load.Bu ∷ load.Hu ∷ []

abbrev pub stores : List StoreKind
stores = store.B ∷ store.H ∷ store.W ∷ []

abbrev pub conditions : List Cond
conditions = cond.Eq ∷ cond.Ne ∷ cond.Lt ∷ cond.Ge ∷ cond.Ltu ∷ cond.Geu ∷ []

abbrev pub load_width : LoadKind → ℕ
load_width load.B = 1
load_width load.H = 2
load_width load.W = 4
load_width load.Bu = 1
load_width load.Hu = 2

abbrev pub store_width : StoreKind → ℕ
store_width store.B = 1
store_width store.H = 2
store_width store.W = 4

-- one of the registers that items use, x18 to x27
unfoldable pub pool : Draw ℕ
pool = do
  r ← draw 10
  given (18 + r)

-- a signed number of 12 bits
unfoldable pub small : Draw ℤ
small = do
  n ← draw 4096
  given (pos n -ℤ pos 2048)

-- a multiple of the width below 2048
unfoldable pub offset : ℕ → Draw ℤ
offset width = do
  o ← draw 2048
  given (pos (o - o % width))

-- the base of the data, x8, holds its address
abbrev pub data_base : ℕ
data_base = 8

abbrev pub li : ℕ → ℤ → Instr
li rd imm = instr.OpImm op.Add rd 0 imm

-- ---- items of the body

unfoldable pub register_item : Draw Instr
register_item = do
  o ← draw 18
  rd ← pool
  rs1 ← pool
  rs2 ← pool
  given (instr.Op (slice_index_or operations o op.Add) rd rs1 rs2)

unfoldable pub immediate_item : Draw Instr
immediate_item = do
  o ← draw 6
  rd ← pool
  rs1 ← pool
  imm ← small
  given (instr.OpImm (slice_index_or immediate_operations o op.Add) rd rs1 imm)

unfoldable pub upper_item : Draw Instr
upper_item = do
  rd ← pool
  u ← draw 65536
  given (instr.Lui rd (u * 2 ^ 12))

unfoldable pub load_item : Draw Instr
load_item = do
  o ← draw 5
  let kind = slice_index_or loads o load.B
  rd ← pool
  at ← offset (load_width kind)
  given (instr.Load kind rd data_base at)

unfoldable pub store_item : Draw Instr
store_item = do
  o ← draw 3
  let kind = slice_index_or stores o store.B
  rs2 ← pool
  at ← offset (store_width kind)
  given (instr.Store kind data_base rs2 at)

-- a branch skips one word
unfoldable pub branch_item : Draw Instr
branch_item = do
  o ← draw 6
  rs1 ← pool
  rs2 ← pool
  given (instr.Branch (slice_index_or conditions o cond.Eq) rs1 rs2 (pos 8))

-- a call of read (63) from descriptor 0, or of write (64) to descriptor 1, of 4 bytes of the data
unfoldable pub call_item : Draw (List Instr)
call_item = do
  o ← draw 2
  f ← draw 2048
  given (li 17 (pos (READ + o)) ∷ li 10 (pos o) ∷ instr.OpImm op.Add 11 data_base (pos f) ∷ li 12 (pos 4) ∷ instr.Ecall ∷ [])

-- an item of one instruction
unfoldable pub single_item : ℕ → Draw Instr
single_item k =
    if nat_lt k 6 then register_item
    else (if nat_lt k 9 then immediate_item
    else (if nat_lt k 10 then upper_item
    else (if nat_lt k 12 then load_item
    else (if nat_lt k 14 then store_item
    else branch_item))))

unfoldable pub alone : Draw Instr → Draw (List Instr)
alone item = do
  i ← item
  given (i ∷ [])

unfoldable pub item_of : ℕ → Draw (List Instr)
item_of k = if k == 15 then call_item else alone (single_item k)

unfoldable pub item : Draw (List Instr)
item = do
  k ← draw 16
  item_of k

unfoldable pub items : ℕ → Draw (List Instr)
items zero = given []
items (suc n) = do
  first ← item
  others ← items n
  given (first ++ others)

-- ---- the program

-- a register takes a drawn word
unfoldable pub word : ℕ → Draw (List Instr)
word r = do
  u ← draw 65536
  v ← small
  given (instr.Lui r (u * 2 ^ 12) ∷ instr.OpImm op.Add r r v ∷ [])

-- n registers from one on take drawn words
unfoldable pub filled : ℕ → ℕ → Draw (List Instr)
filled zero r = given []
filled (suc n) r = do
  first ← word r
  others ← filled n (r + 1)
  given (first ++ others)

-- the data begins at 0x20000, and x9 counts the rounds of the loop
abbrev pub front : ℕ → List Instr
front rounds = instr.Lui data_base 0x20000 ∷ li 9 (pos rounds) ∷ []

-- behind a body of n words: the next round, and the exit with code 0; the fence keeps a branch at the end of the body from skipping the count
abbrev pub back : ℕ → List Instr
back n =
    instr.Fence 0 0 (pos 0) ∷ instr.OpImm op.Add 9 9 (neg_ℤ (pos 1)) ∷ instr.Branch cond.Ne 9 0 (neg_ℤ (pos (4 * (n + 2))))
    ∷ li 10 (pos 0) ∷ li 17 (pos EXIT_CALL) ∷ instr.Ecall ∷ []

unfoldable pub code : ℕ → Draw (List Instr)
code rounds = do
  start ← filled 10 18
  body ← items 32
  given (front rounds ++ start ++ body ++ back (length body))

-- the instructions and the bytes of the input
unfoldable pub drawn : ℕ → Draw (List Instr × List ℕ)
drawn rounds = do
  instrs ← code rounds
  input ← bytes 256
  given (instrs, input)

-- the program of a number and a size: 42 of the size are a round
abbrev pub program : ℕ → ℕ → List Instr × List ℕ
program number size = (drawn (size / 42) number).0

-- The words spell these instructions. A word of 32 bits that spells an instruction is the only one.
pub record SpellCode (words : List ℕ) (instrs : List Instr) : Type 0 where
  pub fit : AllByRecursion (λ w. w < 2 ^ 32) words
  pub spell : map decode words ≡ map Some instrs

-- the address of the first instruction
abbrev pub code_start : ℕ
code_start = 0x10000

-- the executable of words in one part
abbrev pub executable_of : List ℕ → List ℕ
executable_of words = elf_file code_start (record { address = code_start; bytes = words_bytes words; size = length (words_bytes words) } ∷ [])

-- The program of a number and a size: an executable whose words spell the instructions, in one part, and its input.
pub record IsProgram (number size : ℕ) (file given_bytes : List ℕ) : Type 0 where
  pub code : List ℕ
  pub spells : SpellCode code (program number size).0
  pub elf : file ≡ executable_of code
  pub input : given_bytes ≡ (program number size).1
