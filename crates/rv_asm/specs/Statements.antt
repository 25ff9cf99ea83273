-- What a statement spells: an instruction by its mnemonic and operands, or a word (this project's own).
use Rattle.std.specs.Prelude.{ℕ, ◌-◌, ◌*◌, ◌^◌, ◌<◌, ℤ, pos, unsigned_abs, List, length, take, Option, Some, None, Result, Ok, Err, codes, bytes_eq, ◌==◌, slice_index, if◌then◌else◌}
use Rattle.std.specs.List.{list_all}
use Rattle.std.specs.Option.{ok_or}
use Rattle.rv_base.specs.declared.instr.Instr.{Instr}
use Rattle.rv_base.specs.declared.instr.Instr.TheVariants.{Lui, Auipc, Jal, Jalr, Branch, Load, Store, OpImm, Op as OpReg, Fence, Ecall, Ebreak}
use Rattle.rv_decode.specs.Encoding.{word_of}
use Rattle.rv_text.specs.Syntax.{syntax}
use Rattle.rv_text.specs.declared.syntax.Operands.{Operands}
use Rattle.rv_text.specs.declared.syntax.Operands.TheVariants.{Upper, Jump, Branch as BranchOperands, Indexed, Immediate, Registers, Nothing}
use Rattle.rv_asm.specs.declared.faults.TheConstants.{STATEMENT, OPERANDS, UNDEFINED, RANGE}
use Rattle.rv_asm.specs.declared.operands.Fields.{Fields}
use Rattle.rv_asm.specs.Lines.{is_blank, trimmed, before, behind, mnemonic_text, operands_text}
use Rattle.rv_asm.specs.Numbers.{number, register, is_name}
use Rattle.rv_asm.specs.Patterns.{pattern, in_range, is_within}

-- ---- operands

-- The texts between commas, without blanks around them. No operand is empty or has a comma in it, so too few and too many are misspelled.
abbrev pub first : List ℕ → List ℕ
first text = trimmed (before 44 text)

abbrev pub second : List ℕ → List ℕ
second text = first (behind 44 text)

abbrev pub second_of_two : List ℕ → List ℕ
second_of_two text = trimmed (behind 44 text)

abbrev pub third_of_three : List ℕ → List ℕ
third_of_three text = trimmed (behind 44 (behind 44 text))

-- of an offset and a base, as `2(x5)`: what stands before the parenthesis, and the register in it
abbrev pub offset : List ℕ → List ℕ
offset text = before 40 text

abbrev pub parenthesized_register : List ℕ → Option ℕ
parenthesized_register text = if slice_index text (length text - 1) == 41 then register (take (length text - 1) text) else None

abbrev pub base : List ℕ → Option ℕ
base text = parenthesized_register (behind 40 text)

-- a number, or else the number that a name means, which has none where it is no label
abbrev pub numeral : List ℕ → Result ℤ ℕ
numeral text = ok_or (number text) OPERANDS

abbrev pub number_or_name : (List ℕ → Option ℤ) → List ℕ → Option ℤ → Result ℤ ℕ
number_or_name meaning text (Some n) = Ok n
number_or_name meaning text None = if is_name text then ok_or (meaning text) UNDEFINED else Err OPERANDS

unfoldable pub target : (List ℕ → Option ℤ) → List ℕ → Result ℤ ℕ
target meaning text = number_or_name meaning text (number text)

-- registers are 0 to 31
abbrev pub HasRegisters : Fields → Type 0
HasRegisters f = (f.first < 32) × (f.second < 32) × (f.third < 32)

-- the registers in their order, 0 for each that isn't there, and the number
abbrev pub fields_of : Option ℕ → Option ℕ → Option ℕ → Result ℤ ℕ → Result Fields ℕ
fields_of (Some a) (Some b) (Some c) (Ok n) = Ok (record { first = a; second = b; third = c; number = n })
fields_of (Some a) (Some b) (Some c) (Err kind) = Err kind
fields_of _ _ _ _ = Err OPERANDS

-- what operands of a shape spell
unfoldable pub fields : (List ℕ → Option ℤ) → Operands → List ℕ → Result Fields ℕ
fields meaning (Upper rd upper) text = fields_of (register (first text)) (Some 0) (Some 0) (numeral (second_of_two text))
fields meaning (Jump rd off) text = fields_of (register (first text)) (Some 0) (Some 0) (target meaning (second_of_two text))
fields meaning (BranchOperands rs1 rs2 off) text = fields_of (register (first text)) (register (second text)) (Some 0) (target meaning (third_of_three text))
fields meaning (Indexed r off b) text = fields_of (register (first text)) (base (second_of_two text)) (Some 0) (numeral (offset (second_of_two text)))
fields meaning (Immediate rd rs1 imm) text = fields_of (register (first text)) (register (second text)) (Some 0) (numeral (third_of_three text))
fields meaning (Registers rd rs1 rs2) text = fields_of (register (first text)) (register (second text)) (register (third_of_three text)) (Ok (pos 0))
fields meaning Nothing text = if list_all is_blank text then fields_of (Some 0) (Some 0) (Some 0) (Ok (pos 0)) else Err OPERANDS
fields meaning _ text = Err OPERANDS

-- ---- statements

-- an instruction with these operands
unfoldable pub instruction : Instr → Fields → Instr
instruction (Lui rd imm) f = Lui f.first (unsigned_abs f.number * 2 ^ 12)
instruction (Auipc rd imm) f = Auipc f.first (unsigned_abs f.number * 2 ^ 12)
instruction (Jal rd off) f = Jal f.first f.number
instruction (Jalr rd rs1 imm) f = Jalr f.first f.second f.number
instruction (Branch c rs1 rs2 off) f = Branch c f.first f.second f.number
instruction (Load kind rd rs1 imm) f = Load kind f.first f.second f.number
instruction (Store kind rs1 rs2 imm) f = Store kind f.second f.first f.number
instruction (OpImm o rd rs1 imm) f = OpImm o f.first f.second f.number
instruction (OpReg o rd rs1 rs2) f = OpReg o f.first f.second f.third
instruction (Fence rd rs1 imm) f = Fence 0 0 (pos 0)
instruction Ecall f = Ecall
instruction Ebreak f = Ebreak

abbrev pub instruction_word : Instr → Result Fields ℕ → Result ℕ ℕ
instruction_word p (Ok f) = if in_range p f.number then Ok (word_of (instruction p f)) else Err RANGE
instruction_word p (Err kind) = Err kind

-- `.word` and a number of 32 bits
abbrev pub data_word : Result ℤ ℕ → Result ℕ ℕ
data_word (Ok n) = if is_within (pos 0) (pos 4294967295) n then Ok (unsigned_abs n) else Err RANGE
data_word (Err kind) = Err kind

abbrev pub word_by : (List ℕ → Option ℤ) → List ℕ → Option Instr → Result ℕ ℕ
word_by meaning text (Some p) = instruction_word p (fields meaning (syntax p).operands text)
word_by meaning text None = Err STATEMENT

-- the word of a statement, or the kind of its fault
unfoldable pub statement_word : (List ℕ → Option ℤ) → List ℕ → Result ℕ ℕ
statement_word meaning text =
    if bytes_eq (mnemonic_text text) (codes ".word") then data_word (numeral (trimmed (operands_text text)))
    else word_by meaning (operands_text text) (pattern (mnemonic_text text))
