-- The words of a command line, and the command that they spell (this project's own).
use Rattle.rv_base.specs.declared.limits.TheConstants.{BUDGET_LIMIT, SHARD_SIZE_LIMIT, WORKERS_LIMIT}
use Rattle.rv_spec.specs.Cells.{register_cell}
use Rattle.rv_parts.specs.declared.cutting.TheConstants.{PARTS_LIMIT}
use Rattle.rv_commands.specs.declared.commands.TheConstants.{LAST_STEP, LISTED_ROWS_LIMIT, LAST_NUMBER, LEAST_PIPE_WORKERS, LEAST_SIZE, SIZE_LIMIT, WAITING_LIMIT}
use Rattle.rv_commands.specs.declared.spelled_cells.TheConstants.{LAST_REGISTER, ADDRESS_DIGITS, WORD_BYTES}
use Rattle.std.specs.Prelude.{ℕ, ◌+◌, ◌*◌, ◌-◌, ◌/◌, ◌%◌, Bool, not, ◌&&◌, ◌||◌, List, [], ◌∷◌, length, fold, Option, Some, None, option_map, nat_lt, true, false, ◌==◌, bytes_eq, codes, slice_index, if◌then◌else◌}
use Rattle.std.specs.List.{list_all}
use Rattle.std.specs.Int.{is_in_range}

-- ---- numbers

abbrev pub is_digit : ℕ → Bool
is_digit c = is_in_range 48 57 c

abbrev pub decimal_value : List ℕ → ℕ
decimal_value digits = fold (λ n c. 10 * n + (c - 48)) 0 digits

-- a number is 0, or at most 20 digits that do not begin with 0
abbrev pub is_number : List ℕ → Bool
is_number text = is_in_range 1 20 (length text) && list_all is_digit text && (length text == 1 || not (slice_index text 0 == 48))

-- a number within a range
abbrev pub number : ℕ → ℕ → List ℕ → Option ℕ
number low high text = if is_number text && is_in_range low high (decimal_value text) then Some (decimal_value text) else None

-- ---- cells

-- a hexadecimal digit in lower case, and its value
abbrev pub is_hex_digit : ℕ → Bool
is_hex_digit c = is_digit c || is_in_range 97 102 c

abbrev pub hex_digit_value : ℕ → ℕ
hex_digit_value c = if is_digit c then c - 48 else c - 87

abbrev pub hex_value : List ℕ → ℕ
hex_value digits = fold (λ n c. 16 * n + hex_digit_value c) 0 digits

-- eight digits of the address of a word of memory
abbrev pub is_address : List ℕ → Bool
is_address text = length text == ADDRESS_DIGITS && list_all is_hex_digit text && hex_value text % WORD_BYTES == 0

abbrev pub word_spelled : List ℕ → Option ℕ
word_spelled text = if is_address text then Some (hex_value text / WORD_BYTES) else None

-- the number of a register but x0
abbrev pub register_spelled : List ℕ → Option ℕ
register_spelled text = option_map register_cell (number 1 LAST_REGISTER text)

-- x and the number of a register, or m and the address of a word
abbrev pub cell_spelled : List ℕ → Option ℕ
cell_spelled [] = None
cell_spelled (kind ∷ text) = if kind == 120 then register_spelled text else (if kind == 109 then word_spelled text else None)

-- ---- commands

-- make ELF INPUT RECORD WORKERS SHARD BUDGET for version 1, make2 for version 2
pub record MakeWords : Type 0 where
  pub version : ℕ
  pub elf : List ℕ
  pub input : List ℕ
  pub target : List ℕ
  pub workers : ℕ
  pub shard : ℕ
  pub budget : ℕ

-- pipe ELF INPUT RECORD WORKERS SHARD BUDGET WAITING, as make of version 1
pub record PipeWords : Type 0 where
  pub make : MakeWords
  pub waiting : ℕ

-- run ELF INPUT OUTPUT BUDGET for version 1, run2 for version 2
pub record RunWords : Type 0 where
  pub version : ℕ
  pub elf : List ℕ
  pub input : List ℕ
  pub target : List ℕ
  pub budget : ℕ

-- check ELF INPUT RECORD WORKERS
pub record CheckWords : Type 0 where
  pub elf : List ℕ
  pub input : List ℕ
  pub file : List ℕ
  pub workers : ℕ

-- settle ELF INPUT RECORD
pub record SettleWords : Type 0 where
  pub elf : List ℕ
  pub input : List ℕ
  pub file : List ℕ

-- explain RECORD FROM COUNT
pub record ExplainWords : Type 0 where
  pub file : List ℕ
  pub from : ℕ
  pub count : ℕ

-- trial NUMBER SIZE
pub record TrialWords : Type 0 where
  pub number : ℕ
  pub size : ℕ

-- state ELF INPUT RECORD STEP
pub record StateWords : Type 0 where
  pub elf : List ℕ
  pub input : List ℕ
  pub file : List ℕ
  pub step : ℕ

-- cell ELF INPUT RECORD CELL STEP, with the cell as it is spelled and as a number
pub record CellWords : Type 0 where
  pub elf : List ℕ
  pub input : List ℕ
  pub file : List ℕ
  pub name : List ℕ
  pub number : ℕ
  pub step : ℕ

-- split RECORD PARTS NAME
pub record SplitWords : Type 0 where
  pub file : List ℕ
  pub parts : ℕ
  pub name : List ℕ

-- join ELF INPUT NAME PARTS
pub record JoinWords : Type 0 where
  pub elf : List ℕ
  pub input : List ℕ
  pub name : List ℕ
  pub parts : ℕ

-- asm SOURCE ELF
pub record AsmWords : Type 0 where
  pub source : List ℕ
  pub target : List ℕ

-- upgrade OLD NEW
pub record UpgradeWords : Type 0 where
  pub file : List ℕ
  pub target : List ℕ

-- a command with its numbers read
pub data CommandWords : Type 0 where
  make : MakeWords → CommandWords
  pipe : PipeWords → CommandWords
  check : CheckWords → CommandWords
  settle : SettleWords → CommandWords
  run : RunWords → CommandWords
  explain : ExplainWords → CommandWords
  trial : TrialWords → CommandWords
  state : StateWords → CommandWords
  cell : CellWords → CommandWords
  split : SplitWords → CommandWords
  join : JoinWords → CommandWords
  asm : AsmWords → CommandWords
  upgrade : UpgradeWords → CommandWords

-- what a record is made of and by, with its numbers, where each is one
abbrev pub make_words : ℕ → List ℕ → List ℕ → List ℕ → Option ℕ → Option ℕ → Option ℕ → Option MakeWords
make_words version elf input target (Some workers) (Some shard) (Some budget) =
    Some (record { version = version; elf = elf; input = input; target = target; workers = workers; shard = shard; budget = budget })
make_words version elf input target _ _ _ = None

-- ELF INPUT RECORD WORKERS SHARD BUDGET, with a least number of workers
abbrev pub making : ℕ → ℕ → List (List ℕ) → Option MakeWords
making version least (elf ∷ input ∷ target ∷ workers ∷ shard ∷ budget ∷ []) =
    make_words version elf input target (number least WORKERS_LIMIT workers) (number 1 SHARD_SIZE_LIMIT shard) (number 1 BUDGET_LIMIT budget)
making version least _ = None

abbrev pub make_command : ℕ → List (List ℕ) → Option CommandWords
make_command version arguments = option_map make (making version 1 arguments)

abbrev pub pipe_words : Option MakeWords → Option ℕ → Option CommandWords
pipe_words (Some m) (Some waiting) = Some (pipe (record { make = m; waiting = waiting }))
pipe_words _ _ = None

abbrev pub pipe_command : List (List ℕ) → Option CommandWords
pipe_command (elf ∷ input ∷ target ∷ workers ∷ shard ∷ budget ∷ waiting ∷ []) =
    pipe_words (making 1 LEAST_PIPE_WORKERS (elf ∷ input ∷ target ∷ workers ∷ shard ∷ budget ∷ [])) (number 1 WAITING_LIMIT waiting)
pipe_command _ = None

abbrev pub check_words : List ℕ → List ℕ → List ℕ → Option ℕ → Option CommandWords
check_words elf input file (Some workers) = Some (check (record { elf = elf; input = input; file = file; workers = workers }))
check_words elf input file None = None

abbrev pub check_command : List (List ℕ) → Option CommandWords
check_command (elf ∷ input ∷ file ∷ workers ∷ []) = check_words elf input file (number 1 WORKERS_LIMIT workers)
check_command _ = None

abbrev pub settle_command : List (List ℕ) → Option CommandWords
settle_command (elf ∷ input ∷ file ∷ []) = Some (settle (record { elf = elf; input = input; file = file }))
settle_command _ = None

abbrev pub run_words : ℕ → List ℕ → List ℕ → List ℕ → Option ℕ → Option CommandWords
run_words version elf input target (Some budget) =
    Some (run (record { version = version; elf = elf; input = input; target = target; budget = budget }))
run_words version elf input target None = None

abbrev pub run_command : ℕ → List (List ℕ) → Option CommandWords
run_command version (elf ∷ input ∷ target ∷ budget ∷ []) = run_words version elf input target (number 1 BUDGET_LIMIT budget)
run_command version _ = None

abbrev pub explain_words : List ℕ → Option ℕ → Option ℕ → Option CommandWords
explain_words file (Some from) (Some count) = Some (explain (record { file = file; from = from; count = count }))
explain_words file _ _ = None

abbrev pub explain_command : List (List ℕ) → Option CommandWords
explain_command (file ∷ from ∷ count ∷ []) = explain_words file (number 0 LAST_STEP from) (number 1 LISTED_ROWS_LIMIT count)
explain_command _ = None

abbrev pub trial_words : Option ℕ → Option ℕ → Option CommandWords
trial_words (Some number) (Some size) = Some (trial (record { number = number; size = size }))
trial_words _ _ = None

abbrev pub trial_command : List (List ℕ) → Option CommandWords
trial_command (n ∷ size ∷ []) = trial_words (number 0 LAST_NUMBER n) (number LEAST_SIZE SIZE_LIMIT size)
trial_command _ = None

abbrev pub state_words : List ℕ → List ℕ → List ℕ → Option ℕ → Option CommandWords
state_words elf input file (Some step) = Some (state (record { elf = elf; input = input; file = file; step = step }))
state_words elf input file None = None

abbrev pub state_command : List (List ℕ) → Option CommandWords
state_command (elf ∷ input ∷ file ∷ step ∷ []) = state_words elf input file (number 0 LAST_STEP step)
state_command _ = None

abbrev pub cell_words : List ℕ → List ℕ → List ℕ → List ℕ → Option ℕ → Option ℕ → Option CommandWords
cell_words elf input file name (Some number) (Some step) =
    Some (cell (record { elf = elf; input = input; file = file; name = name; number = number; step = step }))
cell_words elf input file name _ _ = None

abbrev pub cell_command : List (List ℕ) → Option CommandWords
cell_command (elf ∷ input ∷ file ∷ name ∷ step ∷ []) = cell_words elf input file name (cell_spelled name) (number 0 LAST_STEP step)
cell_command _ = None

abbrev pub split_words : List ℕ → List ℕ → Option ℕ → Option CommandWords
split_words file name (Some parts) = Some (split (record { file = file; parts = parts; name = name }))
split_words file name None = None

abbrev pub split_command : List (List ℕ) → Option CommandWords
split_command (file ∷ parts ∷ name ∷ []) = split_words file name (number 1 PARTS_LIMIT parts)
split_command _ = None

abbrev pub join_words : List ℕ → List ℕ → List ℕ → Option ℕ → Option CommandWords
join_words elf input name (Some parts) = Some (join (record { elf = elf; input = input; name = name; parts = parts }))
join_words elf input name None = None

abbrev pub join_command : List (List ℕ) → Option CommandWords
join_command (elf ∷ input ∷ name ∷ parts ∷ []) = join_words elf input name (number 1 PARTS_LIMIT parts)
join_command _ = None

abbrev pub asm_command : List (List ℕ) → Option CommandWords
asm_command (source ∷ target ∷ []) = Some (asm (record { source = source; target = target }))
asm_command _ = None

abbrev pub upgrade_command : List (List ℕ) → Option CommandWords
upgrade_command (file ∷ target ∷ []) = Some (upgrade (record { file = file; target = target }))
upgrade_command _ = None

-- the command that the words spell, if they spell one
abbrev pub command : List (List ℕ) → Option CommandWords
command [] = None
command (name ∷ arguments) =
    if bytes_eq name (codes "make") then make_command 1 arguments
    else (if bytes_eq name (codes "make2") then make_command 2 arguments
    else (if bytes_eq name (codes "pipe") then pipe_command arguments
    else (if bytes_eq name (codes "check") then check_command arguments
    else (if bytes_eq name (codes "settle") then settle_command arguments
    else (if bytes_eq name (codes "run") then run_command 1 arguments
    else (if bytes_eq name (codes "run2") then run_command 2 arguments
    else (if bytes_eq name (codes "explain") then explain_command arguments
    else (if bytes_eq name (codes "trial") then trial_command arguments
    else (if bytes_eq name (codes "state") then state_command arguments
    else (if bytes_eq name (codes "cell") then cell_command arguments
    else (if bytes_eq name (codes "split") then split_command arguments
    else (if bytes_eq name (codes "join") then join_command arguments
    else (if bytes_eq name (codes "asm") then asm_command arguments
    else (if bytes_eq name (codes "upgrade") then upgrade_command arguments
    else None))))))))))))))

-- a command that is given more than one worker, as each pipe is
abbrev pub is_teamwork : Option CommandWords → Bool
is_teamwork (Some (make w)) = nat_lt 1 w.workers
is_teamwork (Some (pipe w)) = true
is_teamwork (Some (check w)) = nat_lt 1 w.workers
is_teamwork _ = false
