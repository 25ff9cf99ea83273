-- The commands of the program, and the words that spell them.
use Rattle.std.specs.Prelude.{◌≡◌, ℕ, Option, Some, None, MatchOption, IsTrue, ⊤}
use Rattle.std.specs.Int.{IsInRange}
use Rattle.rv_base.specs.declared.limits.TheConstants.{BUDGET_LIMIT, SHARD_SIZE_LIMIT, WORKERS_LIMIT}
use Rattle.rv_spec.specs.Cells.{is_cell}
use Rattle.rv_commands.specs.CommandLine.{CommandWords, MakeWords, PipeWords, CheckWords, SettleWords, RunWords, ExplainWords, TrialWords, StateWords, CellWords, make, pipe, check, settle, run, explain, trial, state, cell, SplitWords, JoinWords, AsmWords, UpgradeWords, split, join, asm, upgrade}
use Rattle.rv_parts.specs.declared.cutting.TheConstants.{PARTS_LIMIT}
use Rattle.rv_commands.specs.declared.commands.Command.{Command}
use Rattle.rv_commands.specs.declared.commands.Command.TheVariants as command
use Rattle.rv_commands.specs.declared.commands.Make.{Make}
use Rattle.rv_commands.specs.declared.commands.Pipe.{Pipe}
use Rattle.rv_commands.specs.declared.commands.Check.{Check}
use Rattle.rv_commands.specs.declared.commands.Settle.{Settle}
use Rattle.rv_commands.specs.declared.commands.Run.{Run}
use Rattle.rv_commands.specs.declared.commands.Explain.{Explain}
use Rattle.rv_commands.specs.declared.commands.Trial.{Trial}
use Rattle.rv_commands.specs.declared.commands.State.{State}
use Rattle.rv_commands.specs.declared.commands.Cell.{Cell}
use Rattle.rv_commands.specs.declared.commands.Split.{Split}
use Rattle.rv_commands.specs.declared.commands.Join.{Join}
use Rattle.rv_commands.specs.declared.commands.Asm.{Asm}
use Rattle.rv_commands.specs.declared.commands.Upgrade.{Upgrade}
use Rattle.rv_commands.specs.declared.commands.TheConstants.{LAST_STEP, LISTED_ROWS_LIMIT, LAST_NUMBER, LEAST_PIPE_WORKERS, LEAST_SIZE, SIZE_LIMIT, WAITING_LIMIT}

abbrev pub make_words : Make → MakeWords
make_words m = record { version = m.version; elf = m.elf.now; input = m.input.now; target = m.«record».now; workers = m.workers; shard = m.shard; budget = m.budget }

abbrev pub pipe_words : Pipe → PipeWords
pipe_words p = record { make = make_words p.make; waiting = p.waiting }

abbrev pub check_words : Check → CheckWords
check_words c = record { elf = c.elf.now; input = c.input.now; file = c.«record».now; workers = c.workers }

abbrev pub settle_words : Settle → SettleWords
settle_words c = record { elf = c.elf.now; input = c.input.now; file = c.«record».now }

abbrev pub run_words : Run → RunWords
run_words r = record { version = r.version; elf = r.elf.now; input = r.input.now; target = r.output.now; budget = r.budget }

abbrev pub explain_words : Explain → ExplainWords
explain_words e = record { file = e.«record».now; from = e.from; count = e.count }

abbrev pub trial_words : Trial → TrialWords
trial_words t = record { number = t.number; size = t.size }

abbrev pub state_words : State → StateWords
state_words s = record { elf = s.elf.now; input = s.input.now; file = s.«record».now; step = s.step }

abbrev pub cell_words : Cell → CellWords
cell_words c = record { elf = c.elf.now; input = c.input.now; file = c.«record».now; name = c.name.now; number = c.number; step = c.step }

abbrev pub split_words : Split → SplitWords
split_words s = record { file = s.«record».now; parts = s.parts; name = s.name.now }

abbrev pub join_words : Join → JoinWords
join_words j = record { elf = j.elf.now; input = j.input.now; name = j.name.now; parts = j.parts }

abbrev pub asm_words : Asm → AsmWords
asm_words a = record { source = a.source.now; target = a.elf.now }

abbrev pub upgrade_words : Upgrade → UpgradeWords
upgrade_words u = record { file = u.old.now; target = u.target.now }

abbrev pub words_of : Command → CommandWords
words_of (command.Make m) = make (make_words m)
words_of (command.Pipe p) = pipe (pipe_words p)
words_of (command.Check c) = check (check_words c)
words_of (command.Settle c) = settle (settle_words c)
words_of (command.Run r) = run (run_words r)
words_of (command.Explain e) = explain (explain_words e)
words_of (command.Trial t) = trial (trial_words t)
words_of (command.State s) = state (state_words s)
words_of (command.Cell c) = cell (cell_words c)
words_of (command.Split s) = split (split_words s)
words_of (command.Join j) = join (join_words j)
words_of (command.Asm a) = asm (asm_words a)
words_of (command.Upgrade u) = upgrade (upgrade_words u)

-- what was spelled is the command, or none
abbrev pub IsCommand : Option CommandWords → Option Command → Type 0
IsCommand spelled c = MatchOption c (spelled ≡ None) (λ c. spelled ≡ Some (words_of c))

-- the numbers that a record is made by are in their ranges
abbrev pub HasMakeRanges : ℕ → Make → Type 0
HasMakeRanges least m = IsInRange 1 2 m.version × IsInRange least WORKERS_LIMIT m.workers × IsInRange 1 SHARD_SIZE_LIMIT m.shard × IsInRange 1 BUDGET_LIMIT m.budget

-- what was spelled is what a record is made by, or none
abbrev pub IsMaking : Option MakeWords → Option Make → Type 0
IsMaking spelled m = MatchOption m (spelled ≡ None) (λ m. spelled ≡ Some (make_words m))

-- the numbers of a command are in their ranges
abbrev pub HasRanges : Command → Type 0
HasRanges (command.Make m) = HasMakeRanges 1 m
HasRanges (command.Pipe p) = HasMakeRanges LEAST_PIPE_WORKERS p.make × IsInRange 1 WAITING_LIMIT p.waiting
HasRanges (command.Check c) = IsInRange 1 WORKERS_LIMIT c.workers
HasRanges (command.Settle c) = ⊤
HasRanges (command.Run r) = IsInRange 1 2 r.version × IsInRange 1 BUDGET_LIMIT r.budget
HasRanges (command.Explain e) = IsInRange 0 LAST_STEP e.from × IsInRange 1 LISTED_ROWS_LIMIT e.count
HasRanges (command.Trial t) = IsInRange 0 LAST_NUMBER t.number × IsInRange LEAST_SIZE SIZE_LIMIT t.size
HasRanges (command.State s) = IsInRange 0 LAST_STEP s.step
HasRanges (command.Cell c) = IsTrue (is_cell 1 c.number) × IsInRange 0 LAST_STEP c.step
HasRanges (command.Split s) = IsInRange 1 PARTS_LIMIT s.parts
HasRanges (command.Join j) = IsInRange 1 PARTS_LIMIT j.parts
HasRanges (command.Asm a) = ⊤
HasRanges (command.Upgrade u) = ⊤
