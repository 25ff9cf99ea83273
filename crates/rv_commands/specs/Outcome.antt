-- What the commands read, write and answer (this project's own).
use Rattle.std.specs.Prelude.{ℕ, Bool, List, [], ◌∷◌, ◌++◌, length, Option, Some, None, option_map, Result, Ok, Err, nat_lt, if◌then◌else◌, zero, suc, ◌+◌, ◌-◌, true}
use Rattle.std.specs.Int.{div_ceil}
use Rattle.rv_base.specs.declared.limits.TheConstants.{RECORD_LIMIT, SHARDS_LIMIT}
use Rattle.rv_base.specs.declared.record.End.{End}
use Rattle.rv_base.specs.declared.record.Header.{Header}
use Rattle.rv_base.specs.declared.record.Refusal.{Refusal}
use Rattle.rv_base.specs.declared.record.Tuple.{Tuple}
use Rattle.rv_base.specs.declared.record.Verdict.{Verdict}
use Rattle.rv_base.specs.declared.record.Verdict.TheVariants.{Accept, Refuse}
use Rattle.rv_spec.specs.Elf.{Image, image}
use Rattle.rv_spec.specs.Run as isa
use Rattle.rv_spec.specs.Digest.{sha_lanes}
use Rattle.rv_spec.specs.Multiset.{count}
use Rattle.rv_spec.specs.Record.{Parts, reads, writes, record_file}
use Rattle.rv_rules.specs.Checks.{unless_broken}
use Rattle.rv_rules.specs.Reading.{header_checks, header_of}
use Rattle.rv_rules.specs.Verdict.{judge, parse, verdict}
use Rattle.rv_asm.specs.Assembly.{assembly, symbols_of}
use Rattle.rv_asm.specs.Executable.{executable}
use Rattle.rv_asm.specs.Listing.{listing as assembly_listing}
use Rattle.rv_asm.specs.Symbols.{Symbol}
use Rattle.rv_asm.specs.declared.faults.AsmFault.{AsmFault}
use Rattle.rv_asm.specs.declared.faults.AsmFault.TheVariants.{At, NoMemory}
use Rattle.rv_asm.specs.declared.limits.TheConstants.{SOURCE_LIMIT}
use Rattle.rv_query.specs.Questions.{cell_answer, state_answer}
use Rattle.rv_text.specs.Listing.{listing}
use Rattle.rv_trial.specs.Trials.{ends_within, budget, trial as trial_told}
use Rattle.rv_trial.specs.declared.summary.Trial.{Trial}
use Rattle.rv_upgrade.specs.Upgrade.{blocked, upgraded}
use Rattle.rv_upgrade.specs.declared.reasons.Blocked.{Blocked}
use Rattle.rv_upgrade.specs.declared.reasons.Blocked.TheVariants as why
use Rattle.rv_host.specs.Files.{Files}
use Rattle.rv_plan.specs.Plan.{Outcome, Plan, read, answer, refuses, read_within, read_program, outcome_over}
use Rattle.rv_plan.specs.declared.faults.Limited.TheVariants as limited
use Rattle.rv_plan.specs.declared.faults.VersionFault.{VersionFault}
use Rattle.rv_plan.specs.declared.faults.VersionFault.TheVariants as version
use Rattle.rv_plan.specs.declared.faults.Fault.TheVariants.{Words, Budget, Limit, Version, Step, Part, Memory, Assembly}
use Rattle.rv_commands.specs.CommandLine.{MakeWords, CheckWords, SettleWords, RunWords, ExplainWords, TrialWords, StateWords, CellWords, CommandWords, make, pipe, check, settle, run, explain, trial, state, cell, command, SplitWords, JoinWords, AsmWords, UpgradeWords, split, join, asm, upgrade}
use Rattle.rv_commands.specs.Lines.{made_line, ran_line, accepted_line, refused_line, settled_line, collision_line, trial_line, state_lines, cell_line, split_line, assembled_line, upgraded_line}
use Rattle.rv_plan.specs.declared.faults.PartFault.{PartFault}
use Rattle.rv_commands.specs.Parts.{Joined, added, added_behind, begun, bytes_due, opened, part_name, parts_due, whole_of}
use Rattle.rv_commands.specs.Differing.{least_differing}

-- a command that did its work, and one that refuses a record
abbrev pub tells : List ℕ → Outcome
tells text = record { status = 0; text = text; writes = [] }

abbrev pub denies : List ℕ → Outcome
denies text = record { status = 1; text = text; writes = [] }

-- ---- the run

-- run writes the output of a run that ends within the budget
abbrev pub ran : RunWords → Image → List ℕ → Option (ℕ × End) → Outcome
ran w i input None = refuses (Budget w.budget)
ran w i input (Some ended) =
    let output = (isa.run i input ended.0).output in
    record { status = 0; text = ran_line ended.0 ended.1 (length output); writes = (w.target, output) ∷ [] }

-- make writes the record of a run that ends within the budget and needs at most 65,536 shards
abbrev pub made : MakeWords → List ℕ → List ℕ → Option (ℕ × End) → Outcome
made w elf input None = refuses (Budget w.budget)
made w elf input (Some ended) =
    let shards = div_ceil ended.0 w.shard in
    let bytes = record_file sha_lanes w.version elf input w.shard ended.0 ended.1 in
    if nat_lt SHARDS_LIMIT shards then refuses (Limit limited.Shards)
    else record { status = 0; text = made_line ended.0 shards ended.1 (length bytes); writes = (w.target, bytes) ∷ [] }

-- ---- the verdict

-- check tells the verdict
abbrev pub told_verdict : Verdict → Outcome
told_verdict (Accept steps shards e) = tells (accepted_line steps shards e)
told_verdict (Refuse r) = denies (refused_line r)

-- settle tells of an accepted file whether its two lists are one multiset, and else the least tuple whose counts differ
abbrev pub settled_by : ℕ → List Tuple → List Tuple → Option Tuple → Outcome
settled_by steps xs ys None = tells (settled_line steps)
settled_by steps xs ys (Some t) = denies (collision_line t (count t xs) (count t ys))

abbrev pub settled : List ℕ → Result Parts Refusal → Outcome
settled elf (Err r) = denies (refused_line r)
settled elf (Ok p) =
    let xs = reads p in
    let ys = writes (image p.header.version elf) p in
    settled_by p.header.steps xs ys (least_differing xs ys)

-- ---- listings

-- explain tells rows of a file of good form
abbrev pub explained : ℕ → ℕ → Result Parts Refusal → Outcome
explained from count (Err r) = denies (refused_line r)
explained from count (Ok p) = tells (listing p from count)

-- ---- trials

-- trial tells of a generated program, whose run ends within the budget
abbrev pub tried : TrialWords → Option Trial → Outcome
tried w None = refuses (Budget budget)
tried w (Some t) = tells (trial_line w.number w.size t)

-- ---- questions

-- what a question on an accepted file is answered by, where the file has the step that is asked for
abbrev pub state_text : StateWords → List ℕ → Parts → Option (List ℕ)
state_text w elf p = option_map (state_lines w.step) (state_answer elf p w.step)

abbrev pub cell_text : CellWords → List ℕ → Parts → Option (List ℕ)
cell_text w elf p = option_map (cell_line w.name) (cell_answer elf p w.number w.step)

abbrev pub answered : ℕ → Option (List ℕ) → Outcome
answered steps (Some text) = tells text
answered steps None = refuses (Step steps)

-- state and cell ask of an accepted file
abbrev pub asked : (Parts → Option (List ℕ)) → Result Parts Refusal → Outcome
asked text (Ok p) = answered p.header.steps (text p)
asked text (Err r) = denies (refused_line r)

-- ---- records in parts

-- split writes the parts of a file of good form that has a shard for each
abbrev pub cut : SplitWords → Result Parts Refusal → Outcome
cut w (Err r) = denies (refused_line r)
cut w (Ok q) =
    let due = parts_due q w.parts w.name in
    if nat_lt q.header.shards w.parts then refuses (Limit limited.Parts)
    else record { status = 0; text = split_line w.parts (bytes_due due); writes = due }

-- a part that has no fault
abbrev pub unless_fault : {A : Type 0} → ℕ → Result A PartFault → (A → Plan) → Plan
unless_fault p (Err fault) next = answer (refuses (Part p fault))
unless_fault p (Ok x) next = next x

-- a header that breaks no check
abbrev pub unless_refused : Result Header Refusal → Plan → Plan
unless_refused (Err r) next = answer (denies (refused_line r))
unless_refused (Ok h) next = next

-- join reads part p and those behind it, so many in all, and then tells the verdict on the file that all parts make
abbrev pub parts_from : JoinWords → List ℕ → List ℕ → ℕ → ℕ → Joined → Plan
parts_from w elf input zero p j = answer (told_verdict (verdict sha_lanes elf input (whole_of j)))
parts_from w elf input (suc more) p j =
    read_within (part_name w.name p) RECORD_LIMIT limited.Record (λ file.
    unless_fault p (added_behind elf input j (opened w.parts p file)) (parts_from w elf input more (p + 1)))

-- what join does behind part 0, whose front is judged
abbrev pub behind_first : JoinWords → List ℕ → List ℕ → List ℕ → Plan
behind_first w elf input file =
    unless_fault 0 (opened w.parts 0 file) (λ x.
    unless_refused (unless_broken 0 0 (header_checks true sha_lanes elf input x.front) (header_of x.front))
    (unless_fault 0 (added elf input (begun x.front) x) (parts_from w elf input (w.parts - 1) 1)))

abbrev pub all_parts : JoinWords → List ℕ → List ℕ → Plan
all_parts w elf input = read_within (part_name w.name 0) RECORD_LIMIT limited.Record (behind_first w elf input)

-- ---- sources

-- asm writes the executable of a source without a fault, and tells its labels and words
abbrev pub assembled : AsmWords → List Symbol → Result (List ℕ) AsmFault → Outcome
assembled w symbols (Err (At n kind)) = refuses (Assembly n kind)
assembled w symbols (Err NoMemory) = refuses Memory
assembled w symbols (Ok words) =
    let file = executable words in
    record { status = 0; text = assembly_listing symbols words ++ assembled_line (length words) (length file); writes = (w.target, file) ∷ [] }

-- ---- upgrades

-- the fault of a record that has no upgrade
abbrev pub version_fault : Blocked → VersionFault
version_fault why.New = version.New
version_fault (why.Atomic word) = version.Atomic word

-- what nothing blocks
abbrev pub unless_blocked : Option Blocked → Outcome → Outcome
unless_blocked (Some reason) o = refuses (Version (version_fault reason))
unless_blocked None o = o

-- the upgraded file is written, and its steps and bytes are told
abbrev pub upgrade_done : UpgradeWords → List ℕ → ℕ → Outcome
upgrade_done w file steps =
    let new = upgraded file in record { status = 0; text = upgraded_line steps (length new); writes = (w.target, new) ∷ [] }

-- upgrade writes the upgraded file of a file of good form that nothing blocks
abbrev pub renewed : UpgradeWords → List ℕ → Result Parts Refusal → Outcome
renewed w file (Err r) = denies (refused_line r)
renewed w file (Ok p) = unless_blocked (blocked p) (upgrade_done w file p.header.steps)

-- ---- all commands

abbrev pub make_plan : MakeWords → List ℕ → List ℕ → Plan
make_plan w elf input = answer (made w elf input (ends_within (image w.version elf) input w.budget))

-- a record is made of a program and its input, by whatever workers
abbrev pub making_plan : MakeWords → Plan
making_plan w = read_program w.elf w.input (make_plan w)

abbrev pub run_plan : RunWords → List ℕ → List ℕ → Plan
run_plan w elf input = answer (ran w (image w.version elf) input (ends_within (image w.version elf) input w.budget))

-- a record is read as it is judged, or is held whole and has a limit
abbrev pub read_record : Bool → List ℕ → (List ℕ → Plan) → Plan
read_record held name next = if held then read_within name RECORD_LIMIT limited.Record next else read name next

-- more than one worker need the whole record
abbrev pub check_plan : CheckWords → List ℕ → List ℕ → Plan
check_plan w elf input = read_record (nat_lt 1 w.workers) w.file (λ file. answer (told_verdict (verdict sha_lanes elf input file)))

abbrev pub settle_plan : SettleWords → List ℕ → List ℕ → Plan
settle_plan w elf input = read_within w.file RECORD_LIMIT limited.Record (λ file. answer (settled elf (judge sha_lanes elf input file)))

abbrev pub explain_plan : ExplainWords → Plan
explain_plan w = read_within w.file RECORD_LIMIT limited.Record (λ file. answer (explained w.from w.count (parse file)))

abbrev pub trial_plan : TrialWords → Plan
trial_plan w = answer (tried w (trial_told w.number w.size))

-- a question is put to a record that is held whole
abbrev pub question_plan : List ℕ → (List ℕ → Parts → Option (List ℕ)) → List ℕ → List ℕ → Plan
question_plan name text elf input = read_within name RECORD_LIMIT limited.Record (λ file. answer (asked (text elf) (judge sha_lanes elf input file)))

abbrev pub split_plan : SplitWords → Plan
split_plan w = read_within w.file RECORD_LIMIT limited.Record (λ file. answer (cut w (parse file)))

abbrev pub asm_plan : AsmWords → Plan
asm_plan w = read_within w.source SOURCE_LIMIT limited.Source (λ source. answer (assembled w (symbols_of source) (assembly source)))

abbrev pub upgrade_plan : UpgradeWords → Plan
upgrade_plan w = read_within w.file RECORD_LIMIT limited.Record (λ file. answer (renewed w file (parse file)))

abbrev pub plan_of : CommandWords → Plan
plan_of (make w) = making_plan w
plan_of (pipe w) = making_plan w.make
plan_of (check w) = read_program w.elf w.input (check_plan w)
plan_of (settle w) = read_program w.elf w.input (settle_plan w)
plan_of (run w) = read_program w.elf w.input (run_plan w)
plan_of (explain w) = explain_plan w
plan_of (trial w) = trial_plan w
plan_of (state w) = read_program w.elf w.input (question_plan w.file (state_text w))
plan_of (cell w) = read_program w.elf w.input (question_plan w.file (cell_text w))
plan_of (split w) = split_plan w
plan_of (join w) = read_program w.elf w.input (all_parts w)
plan_of (asm w) = asm_plan w
plan_of (upgrade w) = upgrade_plan w

-- the plan of what the words spell
abbrev pub plan : Option CommandWords → Plan
plan None = answer (refuses Words)
plan (Some c) = plan_of c

-- the outcome of the words of a command line, over files of which an absent one counts as empty
unfoldable pub outcome : List (List ℕ) → Files → Outcome
outcome words files = outcome_over files (plan (command words))
