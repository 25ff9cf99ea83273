-- The outcomes of all commands have a status of the table, and write only with success.
use Rattle.std.proofs.Common.{ℕ, zero, suc, ◌+◌, ◌-◌, List, Option, Some, None, Ok, Err, Result, nat_lt, true, false, Bool, refl, arith, if◌then◌else◌}
use Rattle.std.specs.Int.{div_ceil}
use Rattle.rv_base.specs.declared.limits.TheConstants.{RECORD_LIMIT, SHARDS_LIMIT}
use Rattle.rv_base.specs.declared.record.End.{End}
use Rattle.rv_base.specs.declared.record.Header.{Header}
use Rattle.rv_base.specs.declared.record.Refusal.{Refusal}
use Rattle.rv_base.specs.declared.record.Tuple.{Tuple}
use Rattle.rv_base.specs.declared.record.Verdict.{Verdict}
use Rattle.rv_base.specs.declared.record.Verdict.TheVariants.{Accept, Refuse}
use Rattle.rv_spec.specs.Elf.{Image, image}
use Rattle.rv_spec.specs.Digest.{sha_lanes}
use Rattle.rv_spec.specs.Record.{Parts, reads, writes}
use Rattle.rv_rules.specs.Checks.{unless_broken}
use Rattle.rv_rules.specs.Reading.{header_checks, header_of}
use Rattle.rv_rules.specs.Verdict.{judge, parse, verdict}
use Rattle.rv_plan.specs.Plan.{Outcome, Plan, answer, read, read_within, refuses}
use Rattle.rv_plan.specs.Answers.{AllListed, IsListed}
use Rattle.rv_plan.specs.declared.faults.Limited.TheVariants as limited
use Rattle.rv_plan.specs.declared.faults.Fault.TheVariants.{Words, Budget, Limit, Version, Step, Part, Memory, Assembly}
use Rattle.rv_plan.proofs.Lemmas.{at-most-8, listed-answer, listed-if, listed-program, listed-read, listed-within, refusal-listed, success-listed}
use Rattle.rv_commands.specs.CommandLine.{MakeWords, RunWords, TrialWords, CommandWords, make, pipe, check, settle, run, explain, trial, state, cell, SplitWords, JoinWords, AsmWords, UpgradeWords, split, join, asm, upgrade}
use Rattle.rv_asm.specs.Assembly.{assembly, symbols_of}
use Rattle.rv_asm.specs.Symbols.{Symbol}
use Rattle.rv_asm.specs.declared.faults.AsmFault.{AsmFault}
use Rattle.rv_asm.specs.declared.faults.AsmFault.TheVariants.{At, NoMemory}
use Rattle.rv_asm.specs.declared.limits.TheConstants.{SOURCE_LIMIT}
use Rattle.rv_upgrade.specs.Upgrade.{blocked}
use Rattle.rv_upgrade.specs.declared.reasons.Blocked.{Blocked}
use Rattle.rv_trial.specs.Trials.{ends_within, budget, trial as trial_told}
use Rattle.rv_trial.specs.declared.summary.Trial.{Trial}
use Rattle.rv_commands.specs.Differing.{least_differing}
use Rattle.rv_commands.specs.Outcome.{denies, ran, made, told_verdict, settled, settled_by, explained, tried, answered, asked, question_plan, state_text, cell_text, make_plan, making_plan, read_record, check_plan, settle_plan, run_plan, plan_of, plan, cut, unless_fault, unless_refused, parts_from, behind_first, all_parts, assembled, unless_blocked, upgrade_done, renewed, version_fault}
use Rattle.rv_plan.specs.declared.faults.PartFault.{PartFault}
use Rattle.rv_commands.specs.Parts.{Joined, added, added_behind, begun, opened, part_name, whole_of}

denied-listed : (text : List ℕ) → IsListed (denies text)
denied-listed text = at-most-8 _ (omega arith) (λ _. refl)

ran-listed : (w : RunWords) (i : Image) (input : List ℕ) (ended : Option (ℕ × End)) → IsListed (ran w i input ended)
ran-listed w i input None = refusal-listed (Budget w.budget)
ran-listed w i input (Some e) = success-listed _ refl

within-listed : (b : Bool) (o p : Outcome) → IsListed o → IsListed p → IsListed (if b then o else p)
within-listed true o p ho hp = ho
within-listed false o p ho hp = hp

made-listed : (w : MakeWords) (elf input : List ℕ) (ended : Option (ℕ × End)) → IsListed (made w elf input ended)
made-listed w elf input None = refusal-listed (Budget w.budget)
made-listed w elf input (Some e) = within-listed (nat_lt SHARDS_LIMIT (div_ceil e.0 w.shard)) (refuses (Limit limited.Shards)) _ (refusal-listed (Limit limited.Shards)) (success-listed _ refl)

verdict-listed : (v : Verdict) → IsListed (told_verdict v)
verdict-listed (Accept steps shards e) = success-listed _ refl
verdict-listed (Refuse r) = denied-listed _

settled-by-listed : (steps : ℕ) (xs ys : List Tuple) (t : Option Tuple) → IsListed (settled_by steps xs ys t)
settled-by-listed steps xs ys None = success-listed _ refl
settled-by-listed steps xs ys (Some t) = denied-listed _

settled-listed : (elf : List ℕ) (r : Result Parts Refusal) → IsListed (settled elf r)
settled-listed elf (Err r) = denied-listed _
settled-listed elf (Ok p) = settled-by-listed p.header.steps (reads p) (writes (image p.header.version elf) p) (least_differing (reads p) (writes (image p.header.version elf) p))

explained-listed : (from count : ℕ) (r : Result Parts Refusal) → IsListed (explained from count r)
explained-listed from count (Err r) = denied-listed _
explained-listed from count (Ok p) = success-listed _ refl

record-listed : (held : Bool) (name : List ℕ) (next : List ℕ → Plan) → ((bytes : List ℕ) → AllListed (next bytes)) → AllListed (read_record held name next)
record-listed held name next h = listed-if held (read_within name RECORD_LIMIT limited.Record next) (read name next) (listed-within name RECORD_LIMIT limited.Record next h) (listed-read name next h)

tried-listed : (w : TrialWords) (t : Option Trial) → IsListed (tried w t)
tried-listed w None = refusal-listed (Budget budget)
tried-listed w (Some t) = success-listed _ refl

answered-listed : (steps : ℕ) (text : Option (List ℕ)) → IsListed (answered steps text)
answered-listed steps None = refusal-listed (Step steps)
answered-listed steps (Some text) = success-listed _ refl

asked-listed : (text : Parts → Option (List ℕ)) (r : Result Parts Refusal) → IsListed (asked text r)
asked-listed text (Err r) = denied-listed _
asked-listed text (Ok p) = answered-listed p.header.steps (text p)

question-listed : (name : List ℕ) (text : List ℕ → Parts → Option (List ℕ)) (elf input : List ℕ) → AllListed (question_plan name text elf input)
question-listed name text elf input =
    listed-within name RECORD_LIMIT limited.Record (λ file. answer (asked (text elf) (judge sha_lanes elf input file))) (λ file. listed-answer _ (asked-listed (text elf) (judge sha_lanes elf input file)))

cut-listed : (w : SplitWords) (r : Result Parts Refusal) → IsListed (cut w r)
cut-listed w (Err r) = denied-listed _
cut-listed w (Ok q) = within-listed (nat_lt q.header.shards w.parts) (refuses (Limit limited.Parts)) _ (refusal-listed (Limit limited.Parts)) (success-listed _ refl)

unless_fault-listed : {A : Type 0} (p : ℕ) (r : Result A PartFault) (next : A → Plan) → ((x : A) → AllListed (next x)) → AllListed (unless_fault p r next)
unless_fault-listed p (Err fault) next h = listed-answer _ (refusal-listed (Part p fault))
unless_fault-listed p (Ok x) next h = h x

unless_refused-listed : (r : Result Header Refusal) (next : Plan) → AllListed next → AllListed (unless_refused r next)
unless_refused-listed (Err r) next h = listed-answer _ (denied-listed _)
unless_refused-listed (Ok x) next h = h

parts-listed : (w : JoinWords) (elf input : List ℕ) (more p : ℕ) (j : Joined) → AllListed (parts_from w elf input more p j)
parts-listed w elf input zero p j = listed-answer _ (verdict-listed (verdict sha_lanes elf input (whole_of j)))
parts-listed w elf input (suc more) p j =
    listed-within (part_name w.name p) RECORD_LIMIT limited.Record _
    (λ file. unless_fault-listed p (added_behind elf input j (opened w.parts p file)) (parts_from w elf input more (p + 1)) (parts-listed w elf input more (p + 1)))

first-listed : (w : JoinWords) (elf input file : List ℕ) → AllListed (behind_first w elf input file)
first-listed w elf input file =
    unless_fault-listed 0 (opened w.parts 0 file) _
    (λ x. unless_refused-listed (unless_broken 0 0 (header_checks true sha_lanes elf input x.front) (header_of x.front)) _
    (unless_fault-listed 0 (added elf input (begun x.front) x) (parts_from w elf input (w.parts - 1) 1) (parts-listed w elf input (w.parts - 1) 1)))

assembled-listed : (w : AsmWords) (symbols : List Symbol) (r : Result (List ℕ) AsmFault) → IsListed (assembled w symbols r)
assembled-listed w symbols (Err (At n kind)) = refusal-listed (Assembly n kind)
assembled-listed w symbols (Err NoMemory) = refusal-listed Memory
assembled-listed w symbols (Ok words) = success-listed _ refl

unless_blocked-listed : (reason : Option Blocked) (o : Outcome) → IsListed o → IsListed (unless_blocked reason o)
unless_blocked-listed (Some reason) o h = refusal-listed (Version (version_fault reason))
unless_blocked-listed None o h = h

renewed-listed : (w : UpgradeWords) (file : List ℕ) (r : Result Parts Refusal) → IsListed (renewed w file r)
renewed-listed w file (Err r) = denied-listed _
renewed-listed w file (Ok p) = unless_blocked-listed (blocked p) (upgrade_done w file p.header.steps) (success-listed _ refl)

making-listed : (w : MakeWords) → AllListed (making_plan w)
making-listed w = listed-program w.elf w.input (make_plan w) (λ program given. listed-answer _ (made-listed w program given (ends_within (image w.version program) given w.budget)))

command-listed : (c : CommandWords) → AllListed (plan_of c)
command-listed (make w) = making-listed w
command-listed (pipe w) = making-listed w.make
command-listed (check w) =
    listed-program w.elf w.input (check_plan w) (λ program given. record-listed (nat_lt 1 w.workers) w.file (λ file. answer (told_verdict (verdict sha_lanes program given file))) (λ file. listed-answer _ (verdict-listed (verdict sha_lanes program given file))))
command-listed (settle w) =
    listed-program w.elf w.input (settle_plan w) (λ program given. listed-within w.file RECORD_LIMIT limited.Record (λ file. answer (settled program (judge sha_lanes program given file))) (λ file. listed-answer _ (settled-listed program (judge sha_lanes program given file))))
command-listed (run w) =
    listed-program w.elf w.input (run_plan w) (λ program given. listed-answer _ (ran-listed w (image w.version program) given (ends_within (image w.version program) given w.budget)))
command-listed (explain w) =
    listed-within w.file RECORD_LIMIT limited.Record (λ file. answer (explained w.from w.count (parse file))) (λ file. listed-answer _ (explained-listed w.from w.count (parse file)))
command-listed (trial w) = listed-answer _ (tried-listed w (trial_told w.number w.size))
command-listed (state w) = listed-program w.elf w.input (question_plan w.file (state_text w)) (question-listed w.file (state_text w))
command-listed (cell w) = listed-program w.elf w.input (question_plan w.file (cell_text w)) (question-listed w.file (cell_text w))
command-listed (split w) = listed-within w.file RECORD_LIMIT limited.Record (λ file. answer (cut w (parse file))) (λ file. listed-answer _ (cut-listed w (parse file)))
command-listed (join w) =
    listed-program w.elf w.input (all_parts w) (λ program given. listed-within (part_name w.name 0) RECORD_LIMIT limited.Record (behind_first w program given) (first-listed w program given))
command-listed (asm w) =
    listed-within w.source SOURCE_LIMIT limited.Source (λ source. answer (assembled w (symbols_of source) (assembly source))) (λ source. listed-answer _ (assembled-listed w (symbols_of source) (assembly source)))
command-listed (upgrade w) = listed-within w.file RECORD_LIMIT limited.Record (λ file. answer (renewed w file (parse file))) (λ file. listed-answer _ (renewed-listed w file (parse file)))

pub plan-listed : (c : Option CommandWords) → AllListed (plan c)
plan-listed None = listed-answer (refuses Words) (refusal-listed Words)
plan-listed (Some c) = command-listed c
