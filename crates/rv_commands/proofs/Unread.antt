-- No outcome of a command is a failed read, and over files of which none fails to be read no plan ends for one.
use Rattle.std.proofs.Common.{◌≡◌, ◌≢◌, ◌==◌, inl, inr, ℕ, zero, suc, ◌+◌, ◌-◌, List, Option, Some, None, Ok, Err, Result, nat_lt, true, false, Bool, refl, sym, subst, length, if◌then◌else◌}
use Rattle.std.proofs.lemmas.Bool.{eqb-false}
use Rattle.std.specs.Int.{div_ceil}
use Rattle.rv_base.specs.declared.limits.TheConstants.{ELF_LIMIT, INPUT_LIMIT, RECORD_LIMIT, SHARDS_LIMIT}
use Rattle.rv_base.specs.declared.record.End.{End}
use Rattle.rv_base.specs.declared.record.Header.{Header}
use Rattle.rv_base.specs.declared.record.Refusal.{Refusal}
use Rattle.rv_base.specs.declared.record.Tuple.{Tuple}
use Rattle.rv_base.specs.declared.record.Verdict.{Verdict}
use Rattle.rv_base.specs.declared.record.Verdict.TheVariants.{Accept, Refuse}
use Rattle.rv_spec.specs.Elf.{Image, image, first_fault}
use Rattle.rv_spec.specs.Digest.{sha_lanes}
use Rattle.rv_spec.specs.Record.{Parts, reads, writes}
use Rattle.rv_rules.specs.Checks.{unless_broken}
use Rattle.rv_rules.specs.Reading.{header_checks, header_of}
use Rattle.rv_rules.specs.Verdict.{judge, parse, verdict}
use Rattle.rv_host.specs.Counts.{Rose}
use Rattle.rv_host.specs.Files.{Files}
use Rattle.rv_host.specs.Views.{ShelfView, SinkView}
use Rattle.rv_plan.specs.Plan.{Outcome, Plan, read, answer, refuses, read_within, unless_faulty, read_program}
use Rattle.rv_plan.specs.Endings.{Ends, Reaches, ReadFails}
use Rattle.rv_plan.specs.Endings.Ends.{done, unread, unwritten, no_memory}
use Rattle.rv_plan.specs.Answers.{Answers, Prints}
use Rattle.rv_plan.specs.Answers.Prints.{whole, torn}
use Rattle.rv_plan.specs.declared.faults.Limited.{Limited}
use Rattle.rv_plan.specs.declared.faults.Limited.TheVariants as limited
use Rattle.rv_plan.specs.declared.faults.Fault.TheVariants.{Words, Limit, Part}
use Rattle.rv_commands.specs.CommandLine.{MakeWords, RunWords, TrialWords, CommandWords, make, pipe, check, settle, run, explain, trial, state, cell, SplitWords, JoinWords, AsmWords, UpgradeWords, split, join, asm, upgrade}
use Rattle.rv_asm.specs.Assembly.{assembly, symbols_of}
use Rattle.rv_asm.specs.Symbols.{Symbol}
use Rattle.rv_asm.specs.declared.faults.AsmFault.{AsmFault}
use Rattle.rv_asm.specs.declared.faults.AsmFault.TheVariants.{At, NoMemory}
use Rattle.rv_asm.specs.declared.limits.TheConstants.{SOURCE_LIMIT}
use Rattle.rv_commands.specs.Differing.{least_differing}
use Rattle.rv_upgrade.specs.Upgrade.{blocked}
use Rattle.rv_upgrade.specs.declared.reasons.Blocked.{Blocked}
use Rattle.rv_trial.specs.Trials.{ends_within, trial as trial_told}
use Rattle.rv_trial.specs.declared.summary.Trial.{Trial}
use Rattle.rv_commands.specs.Outcome.{ran, made, told_verdict, settled, settled_by, explained, tried, answered, asked, question_plan, state_text, cell_text, make_plan, making_plan, read_record, check_plan, settle_plan, run_plan, plan_of, plan, denies, cut, unless_fault, unless_refused, parts_from, behind_first, all_parts, assembled, unless_blocked, upgrade_done, renewed}
use Rattle.rv_plan.specs.declared.faults.PartFault.{PartFault}
use Rattle.rv_commands.specs.Lines.{refused_line}
use Rattle.rv_commands.specs.Parts.{Joined, added, added_behind, begun, opened, part_name, whole_of}

-- each outcome that a plan may reach is none of a failed read
abbrev AllRead : Plan → Type 0
AllRead p = (files : Option Files) (o : Outcome) → Reaches files p o → o.status ≢ 5

apart : (n : ℕ) → (n == 5) ≡ false → n ≢ 5
apart n e = eqb-false n 5 e

read-answer : (p : Outcome) → p.status ≢ 5 → AllRead (answer p)
read-answer p h files o is = subst (λ o. o.status ≢ 5) (sym is) h

read-if : (b : Bool) (x y : Plan) → AllRead x → AllRead y → AllRead (if b then x else y)
read-if true x y hx hy = hx
read-if false x y hx hy = hy

read-read : (name : List ℕ) (next : List ℕ → Plan) → ((bytes : List ℕ) → AllRead (next bytes)) → AllRead (read name next)
read-read name next h files o r = h r.0 files o r.2

read-limited : (name : List ℕ) (limit : ℕ) (what : Limited) (next : List ℕ → Plan) → ((bytes : List ℕ) → AllRead (next bytes)) → AllRead (read_within name limit what next)
read-limited name limit what next h files o r =
    read-if (nat_lt limit (length r.0)) (answer (refuses (Limit what))) (next r.0) (read-answer (refuses (Limit what)) (apart 8 refl)) (h r.0) files o r.2

read-recorded : (held : Bool) (name : List ℕ) (next : List ℕ → Plan) → ((bytes : List ℕ) → AllRead (next bytes)) → AllRead (read_record held name next)
read-recorded held name next h = read-if held (read_within name RECORD_LIMIT limited.Record next) (read name next) (read-limited name RECORD_LIMIT limited.Record next h) (read-read name next h)

read-judged : (fault : Option ℕ) (p : Plan) → AllRead p → AllRead (unless_faulty fault p)
read-judged None p h = h
read-judged (Some n) p h = λ files o is. subst (λ o. o.status ≢ 5) (sym is) (apart 3 refl)

read-program-read : (elf input : List ℕ) (next : List ℕ → List ℕ → Plan) → ((program given : List ℕ) → AllRead (next program given)) → AllRead (read_program elf input next)
read-program-read elf input next h =
    read-limited elf ELF_LIMIT limited.Elf _ (λ program. read-limited input INPUT_LIMIT limited.Input _ (λ given. read-judged (first_fault program) (next program given) (h program given)))

ran-read : (w : RunWords) (i : Image) (input : List ℕ) (ended : Option (ℕ × End)) → (ran w i input ended).status ≢ 5
ran-read w i input None = apart 4 refl
ran-read w i input (Some e) = apart 0 refl

either-read : (b : Bool) (o p : Outcome) → o.status ≢ 5 → p.status ≢ 5 → (if b then o else p).status ≢ 5
either-read true o p ho hp = ho
either-read false o p ho hp = hp

made-read : (w : MakeWords) (elf input : List ℕ) (ended : Option (ℕ × End)) → (made w elf input ended).status ≢ 5
made-read w elf input None = apart 4 refl
made-read w elf input (Some e) = either-read (nat_lt SHARDS_LIMIT (div_ceil e.0 w.shard)) (refuses (Limit limited.Shards)) _ (apart 8 refl) (apart 0 refl)

verdict-read : (v : Verdict) → (told_verdict v).status ≢ 5
verdict-read (Accept steps shards e) = apart 0 refl
verdict-read (Refuse r) = apart 1 refl

settled-by-read : (steps : ℕ) (xs ys : List Tuple) (t : Option Tuple) → (settled_by steps xs ys t).status ≢ 5
settled-by-read steps xs ys None = apart 0 refl
settled-by-read steps xs ys (Some t) = apart 1 refl

settled-read : (elf : List ℕ) (r : Result Parts Refusal) → (settled elf r).status ≢ 5
settled-read elf (Err r) = apart 1 refl
settled-read elf (Ok p) = settled-by-read p.header.steps (reads p) (writes (image p.header.version elf) p) (least_differing (reads p) (writes (image p.header.version elf) p))

explained-read : (from count : ℕ) (r : Result Parts Refusal) → (explained from count r).status ≢ 5
explained-read from count (Err r) = apart 1 refl
explained-read from count (Ok p) = apart 0 refl

tried-read : (w : TrialWords) (t : Option Trial) → (tried w t).status ≢ 5
tried-read w None = apart 4 refl
tried-read w (Some t) = apart 0 refl

answered-read : (steps : ℕ) (text : Option (List ℕ)) → (answered steps text).status ≢ 5
answered-read steps None = apart 12 refl
answered-read steps (Some text) = apart 0 refl

asked-read : (text : Parts → Option (List ℕ)) (r : Result Parts Refusal) → (asked text r).status ≢ 5
asked-read text (Err r) = apart 1 refl
asked-read text (Ok p) = answered-read p.header.steps (text p)

question-read : (name : List ℕ) (text : List ℕ → Parts → Option (List ℕ)) (elf input : List ℕ) → AllRead (question_plan name text elf input)
question-read name text elf input =
    read-limited name RECORD_LIMIT limited.Record (λ file. answer (asked (text elf) (judge sha_lanes elf input file))) (λ file. read-answer _ (asked-read (text elf) (judge sha_lanes elf input file)))

cut-read : (w : SplitWords) (r : Result Parts Refusal) → (cut w r).status ≢ 5
cut-read w (Err r) = apart 1 refl
cut-read w (Ok q) = either-read (nat_lt q.header.shards w.parts) (refuses (Limit limited.Parts)) _ (apart 8 refl) (apart 0 refl)

unless_fault-read : {A : Type 0} (p : ℕ) (r : Result A PartFault) (next : A → Plan) → ((x : A) → AllRead (next x)) → AllRead (unless_fault p r next)
unless_fault-read p (Err fault) next h = read-answer (refuses (Part p fault)) (apart 11 refl)
unless_fault-read p (Ok x) next h = h x

unless_refused-read : (r : Result Header Refusal) (next : Plan) → AllRead next → AllRead (unless_refused r next)
unless_refused-read (Err r) next h = read-answer (denies (refused_line r)) (apart 1 refl)
unless_refused-read (Ok x) next h = h

parts-read : (w : JoinWords) (elf input : List ℕ) (more p : ℕ) (j : Joined) → AllRead (parts_from w elf input more p j)
parts-read w elf input zero p j = read-answer _ (verdict-read (verdict sha_lanes elf input (whole_of j)))
parts-read w elf input (suc more) p j =
    read-limited (part_name w.name p) RECORD_LIMIT limited.Record _
    (λ file. unless_fault-read p (added_behind elf input j (opened w.parts p file)) (parts_from w elf input more (p + 1)) (parts-read w elf input more (p + 1)))

first-read : (w : JoinWords) (elf input file : List ℕ) → AllRead (behind_first w elf input file)
first-read w elf input file =
    unless_fault-read 0 (opened w.parts 0 file) _
    (λ x. unless_refused-read (unless_broken 0 0 (header_checks true sha_lanes elf input x.front) (header_of x.front)) _
    (unless_fault-read 0 (added elf input (begun x.front) x) (parts_from w elf input (w.parts - 1) 1) (parts-read w elf input (w.parts - 1) 1)))

assembled-read : (w : AsmWords) (symbols : List Symbol) (r : Result (List ℕ) AsmFault) → (assembled w symbols r).status ≢ 5
assembled-read w symbols (Err (At n kind)) = apart 13 refl
assembled-read w symbols (Err NoMemory) = apart 7 refl
assembled-read w symbols (Ok words) = apart 0 refl

unless_blocked-read : (reason : Option Blocked) (o : Outcome) → o.status ≢ 5 → (unless_blocked reason o).status ≢ 5
unless_blocked-read (Some reason) o h = apart 10 refl
unless_blocked-read None o h = h

renewed-read : (w : UpgradeWords) (file : List ℕ) (r : Result Parts Refusal) → (renewed w file r).status ≢ 5
renewed-read w file (Err r) = apart 1 refl
renewed-read w file (Ok p) = unless_blocked-read (blocked p) (upgrade_done w file p.header.steps) (apart 0 refl)

making-read : (w : MakeWords) → AllRead (making_plan w)
making-read w = read-program-read w.elf w.input (make_plan w) (λ program given. read-answer _ (made-read w program given (ends_within (image w.version program) given w.budget)))

command-read : (c : CommandWords) → AllRead (plan_of c)
command-read (make w) = making-read w
command-read (pipe w) = making-read w.make
command-read (check w) =
    read-program-read w.elf w.input (check_plan w) (λ program given. read-recorded (nat_lt 1 w.workers) w.file (λ file. answer (told_verdict (verdict sha_lanes program given file))) (λ file. read-answer _ (verdict-read (verdict sha_lanes program given file))))
command-read (settle w) =
    read-program-read w.elf w.input (settle_plan w) (λ program given. read-limited w.file RECORD_LIMIT limited.Record (λ file. answer (settled program (judge sha_lanes program given file))) (λ file. read-answer _ (settled-read program (judge sha_lanes program given file))))
command-read (run w) =
    read-program-read w.elf w.input (run_plan w) (λ program given. read-answer _ (ran-read w (image w.version program) given (ends_within (image w.version program) given w.budget)))
command-read (explain w) = read-limited w.file RECORD_LIMIT limited.Record (λ file. answer (explained w.from w.count (parse file))) (λ file. read-answer _ (explained-read w.from w.count (parse file)))
command-read (trial w) = read-answer _ (tried-read w (trial_told w.number w.size))
command-read (state w) = read-program-read w.elf w.input (question_plan w.file (state_text w)) (question-read w.file (state_text w))
command-read (cell w) = read-program-read w.elf w.input (question_plan w.file (cell_text w)) (question-read w.file (cell_text w))
command-read (split w) = read-limited w.file RECORD_LIMIT limited.Record (λ file. answer (cut w (parse file))) (λ file. read-answer _ (cut-read w (parse file)))
command-read (join w) =
    read-program-read w.elf w.input (all_parts w) (λ program given. read-limited (part_name w.name 0) RECORD_LIMIT limited.Record (behind_first w program given) (first-read w program given))
command-read (asm w) =
    read-limited w.source SOURCE_LIMIT limited.Source (λ source. answer (assembled w (symbols_of source) (assembly source))) (λ source. read-answer _ (assembled-read w (symbols_of source) (assembly source)))
command-read (upgrade w) = read-limited w.file RECORD_LIMIT limited.Record (λ file. answer (renewed w file (parse file))) (λ file. read-answer _ (renewed-read w file (parse file)))

plan-read : (c : Option CommandWords) → AllRead (plan c)
plan-read None = read-answer (refuses Words) (apart 2 refl)
plan-read (Some c) = command-read c

-- ---- files of which none fails to be read

pub none-fails : (s s' : ShelfView) → ((name : List ℕ) → Rose (s.read_faults name) (s'.read_faults name) → ⊥) → (p : Plan) → ReadFails s s' p → ⊥
none-fails s s' calm (read name next) (inl rose) = calm name rose
none-fails s s' calm (read name next) (inr rest) = none-fails s s' calm (next rest.0) rest.2
none-fails s s' calm (answer o) h = absurd h

ended-read : (p : Plan) → AllRead p → (s s' : ShelfView) → ((name : List ℕ) → Rose (s.read_faults name) (s'.read_faults name) → ⊥) → (status : ℕ) (text : List ℕ) → Ends p s s' status text → status ≢ 5
ended-read p h s s' calm status text (done o reached is _ _) = subst (λ n. n ≢ 5) (sym is) (h s.files o reached)
ended-read p h s s' calm status text (unread _ _ fails _) = absurd (none-fails s s' calm p fails)
ended-read p h s s' calm status text (unwritten o _ is _ _) = subst (λ n. n ≢ 5) (sym is) (apart 6 refl)
ended-read p h s s' calm status text (no_memory _ is _ _) = subst (λ n. n ≢ 5) (sym is) (apart 7 refl)

printed-read : (t t' : SinkView) (status : ℕ) (text : List ℕ) (result : ℕ) → status ≢ 5 → Prints t t' status text result → result ≢ 5
printed-read t t' status text result h (whole is _) = subst (λ n. n ≢ 5) (sym is) h
printed-read t t' status text result h (torn is _ _) = subst (λ n. n ≢ 5) (sym is) (apart 6 refl)

pub calm-answer : (c : Option CommandWords) (s s' : ShelfView) (t t' : SinkView) (result : ℕ) → ((name : List ℕ) → Rose (s.read_faults name) (s'.read_faults name) → ⊥) → Answers (plan c) s s' t t' result → result ≢ 5
calm-answer c s s' t t' result calm a =
    printed-read t t' a.status a.text result (ended-read (plan c) (plan-read c) s s' calm a.status a.text a.ended) a.printed
