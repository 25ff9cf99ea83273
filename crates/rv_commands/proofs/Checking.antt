-- What check and settle do, as their plans say, and what their success says.
use Rattle.std.proofs.Common.{◌≡◌, ◌≢◌, ◌≤◌, ◌⊎◌, inl, inr, ℕ, List, [], None, Ok, Err, Result, IfOk, Bool, true, false, nat_lt, refl, sym, ap, subst, ◌∙◌, arith}
use Rattle.std.proofs.lemmas.Bool.{eqb-false, lt-ltb}
use Rattle.rv_base.specs.declared.limits.TheConstants.{RECORD_LIMIT}
use Rattle.rv_base.specs.declared.record.Verdict.{Verdict}
use Rattle.rv_base.specs.declared.record.Verdict.TheVariants.{Accept, Refuse}
use Rattle.rv_spec.specs.Elf.{first_fault, image}
use Rattle.rv_spec.specs.Digest.{sha_lanes}
use Rattle.rv_spec.specs.Multiset.{count}
use Rattle.rv_spec.specs.Record.{Parts, reads, writes}
use Rattle.rv_spec.specs.Conclusion.{IsRecord, IsCollision}
use Rattle.rv_rules.specs.Reading.{header_of}
use Rattle.rv_rules.specs.Verdict.{judge, verdict}
use Rattle.rv_host.specs.Views.{ShelfView}
use Rattle.rv_program.specs.Files.{Files as Opened}
use Rattle.rv_judge.specs.Conclusions.{IsSound}
use Rattle.rv_settle.specs.Settling.{IsSettled}
use Rattle.rv_settle.specs.declared.settling.Settled.{Settled as Settling}
use Rattle.rv_settle.specs.declared.settling.Settled.TheVariants.{Run, Collision, Refused}
use Rattle.rv_plan.specs.Plan.{Outcome, Plan, read, answer, read_program, read_within}
use Rattle.rv_plan.specs.Endings.{IsContents, IsWritten}
use Rattle.rv_plan.specs.FileCalls.{IsUnchanged, Loads, Performs, PerformsBehind, ReadsWithin, Stops}
use Rattle.rv_plan.specs.declared.faults.Fault.{Fault}
use Rattle.rv_plan.specs.declared.faults.Fault.TheVariants.{Words, Elf, Budget, Read, Write, Memory, Limit, Version, Part, Step, Assembly}
use Rattle.rv_plan.specs.declared.faults.Limited.TheVariants as limited
use Rattle.rv_plan.specs.declared.loading.Loaded.{Loaded}
use Rattle.rv_plan.specs.declared.told.Told.{Told}
use Rattle.rv_plan.proofs.Lemmas.{left, nothing-written, performs-behind, performs-loaded, performs-read, read-stops}
use Rattle.rv_commands.specs.CommandLine.{CheckWords, SettleWords, check, settle}
use Rattle.rv_commands.specs.Headline.{Accepted, IsRecordOfRun, Settled}
use Rattle.rv_commands.specs.Judging.{Judges, TellsOutcome, settled_outcome}
use Rattle.rv_commands.specs.Outcome.{denies, told_verdict, settled, settled_by, read_record, plan_of}
use Rattle.rv_commands.specs.Lines.{collision_line}
use Rattle.rv_commands.proofs.Differing.{least-is, none-differs}

-- ---- telling

-- an outcome that writes nothing is told
pub told-behind : (p : Plan) (s s' : ShelfView) (o : Outcome) (r : Result Told Fault) → IsUnchanged s s' → o.writes ≡ [] → TellsOutcome o r → ((told : Told) → r ≡ Ok told → PerformsBehind p s s' (Ok told)) → PerformsBehind p s s' r
told-behind p s s' o (Ok told) same none h done = done told refl
told-behind p s s' o (Err f) same none h done = subst (λ x. PerformsBehind p s s' (Err x)) (sym h) (left same)

pub written-nothing : (s s' : ShelfView) (o : Outcome) → IsUnchanged s s' → o.writes ≡ [] → IsWritten o.writes s s'
written-nothing s s' o same none = subst (λ due. IsWritten due s s') (sym none) (nothing-written s s' (left same))

-- and is the one that is due
pub answered : (o due : Outcome) (s : ShelfView) (r : Result Told Fault) → o ≡ due → o.writes ≡ [] → TellsOutcome o r → PerformsBehind (answer due) s s r
answered o due s r is none says = told-behind (answer due) s s o r still none says done
  where
    still : IsUnchanged s s
    still = record { files = refl; reads = λ _. refl; writes = λ _. refl }

    done : (told : Told) → r ≡ Ok told → PerformsBehind (answer due) s s (Ok told)
    done told it = let said : TellsOutcome o (Ok told) = subst (TellsOutcome o) it says in (o, is, said.0, said.1, written-nothing s s o still none)

-- what is known of the program and the input that were opened, and of the record's bytes, is known of what was read
pub of-loaded : (P : List ℕ → List ℕ → List ℕ → Type 0) (p : Opened) (elf input file bytes : List ℕ) → p ≡ record { elf = elf; input = input } → bytes ≡ file → P p.elf p.input bytes → P elf input file
of-loaded P p elf input file bytes is same h = subst (λ b. P elf input b) same (subst (λ (q : Opened). P q.elf q.input bytes) is h)

pub judges-loaded : (name : List ℕ) (p : Opened) (elf input : List ℕ) (s s' : ShelfView) (r : Result Verdict Fault) → p ≡ record { elf = elf; input = input } → Judges name p.elf p.input s s' r → Judges name elf input s s' r
judges-loaded name p elf input s s' r is h = subst (λ (q : Opened). Judges name q.elf q.input s s' r) is h

-- ---- a record that is held whole

-- it is read behind the program and the input, and has a limit
abbrev pub held_plan : List ℕ → (List ℕ → List ℕ → List ℕ → Plan) → List ℕ → List ℕ → Plan
held_plan name next elf input = read_within name RECORD_LIMIT limited.Record (next elf input)

pub held-unread : (elf input name : List ℕ) (next : List ℕ → List ℕ → List ℕ → Plan) (s s' s'' : ShelfView) (l : Loaded) (f : Fault) → Loads elf input s s' (Ok l) → first_fault l.elf ≡ None → ReadsWithin name RECORD_LIMIT limited.Record s' s'' (Err f)
    → Stops (read_program elf input (held_plan name next)) s s'' f
held-unread elf input name next s s' s'' l f h faultless got =
    performs-loaded elf input s s' s'' l (held_plan name next) (Err f) h faultless (performs-behind (held_plan name next l.elf l.input) s' s'' (Err f) (read-stops name RECORD_LIMIT limited.Record s' s'' f (next l.elf l.input) got))

pub held-read : (elf input name : List ℕ) (next : List ℕ → List ℕ → List ℕ → Plan) (s s' s'' : ShelfView) (l : Loaded) (file : List ℕ) (r : Result Told Fault) → Loads elf input s s' (Ok l) → first_fault l.elf ≡ None → ReadsWithin name RECORD_LIMIT limited.Record s' s'' (Ok file)
    → PerformsBehind (next l.elf l.input file) s'' s'' r → Performs (read_program elf input (held_plan name next)) s s'' r
held-read elf input name next s s' s'' l file r h faultless got performs =
    performs-loaded elf input s s' s'' l (held_plan name next) r h faultless (performs-behind (held_plan name next l.elf l.input) s' s'' r (performs-read name RECORD_LIMIT limited.Record s' s'' s'' file (next l.elf l.input) r got performs))

-- ---- check

-- the plan, of a record that is held whole or not
abbrev check_by : CheckWords → Bool → Plan
check_by w held = read_program w.elf w.input (λ elf input. read_record held w.file (λ file. answer (told_verdict (verdict sha_lanes elf input file))))

unjudged : (name elf input : List ℕ) (next : List ℕ → Plan) (s s' : ShelfView) (f : Fault) → Judges name elf input s s' (Err f) → PerformsBehind (read name next) s s' (Err f)
unjudged name elf input next s s' Words h = absurd h
unjudged name elf input next s s' (Elf e) h = absurd h
unjudged name elf input next s s' (Budget n) h = absurd h
unjudged name elf input next s s' (Version reason) h = absurd h
unjudged name elf input next s s' (Part number fault) h = absurd h
unjudged name elf input next s s' (Step steps) h = absurd h
unjudged name elf input next s s' (Assembly at kind) h = absurd h
unjudged name elf input next s s' Read h = (h.0, inl h.1)
unjudged name elf input next s s' Write h = absurd h
unjudged name elf input next s s' Memory h = h
unjudged name elf input next s s' (Limit what) h = absurd h

pub check-unjudged : (w : CheckWords) (s s' s'' : ShelfView) (l : Loaded) (f : Fault) → nat_lt 1 w.workers ≡ false → Loads w.elf w.input s s' (Ok l) → first_fault l.elf ≡ None → Judges w.file l.elf l.input s' s'' (Err f) → Stops (plan_of (check w)) s s'' f
check-unjudged w s s' s'' l f alone h faultless judges =
    subst (λ held. Stops (check_by w held) s s'' f) (sym alone)
    (performs-loaded w.elf w.input s s' s'' l (λ elf input. read w.file (λ file. answer (told_verdict (verdict sha_lanes elf input file)))) (Err f) h faultless (unjudged w.file l.elf l.input (λ file. answer (told_verdict (verdict sha_lanes l.elf l.input file))) s' s'' f judges))

pub verdict-writes : (v : Verdict) → (told_verdict v).writes ≡ []
verdict-writes (Accept steps shards e) = refl
verdict-writes (Refuse r) = refl

pub check-judged : (w : CheckWords) (s s' s'' : ShelfView) (l : Loaded) (v : Verdict) (r : Result Told Fault) → nat_lt 1 w.workers ≡ false → Loads w.elf w.input s s' (Ok l) → first_fault l.elf ≡ None → Judges w.file l.elf l.input s' s'' (Ok v) → TellsOutcome (told_verdict v) r
    → Performs (plan_of (check w)) s s'' r
check-judged w s s' s'' l v r alone h faultless judges says =
    subst (λ held. Performs (check_by w held) s s'' r) (sym alone)
    (performs-loaded w.elf w.input s s' s'' l (λ elf input. read w.file (λ file. answer (told_verdict (verdict sha_lanes elf input file)))) r h faultless (told-behind (read w.file next) s' s'' (told_verdict v) r judges.0 (verdict-writes v) says done))
  where
    next : List ℕ → Plan
    next file = answer (told_verdict (verdict sha_lanes l.elf l.input file))

    done : (told : Told) → r ≡ Ok told → PerformsBehind (read w.file next) s' s'' (Ok told)
    done told is =
        let said : TellsOutcome (told_verdict v) (Ok told) = subst (TellsOutcome (told_verdict v)) is says in
        (told_verdict v, (judges.1.0, judges.1.1, ap told_verdict judges.1.2), said.0, said.1, written-nothing s' s'' (told_verdict v) judges.0 (verdict-writes v))

-- a team has more than one worker
pub several : (workers : ℕ) → 1 ≤ workers → workers ≢ 1 → nat_lt 1 workers ≡ true
several workers some more = lt-ltb 1 workers (omega (arith, some, more))

pub team-unread : (w : CheckWords) (s s' s'' : ShelfView) (l : Loaded) (f : Fault) → nat_lt 1 w.workers ≡ true → Loads w.elf w.input s s' (Ok l) → first_fault l.elf ≡ None → ReadsWithin w.file RECORD_LIMIT limited.Record s' s'' (Err f) → Stops (plan_of (check w)) s s'' f
team-unread w s s' s'' l f team h faultless got =
    subst (λ held. Stops (check_by w held) s s'' f) (sym team) (held-unread w.elf w.input w.file (λ elf input file. answer (told_verdict (verdict sha_lanes elf input file))) s s' s'' l f h faultless got)

pub team-judged : (w : CheckWords) (s s' s'' : ShelfView) (l : Loaded) (file : List ℕ) (v : Verdict) (r : Result Told Fault) → nat_lt 1 w.workers ≡ true → Loads w.elf w.input s s' (Ok l) → first_fault l.elf ≡ None → ReadsWithin w.file RECORD_LIMIT limited.Record s' s'' (Ok file)
    → v ≡ verdict sha_lanes l.elf l.input file → TellsOutcome (told_verdict v) r → Performs (plan_of (check w)) s s'' r
team-judged w s s' s'' l file v r team h faultless got is says =
    subst (λ held. Performs (check_by w held) s s'' r) (sym team)
    (held-read w.elf w.input w.file (λ elf input bytes. answer (told_verdict (verdict sha_lanes elf input bytes))) s s' s'' l file r h faultless got
    (answered (told_verdict v) (told_verdict (verdict sha_lanes l.elf l.input file)) s'' r (ap told_verdict is) (verdict-writes v) says))

-- the file of an accepted record
pub sound-of : (elf input file : List ℕ) (v : Verdict) → (told_verdict v).status ≡ 0 → IsSound sha_lanes elf input file v → IsRecordOfRun elf input file ⊎ IsCollision sha_lanes elf file
sound-of elf input file (Refuse r) status h = absurd (eqb-false 1 0 refl status)
sound-of elf input file (Accept steps shards e) status h = go h.1
  where
    go : IsRecord sha_lanes (header_of file).version elf input (header_of file).size steps e file ⊎ IsCollision sha_lanes elf file → IsRecordOfRun elf input file ⊎ IsCollision sha_lanes elf file
    go (inl is) = inl (record { version = (header_of file).version; size = (header_of file).size; steps = steps; end = e; is = is })
    go (inr c) = inr c

pub check-accepted : (w : CheckWords) (s s' : ShelfView) (l : Loaded) (file : List ℕ) (v : Verdict) (r : Result Told Fault) → Loads w.elf w.input s s' (Ok l) → IsContents s'.files w.file file → IsSound sha_lanes l.elf l.input file v → TellsOutcome (told_verdict v) r
    → IfOk r (λ told. told.status ≡ 0 → Accepted s.files w)
check-accepted w s s' l file v (Err f) h is sound says = tt
check-accepted w s s' l file v (Ok told) h is sound says = λ status. record {
  elf = l.elf;
  input = l.input;
  file = file;
  elf_is = h.3;
  input_is = h.4;
  file_is = subst (λ files. IsContents files w.file file) h.0.files is;
  sound = sound-of l.elf l.input file v (sym says.0 ∙ status) sound;
}

-- ---- settle

pub settle-unread : (w : SettleWords) (s s' s'' : ShelfView) (l : Loaded) (f : Fault) → Loads w.elf w.input s s' (Ok l) → first_fault l.elf ≡ None → ReadsWithin w.file RECORD_LIMIT limited.Record s' s'' (Err f) → Stops (plan_of (settle w)) s s'' f
settle-unread w s s' s'' l f h faultless got = held-unread w.elf w.input w.file (λ elf input file. answer (settled elf (judge sha_lanes elf input file))) s s' s'' l f h faultless got

outcome-writes : (x : Settling) → (settled_outcome x).writes ≡ []
outcome-writes (Run steps) = refl
outcome-writes (Collision d) = refl
outcome-writes (Refused r) = refl

-- what settling tells is the outcome
settled-is : (elf input file : List ℕ) (x : Settling) → IsSettled sha_lanes elf input file x → settled_outcome x ≡ settled elf (judge sha_lanes elf input file)
settled-is elf input file (Refused r) h = sym (ap (settled elf) h)
settled-is elf input file (Run steps) h =
    let p : Parts = h.0 in
    let xs = reads p in
    let ys = writes (image p.header.version elf) p in
    ap (λ n. settled_by n xs ys None) h.1.steps_are ∙ ap (settled_by p.header.steps xs ys) (sym (none-differs xs ys h.1.same)) ∙ sym (ap (settled elf) h.1.accepted)
settled-is elf input file (Collision d) h =
    let p : Parts = h.0 in
    let xs = reads p in
    let ys = writes (image p.header.version elf) p in
    ap (λ n. denies (collision_line d.tuple n d.writes)) h.1.count_read ∙ ap (λ n. denies (collision_line d.tuple (count d.tuple xs) n)) h.1.count_written
    ∙ ap (settled_by p.header.steps xs ys) (sym (least-is xs ys d.tuple h.1.least)) ∙ sym (ap (settled elf) h.1.accepted)

-- the contents that were read, and what settling them answered
pub settle-settled : (w : SettleWords) (s s' s'' : ShelfView) (l : Loaded) (file : List ℕ) (x : Settling) (r : Result Told Fault) → Loads w.elf w.input s s' (Ok l) → first_fault l.elf ≡ None → ReadsWithin w.file RECORD_LIMIT limited.Record s' s'' (Ok file)
    → IsSettled sha_lanes l.elf l.input file x → TellsOutcome (settled_outcome x) r → Performs (plan_of (settle w)) s s'' r
settle-settled w s s' s'' l file x r h faultless got is says =
    held-read w.elf w.input w.file (λ elf input bytes. answer (settled elf (judge sha_lanes elf input bytes))) s s' s'' l file r h faultless got
    (answered (settled_outcome x) (settled l.elf (judge sha_lanes l.elf l.input file)) s'' r (settled-is l.elf l.input file x is) (outcome-writes x) says)

run-settled : (elf input file : List ℕ) (x : Settling) → (settled_outcome x).status ≡ 0 → IsSettled sha_lanes elf input file x → IsRecordOfRun elf input file
run-settled elf input file (Run steps) status h = record { version = h.0.header.version; size = h.0.header.size; steps = h.0.header.steps; end = h.0.header.end; is = h.1.record_of_run }
run-settled elf input file (Collision d) status h = absurd (eqb-false 1 0 refl status)
run-settled elf input file (Refused r) status h = absurd (eqb-false 1 0 refl status)

pub settle-run : (w : SettleWords) (s s' s'' : ShelfView) (l : Loaded) (file : List ℕ) (x : Settling) (r : Result Told Fault) → Loads w.elf w.input s s' (Ok l) → ReadsWithin w.file RECORD_LIMIT limited.Record s' s'' (Ok file)
    → IsSettled sha_lanes l.elf l.input file x → TellsOutcome (settled_outcome x) r → IfOk r (λ told. told.status ≡ 0 → Settled s.files w)
settle-run w s s' s'' l file x (Err f) h got is says = tt
settle-run w s s' s'' l file x (Ok told) h got is says = λ status. record {
  elf = l.elf;
  input = l.input;
  file = file;
  elf_is = h.3;
  input_is = h.4;
  file_is = subst (λ files. IsContents files w.file file) h.0.files got.2;
  settled = run-settled l.elf l.input file x (sym says.0 ∙ status) is;
}
