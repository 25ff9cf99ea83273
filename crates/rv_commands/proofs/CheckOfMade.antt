-- The record that make or pipe made is accepted by check, over told files whose reading never fails.
use Rattle.std.proofs.Common.{◌≡◌, ◌≢◌, ◌⊎◌, ◌≤◌, inl, inr, ℕ, List, [], ◌∷◌, length, Option, Some, None, Bool, true, false, nat_lt, refl, sym, ap, subst, ◌∙◌, length-append, arith, option_map, if◌then◌else◌}
use Rattle.std.specs.Int.{div_ceil}
use Rattle.std.proofs.lemmas.Bool.{eqb-false, le-ltb}
use Rattle.rv_base.specs.declared.limits.TheConstants.{ELF_LIMIT, INPUT_LIMIT, RECORD_LIMIT}
use Rattle.rv_spec.specs.Elf.{first_fault}
use Rattle.rv_spec.specs.Digest.{sha_lanes}
use Rattle.rv_spec.specs.Record.{record_file}
use Rattle.rv_rules.specs.Verdict.{verdict}
use Rattle.rv_host.specs.Counts.{Rose}
use Rattle.rv_host.specs.Files.{Files, file, or_empty, with_file}
use Rattle.rv_host.specs.Views.{ShelfView, SinkView}
use Rattle.rv_host.proofs.Lemmas.{file-with_file, found-with_file-other}
use Rattle.rv_plan.specs.Plan.{Outcome, Plan, answer, outcome_over, read_program, read_within, refuses, unless_faulty, with_due}
use Rattle.rv_plan.specs.Endings.{Ends, IsContents, Reaches, WriteFails}
use Rattle.rv_plan.specs.Endings.Ends.{done, unread, unwritten, no_memory}
use Rattle.rv_plan.specs.Answers.{Answers, Prints}
use Rattle.rv_plan.specs.Answers.Prints.{whole, torn}
use Rattle.rv_plan.specs.declared.faults.Limited.TheVariants as limited
use Rattle.rv_plan.specs.declared.faults.Fault.{Fault}
use Rattle.rv_plan.specs.declared.faults.Fault.TheVariants.{Limit}
use Rattle.rv_plan.proofs.Lemmas.{reaches-told}
use Rattle.rv_commands.specs.CommandLine.{MakeWords, CheckWords, CommandWords, make, pipe, check, settle, run, explain, trial, state, cell, split, join, asm, upgrade}
use Rattle.rv_commands.specs.CheckOfMade.{IsCheckOf, IsCheckOfFiles}
use Rattle.rv_commands.specs.Headline.{Headline, Made}
use Rattle.rv_commands.specs.Lines.{accepted_line}
use Rattle.rv_commands.specs.Outcome.{check_plan, make_plan, making_plan, plan, plan_of, read_record, tells, told_verdict}
use Rattle.rv_commands.proofs.Unread.{none-fails}

-- ---- a plan that reads a program, over told files

-- a program and an input within their limits, and no fault
record Passes (elf input : List ℕ) : Type 0 where
  elf_fits : nat_lt ELF_LIMIT (length elf) ≡ false
  input_fits : nat_lt INPUT_LIMIT (length input) ≡ false
  faultless : first_fault elf ≡ None

-- where a plan doesn't end with a refusal, no test before it holds
past : (files : Files) (b : Bool) (f : Fault) (p : Plan) → (outcome_over files (answer (refuses f))).status ≢ 0 → (outcome_over files (if b then answer (refuses f) else p)).status ≡ 0 → (b ≡ false) × ((outcome_over files p).status ≡ 0)
past files true f p refused is = absurd (refused is)
past files false f p refused is = (refl, is)

unfaulty : (files : Files) (fault : Option ℕ) (p : Plan) → (outcome_over files (unless_faulty fault p)).status ≡ 0 → fault ≡ None
unfaulty files None p is = refl
unfaulty files (Some n) p is = absurd (eqb-false 3 0 refl is)

passes : (files : Files) (elf input : List ℕ) (next : List ℕ → List ℕ → Plan) → (outcome_over files (read_program elf input next)).status ≡ 0 → Passes (file files elf) (file files input)
passes files elf input next is =
    let program = file files elf in
    let given = file files input in
    let judged : Plan = unless_faulty (first_fault program) (next program given) in
    let first = past files (nat_lt ELF_LIMIT (length program)) (Limit limited.Elf) (read_within input INPUT_LIMIT limited.Input (λ bytes. unless_faulty (first_fault program) (next program bytes))) (eqb-false 8 0 refl) is in
    let second = past files (nat_lt INPUT_LIMIT (length given)) (Limit limited.Input) judged (eqb-false 8 0 refl) first.1 in
    record { elf_fits = first.0; input_fits = second.0; faultless = unfaulty files (first_fault program) (next program given) second.1 }

goes-on : (files : Files) (elf input : List ℕ) (next : List ℕ → List ℕ → Plan) → Passes (file files elf) (file files input) → outcome_over files (read_program elf input next) ≡ outcome_over files (next (file files elf) (file files input))
goes-on files elf input next h =
    let program = file files elf in
    let given = file files input in
    ap (λ b. outcome_over files (if b then answer (refuses (Limit limited.Elf)) else read_within input INPUT_LIMIT limited.Input (λ bytes. unless_faulty (first_fault program) (next program bytes)))) h.elf_fits
    ∙ ap (λ b. outcome_over files (if b then answer (refuses (Limit limited.Input)) else unless_faulty (first_fault program) (next program given))) h.input_fits
    ∙ ap (λ fault. outcome_over files (unless_faulty fault (next program given))) h.faultless

-- ---- the outcome of the check

-- a record within the limit is judged, also where it is held whole
record-due : (files : Files) (held : Bool) (name : List ℕ) (next : List ℕ → Outcome) → length (file files name) ≤ RECORD_LIMIT → outcome_over files (read_record held name (λ bytes. answer (next bytes))) ≡ next (file files name)
record-due files false name next short = refl
record-due files true name next short =
    ap (λ b. outcome_over files (if b then answer (refuses (Limit limited.Record)) else answer (next (file files name)))) (le-ltb RECORD_LIMIT (length (file files name)) short)

-- ---- the files after make

other-file : (files : Files) (name bytes other : List ℕ) → name ≢ other → file (with_file files name bytes) other ≡ file files other
other-file files name bytes other apart = ap or_empty (found-with_file-other files name bytes other (λ same. apart (sym same)))

-- the record that was made, and the files with it
record IsMade (w : MakeWords) (files made : Files) : Type 0 where
  elf_same : file made w.elf ≡ file files w.elf
  input_same : file made w.input ≡ file files w.input
  program_passes : Passes (file made w.elf) (file made w.input)
  accepted : (o : Outcome) × (told_verdict (verdict sha_lanes (file made w.elf) (file made w.input) (file made w.target)) ≡ o) × (o.status ≡ 0) × (o.writes ≡ [])
  short : length (file made w.target) ≤ RECORD_LIMIT

is-made : (w : MakeWords) (s s' : ShelfView) (files : Files) → s.files ≡ Some files → w.target ≢ w.elf → w.target ≢ w.input → (outcome_over files (making_plan w)).status ≡ 0 → Made s s' w → (made : Files) × (s'.files ≡ Some made) × IsMade w files made
is-made w s s' files told apart_elf apart_input success h =
    let bytes = record_file sha_lanes w.version h.elf h.input w.shard h.steps h.end in
    let made : Files = with_file files w.target bytes in
    let elf_same : file made w.elf ≡ file files w.elf = other-file files w.target bytes w.elf apart_elf in
    let input_same : file made w.input ≡ file files w.input = other-file files w.target bytes w.input apart_input in
    let elf_is : h.elf ≡ file files w.elf = subst (λ fs. IsContents fs w.elf h.elf) told h.elf_is in
    let input_is : h.input ≡ file files w.input = subst (λ fs. IsContents fs w.input h.input) told h.input_is in (
      made,
      h.written.files ∙ ap (option_map (λ fs. with_due fs ((w.target, bytes) ∷ []))) told,
      record {
        elf_same = elf_same;
        input_same = input_same;
        program_passes = subst (λ program. Passes program (file made w.input)) (sym elf_same) (subst (Passes (file files w.elf)) (sym input_same) (passes files w.elf w.input (make_plan w) success));
        accepted = (
          tells (accepted_line h.steps (div_ceil h.steps w.shard) h.end),
          ap (λ program. told_verdict (verdict sha_lanes program (file made w.input) (file made w.target))) (elf_same ∙ sym elf_is)
              ∙ ap (λ given. told_verdict (verdict sha_lanes h.elf given (file made w.target))) (input_same ∙ sym input_is)
              ∙ ap (λ file_of. told_verdict (verdict sha_lanes h.elf h.input file_of)) (file-with_file files w.target bytes)
              ∙ ap told_verdict h.accepted,
          refl,
          refl,
        );
        short = omega (arith, ap length (file-with_file files w.target bytes), h.short);
      },
    )

check-due : (w : MakeWords) (c : CheckWords) (files made : Files) → c.elf ≡ w.elf → c.input ≡ w.input → c.file ≡ w.target → (h : IsMade w files made) → outcome_over made (plan_of (check c)) ≡ h.accepted.0
check-due w c files made elf input target h =
    let elf_is : file made c.elf ≡ file made w.elf = ap (file made) elf in
    let input_is : file made c.input ≡ file made w.input = ap (file made) input in
    let record_is : file made c.file ≡ file made w.target = ap (file made) target in
    let pass : Passes (file made c.elf) (file made c.input) = subst (λ program. Passes program (file made c.input)) (sym elf_is) (subst (Passes (file made w.elf)) (sym input_is) h.program_passes) in
    goes-on made c.elf c.input (check_plan c) pass
    ∙ record-due made (nat_lt 1 c.workers) c.file (λ bytes. told_verdict (verdict sha_lanes (file made c.elf) (file made c.input) bytes)) (omega (arith, ap length record_is, h.short))
    ∙ ap (λ program. told_verdict (verdict sha_lanes program (file made c.input) (file made c.file))) elf_is
    ∙ ap (λ given. told_verdict (verdict sha_lanes (file made w.elf) given (file made c.file))) input_is
    ∙ ap (λ bytes. told_verdict (verdict sha_lanes (file made w.elf) (file made w.input) bytes)) record_is
    ∙ h.accepted.1

-- ---- how the check ends

none-due : (o : Outcome) (s s' : ShelfView) → o.writes ≡ [] → WriteFails o.writes s s' → ⊥
none-due o s s' none h = absurd (omega (arith, ap length none, ap length h.order, length-append h.first ((h.name, h.bytes) ∷ h.last)))

ended-due : (p : Plan) (s s' : ShelfView) (files : Files) (status : ℕ) (text : List ℕ) → s.files ≡ Some files → ((name : List ℕ) → Rose (s.read_faults name) (s'.read_faults name) → ⊥) → (outcome_over files p).writes ≡ [] → Ends p s s' status text
    → (status ≡ (outcome_over files p).status) ⊎ (status ≡ 7)
ended-due p s s' files status text told calm none (done o reached is _ _) = inl (is ∙ ap (λ x. x.status) (reaches-told files p o (subst (λ fs. Reaches fs p o) told reached)))
ended-due p s s' files status text told calm none (unread _ _ fails _) = absurd (none-fails s s' calm p fails)
ended-due p s s' files status text told calm none (unwritten o reached _ _ fails) =
    absurd (none-due o s s' (ap (λ x. x.writes) (reaches-told files p o (subst (λ fs. Reaches fs p o) told reached)) ∙ none) fails)
ended-due p s s' files status text told calm none (no_memory _ is _ _) = inr is

printed-whole : (t t' : SinkView) (status : ℕ) (text : List ℕ) (result : ℕ) → (Rose t.faults t'.faults → ⊥) → Prints t t' status text result → result ≡ status
printed-whole t t' status text result silent (whole is _) = is
printed-whole t t' status text result silent (torn _ rose _) = absurd (silent rose)

-- ---- both commands

both : (w : MakeWords) (c : CheckWords) (s s' s'' : ShelfView) (t t' u u' : SinkView) (files : Files) (n : ℕ) → IsCheckOfFiles c w → s.files ≡ Some files → ((name : List ℕ) → Rose (s'.read_faults name) (s''.read_faults name) → ⊥)
    → (Rose u.faults u'.faults → ⊥) → Answers (making_plan w) s s' t t' 0 → Made s s' w → Answers (plan (Some (check c))) s' s'' u u' n → (n ≡ 0) ⊎ (n ≡ 7)
both w c s s' s'' t t' u u' files n asked told calm silent answers h answers' =
    let success = answers.told files told (eqb-false 0 5 refl) (eqb-false 0 6 refl) (eqb-false 0 7 refl) in
    let made = is-made w s s' files told asked.3 asked.4 (sym success.status) h in
    let due = check-due w c files made.0 asked.0 asked.1 asked.2 made.2 in
    let none : (outcome_over made.0 (plan_of (check c))).writes ≡ [] = ap (λ x. x.writes) due ∙ made.2.accepted.3 in
    let printed : n ≡ answers'.status = printed-whole u u' answers'.status answers'.text n silent answers'.printed in
    elim (ended-due (plan_of (check c)) s' s'' made.0 answers'.status answers'.text made.1 calm none answers'.ended) [
      | inl same ↦ inl (printed ∙ same ∙ ap (λ x. x.status) due ∙ made.2.accepted.2)
      | inr memory ↦ inr (printed ∙ memory)
    ]

pub check-of-made : (made checked : Option CommandWords) (s s' s'' : ShelfView) (t t' u u' : SinkView) (files : Files) (m n : ℕ) → IsCheckOf checked made → s.files ≡ Some files → ((name : List ℕ) → Rose (s'.read_faults name) (s''.read_faults name) → ⊥)
    → (Rose u.faults u'.faults → ⊥) → Answers (plan made) s s' t t' m → (m ≡ 0 → Headline made s s') → Answers (plan checked) s' s'' u u' n → m ≡ 0 → (n ≡ 0) ⊎ (n ≡ 7)
check-of-made made None s s' s'' t t' u u' files m n asked = absurd asked
check-of-made made (Some (make c)) s s' s'' t t' u u' files m n asked = absurd asked
check-of-made made (Some (pipe c)) s s' s'' t t' u u' files m n asked = absurd asked
check-of-made made (Some (settle c)) s s' s'' t t' u u' files m n asked = absurd asked
check-of-made made (Some (run c)) s s' s'' t t' u u' files m n asked = absurd asked
check-of-made made (Some (explain c)) s s' s'' t t' u u' files m n asked = absurd asked
check-of-made made (Some (trial c)) s s' s'' t t' u u' files m n asked = absurd asked
check-of-made made (Some (state c)) s s' s'' t t' u u' files m n asked = absurd asked
check-of-made made (Some (cell c)) s s' s'' t t' u u' files m n asked = absurd asked
check-of-made made (Some (join c)) s s' s'' t t' u u' files m n asked = absurd asked
check-of-made made (Some (split c)) s s' s'' t t' u u' files m n asked = absurd asked
check-of-made made (Some (asm c)) s s' s'' t t' u u' files m n asked = absurd asked
check-of-made made (Some (upgrade c)) s s' s'' t t' u u' files m n asked = absurd asked
check-of-made None (Some (check c)) s s' s'' t t' u u' files m n asked = absurd asked
check-of-made (Some (check w)) (Some (check c)) s s' s'' t t' u u' files m n asked = absurd asked
check-of-made (Some (settle w)) (Some (check c)) s s' s'' t t' u u' files m n asked = absurd asked
check-of-made (Some (run w)) (Some (check c)) s s' s'' t t' u u' files m n asked = absurd asked
check-of-made (Some (explain w)) (Some (check c)) s s' s'' t t' u u' files m n asked = absurd asked
check-of-made (Some (trial w)) (Some (check c)) s s' s'' t t' u u' files m n asked = absurd asked
check-of-made (Some (state w)) (Some (check c)) s s' s'' t t' u u' files m n asked = absurd asked
check-of-made (Some (cell w)) (Some (check c)) s s' s'' t t' u u' files m n asked = absurd asked
check-of-made (Some (join w)) (Some (check c)) s s' s'' t t' u u' files m n asked = absurd asked
check-of-made (Some (split w)) (Some (check c)) s s' s'' t t' u u' files m n asked = absurd asked
check-of-made (Some (asm w)) (Some (check c)) s s' s'' t t' u u' files m n asked = absurd asked
check-of-made (Some (upgrade w)) (Some (check c)) s s' s'' t t' u u' files m n asked = absurd asked
check-of-made (Some (make w)) (Some (check c)) s s' s'' t t' u u' files m n asked = λ told calm silent answers headline answers' zero.
    both w c s s' s'' t t' u u' files n asked told calm silent (subst (Answers (making_plan w) s s' t t') zero answers) (headline zero) answers'
check-of-made (Some (pipe w)) (Some (check c)) s s' s'' t t' u u' files m n asked = λ told calm silent answers headline answers' zero.
    both w.make c s s' s'' t t' u u' files n asked told calm silent (subst (Answers (making_plan w.make) s s' t t') zero answers) (headline zero) answers'
