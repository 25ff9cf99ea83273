-- The promise of a call that tells how a plan ended, from how it ended and what was printed.
use Rattle.std.proofs.Common.{◌≡◌, ◌≢◌, inl, inr, ℕ, ◌≤◌, List, [], ◌++◌, Bool, true, false, ◌||◌, Option, Some, None, Ok, ◌==◌, ◌&&◌, slice_index, nat_lt, refl, sym, ◌∙◌, ap, subst, arith, option_map, length, if◌then◌else◌}
use Rattle.std.proofs.lemmas.Bool.{eqb-false, false≢true}
use Rattle.rv_base.specs.declared.limits.TheConstants.{ELF_LIMIT, INPUT_LIMIT}
use Rattle.rv_spec.specs.Elf.{first_fault}
use Rattle.rv_host.specs.Files.{Files}
use Rattle.rv_host.specs.Views.{ShelfView, SinkView}
use Rattle.rv_plan.specs.Faults.{status_of, line_of, has_number}
use Rattle.rv_plan.specs.Plan.{Outcome, Plan, read, answer, refuses, read_within, unless_faulty, read_program, outcome_over, with_due}
use Rattle.rv_plan.specs.Endings.{Ends, IsWritten, Leaves, Reaches, TakesMemory}
use Rattle.rv_plan.specs.Endings.Ends.{done, unread, unwritten, no_memory}
use Rattle.rv_plan.specs.FileCalls.{Performs, Stops}
use Rattle.rv_plan.specs.Answers.{AllListed, Answers, IsListed, IsOutcomeOf, IsStatus, Prints, PrintsFault}
use Rattle.rv_plan.specs.Answers.Prints.{whole, torn}
use Rattle.rv_plan.specs.declared.told.Told.{Told}
use Rattle.rv_plan.specs.declared.faults.Fault.{Fault}
use Rattle.rv_plan.specs.declared.faults.Limited.{Limited}
use Rattle.rv_plan.specs.declared.faults.Limited.TheVariants as limited
use Rattle.rv_plan.specs.declared.faults.VersionFault.TheVariants as version
use Rattle.rv_plan.specs.declared.faults.Fault.TheVariants.{Words, Elf, Budget, Read, Write, Memory, Limit, Version, Part, Step, Assembly}

apart : {m n : ℕ} → (m == n) ≡ false → m ≢ n
apart {m} {n} e = eqb-false m n e

-- ---- the outcomes of the table

pub at-most-8 : (o : Outcome) → o.status ≤ 8 → (o.status ≢ 0 → o.writes ≡ []) → IsListed o
at-most-8 o le none = record { status = inl (omega arith, le); writes = none }

pub refusal-listed : (f : Fault) → IsListed (refuses f)
refusal-listed Words = at-most-8 _ (omega arith) (λ _. refl)
refusal-listed (Elf e) = at-most-8 _ (omega arith) (λ _. refl)
refusal-listed (Budget n) = at-most-8 _ (omega arith) (λ _. refl)
refusal-listed Read = at-most-8 _ (omega arith) (λ _. refl)
refusal-listed Write = at-most-8 _ (omega arith) (λ _. refl)
refusal-listed Memory = at-most-8 _ (omega arith) (λ _. refl)
refusal-listed (Limit what) = at-most-8 _ (omega arith) (λ _. refl)
refusal-listed (Version reason) = record { status = inr (omega arith, omega arith); writes = λ _. refl }
refusal-listed (Part number fault) = record { status = inr (omega arith, omega arith); writes = λ _. refl }
refusal-listed (Step steps) = record { status = inr (omega arith, omega arith); writes = λ _. refl }
refusal-listed (Assembly at kind) = record { status = inr (omega arith, omega arith); writes = λ _. refl }

pub success-listed : (o : Outcome) → o.status ≡ 0 → IsListed o
success-listed o is = at-most-8 o (omega (arith, is)) (λ n. absurd (n is))

pub listed-answer : (p : Outcome) → IsListed p → AllListed (answer p)
listed-answer p h files o is = subst IsListed (sym is) h

pub listed-if : (b : Bool) (x y : Plan) → AllListed x → AllListed y → AllListed (if b then x else y)
listed-if true x y hx hy = hx
listed-if false x y hx hy = hy

pub listed-read : (name : List ℕ) (next : List ℕ → Plan) → ((bytes : List ℕ) → AllListed (next bytes)) → AllListed (read name next)
listed-read name next h files o r = h r.0 files o r.2

pub listed-within : (name : List ℕ) (limit : ℕ) (what : Limited) (next : List ℕ → Plan) → ((bytes : List ℕ) → AllListed (next bytes)) → AllListed (read_within name limit what next)
listed-within name limit what next h files o r =
    listed-if (nat_lt limit (length r.0)) (answer (refuses (Limit what))) (next r.0) (listed-answer (refuses (Limit what)) (refusal-listed (Limit what))) (h r.0) files o r.2

listed-judged : (fault : Option ℕ) (p : Plan) → AllListed p → AllListed (unless_faulty fault p)
listed-judged None p h = h
listed-judged (Some n) p h = λ files o is. subst IsListed (sym is) (at-most-8 _ (omega arith) (λ _. refl))

pub listed-program : (elf input : List ℕ) (next : List ℕ → List ℕ → Plan) → ((program given : List ℕ) → AllListed (next program given)) → AllListed (read_program elf input next)
listed-program elf input next h =
    listed-within elf ELF_LIMIT limited.Elf _ (λ program. listed-within input INPUT_LIMIT limited.Input _ (λ given. listed-judged (first_fault program) (next program given) (h program given)))

-- ---- from the end of a plan to the promise

same-files : (o : Option Files) → option_map (λ told. with_due told []) o ≡ o
same-files None = refl
same-files (Some files) = refl

pub nothing-written : (s s' : ShelfView) → Leaves s s' → IsWritten [] s s'
nothing-written s s' h = record { files = h.files ∙ sym (same-files s.files); writes = h.writes }

unwritten-files : (o : Outcome) (s s' : ShelfView) → o.writes ≡ [] → IsWritten o.writes s s' → s'.files ≡ s.files
unwritten-files o s s' none h = h.files ∙ ap (λ writes. option_map (λ told. with_due told writes) s.files) none ∙ same-files s.files

ended-status : (p : Plan) → AllListed p → (s s' : ShelfView) (status : ℕ) (text : List ℕ) → Ends p s s' status text → IsStatus status
ended-status p h s s' status text (done o reached is _ _) = subst IsStatus (sym is) (h s.files o reached).status
ended-status p h s s' status text (unread is _ _ _) = inl (omega arith, omega (arith, is))
ended-status p h s s' status text (unwritten _ _ is _ _) = inl (omega arith, omega (arith, is))
ended-status p h s s' status text (no_memory _ is _ _) = inl (omega arith, omega (arith, is))

ended-files : (p : Plan) → AllListed p → (s s' : ShelfView) (status : ℕ) (text : List ℕ) → Ends p s s' status text → status ≢ 0 → status ≢ 6 → s'.files ≡ s.files
ended-files p h s s' status text (done o reached is _ written) not0 not6 = unwritten-files o s s' ((h s.files o reached).writes (λ z. not0 (is ∙ z))) written
ended-files p h s s' status text (unread _ _ _ left) not0 not6 = left.files
ended-files p h s s' status text (unwritten _ _ is _ _) not0 not6 = absurd (not6 is)
ended-files p h s s' status text (no_memory _ _ _ left) not0 not6 = left.files

-- over told files the contents are the told ones
pub reaches-told : (files : Files) (p : Plan) (o : Outcome) → Reaches (Some files) p o → o ≡ outcome_over files p
reaches-told files (read name next) o r = reaches-told files (next r.0) o r.2 ∙ ap (λ contents. outcome_over files (next contents)) r.1
reaches-told files (answer p) o r = r

ended-told : (p : Plan) (s s' : ShelfView) (t t' : SinkView) (status : ℕ) (text : List ℕ) (result : ℕ) (files : Files) → Ends p s s' status text → result ≡ status → t'.written ≡ option_map (λ told. told ++ text) t.written
    → s.files ≡ Some files → status ≢ 5 → status ≢ 6 → status ≢ 7 → IsOutcomeOf p files s' t t' result
ended-told p s s' t t' status text result files (done o reached is line written) same gains told not5 not6 not7 = record {
  status = same ∙ is ∙ ap (λ x. x.status) (reaches-told files p o (subst (λ fs. Reaches fs p o) told reached));
  files' = written.files ∙ ap (option_map (λ fs. with_due fs o.writes)) told ∙ ap (λ x. Some (with_due files x.writes)) (reaches-told files p o (subst (λ fs. Reaches fs p o) told reached));
  printed = gains ∙ ap (λ x. option_map (λ told. told ++ x) t.written) (line ∙ ap (λ x. x.text) (reaches-told files p o (subst (λ fs. Reaches fs p o) told reached)));
}
ended-told p s s' t t' status text result files (unread is _ _ _) same gains told not5 not6 not7 = absurd (not5 is)
ended-told p s s' t t' status text result files (unwritten _ _ is _ _) same gains told not5 not6 not7 = absurd (not6 is)
ended-told p s s' t t' status text result files (no_memory _ is _ _) same gains told not5 not6 not7 = absurd (not7 is)

pub answers : (p : Plan) → AllListed p → (s s' : ShelfView) (t t' : SinkView) (status : ℕ) (text : List ℕ) (result : ℕ) → Ends p s s' status text → Prints t t' status text result → Answers p s s' t t' result
answers p h s s' t t' status text result e (whole is gains) = record {
  status = status;
  text = text;
  ended = e;
  printed = whole is gains;
  listed = subst IsStatus (sym is) (ended-status p h s s' status text e);
  told = λ files told not5 not6 not7. ended-told p s s' t t' status text result files e is gains told (λ z. not5 (is ∙ z)) (λ z. not6 (is ∙ z)) (λ z. not7 (is ∙ z));
  kept = λ not0 not6. ended-files p h s s' status text e (λ z. not0 (is ∙ z)) (λ z. not6 (is ∙ z));
}
answers p h s s' t t' status text result e (torn is rose gains) = record {
  status = status;
  text = text;
  ended = e;
  printed = torn is rose gains;
  listed = inl (omega (arith, is), omega (arith, is));
  told = λ files told not5 not6 not7. absurd (not6 is);
  kept = λ not0 not6. absurd (not6 is);
}

-- ---- how a command ended

refused : (p : Plan) (s s' : ShelfView) (f : Fault) → Leaves s s' × Reaches s.files p (refuses f) → Ends p s s' (status_of f) (line_of f)
refused p s s' f h = done (refuses f) h.1 refl refl (nothing-written s s' h.0)

stopped : (p : Plan) (s s' : ShelfView) (f : Fault) → Stops p s s' f → Ends p s s' (status_of f) (line_of f)
stopped p s s' Words h = refused p s s' Words h
stopped p s s' (Elf e) h = refused p s s' (Elf e) h
stopped p s s' (Budget n) h = refused p s s' (Budget n) h
stopped p s s' Read h = unread refl refl h.1 h.0
stopped p s s' Write h = unwritten h.0 h.1 refl refl h.2
stopped p s s' Memory h = no_memory h.1 refl refl h.0
stopped p s s' (Limit what) h = refused p s s' (Limit what) h
stopped p s s' (Version reason) h = refused p s s' (Version reason) h
stopped p s s' (Part number fault) h = refused p s s' (Part number fault) h
stopped p s s' (Step steps) h = refused p s s' (Step steps) h
stopped p s s' (Assembly at kind) h = refused p s s' (Assembly at kind) h

-- the outcomes of faults with a number, by their statuses; of status 10 only those whose line goes on with "atomic"
abbrev is_numbered : Outcome → Bool
is_numbered o = o.status == 3 || (o.status == 4 || (o.status == 11 || (o.status == 12 || (o.status == 13 || (o.status == 10 && slice_index o.text 14 == 97)))))

numbered-outcome : (f : Fault) → is_numbered (refuses f) ≡ has_number f
numbered-outcome Words = refl
numbered-outcome (Elf e) = refl
numbered-outcome (Budget n) = refl
numbered-outcome Read = refl
numbered-outcome Write = refl
numbered-outcome Memory = refl
numbered-outcome (Limit what) = refl
numbered-outcome (Version version.New) = refl
numbered-outcome (Version (version.Atomic word)) = refl
numbered-outcome (Part number fault) = refl
numbered-outcome (Step steps) = refl
numbered-outcome (Assembly at kind) = refl

-- a fault with a number is no fault without one
numbered-apart : (e f : Fault) → has_number e ≡ true → has_number f ≡ false → refuses e ≢ refuses f
numbered-apart e f numbered none same =
    false≢true (sym (sym numbered ∙ sym (numbered-outcome e) ∙ ap is_numbered same ∙ numbered-outcome f ∙ none))

numbered-takes : (p : Plan) (files : Option Files) (e : Fault) → has_number e ≡ true → Reaches files p (refuses e) → TakesMemory p
numbered-takes (read name next) files e numbered reached = tt
numbered-takes (answer o) files e numbered reached = λ f none is. numbered-apart e f numbered none (reached ∙ is)

-- a fault with a number has changed no file, and its line takes memory
unnumbered : (p : Plan) (s s' : ShelfView) (f : Fault) → has_number f ≡ true → Stops p s s' f → Leaves s s' × TakesMemory p
unnumbered p s s' (Elf e) n h = (h.0, numbered-takes p s.files (Elf e) n h.1)
unnumbered p s s' (Budget b) n h = (h.0, numbered-takes p s.files (Budget b) n h.1)
unnumbered p s s' (Version (version.Atomic word)) n h = (h.0, numbered-takes p s.files (Version (version.Atomic word)) n h.1)
unnumbered p s s' (Version version.New) n h = absurd (false≢true n)
unnumbered p s s' (Part number fault) n h = (h.0, numbered-takes p s.files (Part number fault) n h.1)
unnumbered p s s' (Step steps) n h = (h.0, numbered-takes p s.files (Step steps) n h.1)
unnumbered p s s' (Assembly at kind) n h = (h.0, numbered-takes p s.files (Assembly at kind) n h.1)
unnumbered p s s' Words n h = absurd (false≢true n)
unnumbered p s s' Read n h = absurd (false≢true n)
unnumbered p s s' Write n h = absurd (false≢true n)
unnumbered p s s' Memory n h = absurd (false≢true n)
unnumbered p s s' (Limit what) n h = absurd (false≢true n)

pub fault-answers : (p : Plan) → AllListed p → (s s' : ShelfView) (t t' : SinkView) (f : Fault) (result : ℕ) → Stops p s s' f → PrintsFault t t' f result → Answers p s s' t t' result
fault-answers p h s s' t t' f result stops (inl printed) = answers p h s s' t t' (status_of f) (line_of f) result (stopped p s s' f stops) printed
fault-answers p h s s' t t' f result stops (inr (numbered, printed)) =
    let k = unnumbered p s s' f numbered stops in
    answers p h s s' t t' 7 (line_of Memory) result (no_memory k.1 refl refl k.0) printed

-- ---- for the call that tells

pub told-answers : (p : Plan) → AllListed p → (s s' : ShelfView) (t t' : SinkView) (told : Told) (result : ℕ) → Performs p s s' (Ok told) → Prints t t' told.status told.text result → Answers p s s' t t' result
told-answers p h s s' t t' told result performs printed = answers p h s s' t t' told.status told.text result (done performs.0 performs.1 performs.2 performs.3 performs.4) printed
