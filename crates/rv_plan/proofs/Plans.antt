-- Plans that read a program: where they stop, and what they reach.
use Rattle.std.proofs.Common.{◌≡◌, ℕ, ◌<◌, ◌≤◌, ◌+◌, inl, inr, List, length, take, Option, Some, None, Ok, Err, Result, option_map, refl, sym, subst, ap, ◌∙◌, arith, if◌then◌else◌}
use Rattle.std.proofs.lemmas.Bool.{lt-ltb, le-ltb}
use Rattle.std.proofs.lemmas.List.{length-take, take_all}
use Rattle.std.specs.Result.{IsErrAnd}
use Rattle.std.proofs.lemmas.Result.{err_from_is_err_and}
use Rattle.rv_base.specs.declared.limits.TheConstants.{ELF_LIMIT, INPUT_LIMIT}
use Rattle.rv_spec.specs.Elf.{first_fault}
use Rattle.rv_elf.specs.Faults.{number_of}
use Rattle.rv_elf.specs.declared.fault.ElfFault.{ElfFault}
use Rattle.rv_host.specs.Counts.{Rose}
use Rattle.rv_host.specs.Files.{Files, file}
use Rattle.rv_host.specs.Views.{ShelfView}
use Rattle.rv_plan.specs.Plan.{Due, Outcome, Plan, read, answer, read_within, read_program, refuses, unless_faulty, with_due}
use Rattle.rv_plan.specs.Endings.{IsContents, Leaves, ReadFails, Reaches, TakesMemory, WriteFails}
use Rattle.rv_plan.specs.FileCalls.{IsUnchanged, Loads, Performs, PerformsBehind, ReadsWithin, Stops, StopsBehind}
use Rattle.rv_plan.specs.declared.faults.Fault.{Fault}
use Rattle.rv_plan.specs.declared.faults.Limited.{Limited}
use Rattle.rv_plan.specs.declared.faults.Limited.TheVariants as limited
use Rattle.rv_plan.specs.declared.faults.Fault.TheVariants.{Words, Elf, Budget, Read, Write, Memory, Limit, Version, Part, Step, Assembly}
use Rattle.rv_plan.specs.declared.loading.Loaded.{Loaded}
use Rattle.rv_plan.specs.declared.told.Told.{Told}

-- an error that is handed on
pub handed-on : {T : Type 0} (r : Result T Fault) (f : Fault) → IsErrAnd r (λ e. e ≡ f) → r ≡ Err f
handed-on r f h = let p = err_from_is_err_and r h in p.1 ∙ ap Err p.2

pub left : {s s' : ShelfView} → IsUnchanged s s' → Leaves s s'
left h = record { files = h.files; writes = h.writes }

-- the views around a write that follows calls which changed nothing
pub writes-fail : (due : List Due) (s s' s'' : ShelfView) → IsUnchanged s s' → WriteFails due s' s'' → WriteFails due s s''
writes-fail due s s' s'' same h = record {
  first = h.first;
  name = h.name;
  bytes = h.bytes;
  last = h.last;
  order = h.order;
  rose = subst (λ n. Rose n (s''.write_faults h.name)) (same.writes h.name) h.rose;
  torn = λ told is. h.torn told (same.files ∙ is);
}

-- ---- contents

longer : (whole bytes : List ℕ) (limit size : ℕ) → size ≡ length bytes → limit < size → bytes ≡ take (limit + 1) whole → limit < length whole
longer whole bytes limit size same above is = omega (arith, same, above, ap length is, length-take (limit + 1) whole)

-- what was read of a file that is longer than its limit
pub contents-above : (files : Option Files) (name bytes : List ℕ) (limit size : ℕ) → size ≡ length bytes → limit < size → ((told : Files) → files ≡ Some told → bytes ≡ take (limit + 1) (file told name))
    → (contents : List ℕ) × (limit < length contents) × IsContents files name contents
contents-above None name bytes limit size same above told = (bytes, subst (λ n. limit < n) same above, tt)
contents-above (Some files) name bytes limit size same above told = (file files name, longer (file files name) bytes limit size same above (told files refl), refl)

all-read : (whole bytes : List ℕ) (limit size : ℕ) → size ≡ length bytes → size ≤ limit → bytes ≡ take (limit + 1) whole → bytes ≡ whole
all-read whole bytes limit size same within is = is ∙ take_all (limit + 1) whole (omega (arith, same, within, ap length is, length-take (limit + 1) whole))

-- what was read of a file within its limit
pub contents-within : (files : Option Files) (name bytes : List ℕ) (limit size : ℕ) → size ≡ length bytes → size ≤ limit → ((told : Files) → files ≡ Some told → bytes ≡ take (limit + 1) (file told name))
    → IsContents files name bytes
contents-within None name bytes limit size same within told = tt
contents-within (Some files) name bytes limit size same within told = all-read (file files name) bytes limit size same within (told files refl)

-- ---- one file within its limit

reaches-within : (files : Option Files) (name : List ℕ) (limit : ℕ) (what : Limited) (next : List ℕ → Plan) (o : Outcome) (bytes : List ℕ) → length bytes ≤ limit → IsContents files name bytes
    → Reaches files (next bytes) o → Reaches files (read_within name limit what next) o
reaches-within files name limit what next o bytes within is reached =
    (bytes, is, subst (λ b. Reaches files (if b then answer (refuses (Limit what)) else next bytes) o) (sym (le-ltb limit (length bytes) within)) reached)

reaches-above : (files : Option Files) (name : List ℕ) (limit : ℕ) (what over : Limited) (next : List ℕ → Plan) → over ≡ what → (contents : List ℕ) × (limit < length contents) × IsContents files name contents
    → Reaches files (read_within name limit what next) (refuses (Limit over))
reaches-above files name limit what over next same h =
    (h.0, h.2, subst (λ b. Reaches files (if b then answer (refuses (Limit what)) else next h.0) (refuses (Limit over))) (sym (lt-ltb limit (length h.0) h.1)) (ap (λ w. refuses (Limit w)) same))

fails-within : (before after : ShelfView) (name : List ℕ) (limit : ℕ) (what : Limited) (next : List ℕ → Plan) (bytes : List ℕ) → length bytes ≤ limit → IsContents before.files name bytes
    → ReadFails before after (next bytes) → ReadFails before after (read_within name limit what next)
fails-within before after name limit what next bytes within is fails =
    inr (bytes, is, subst (λ b. ReadFails before after (if b then answer (refuses (Limit what)) else next bytes)) (sym (le-ltb limit (length bytes) within)) fails)

-- ---- a program and its input

-- one that couldn't be read, or is above its limit
pub read-stops : (name : List ℕ) (limit : ℕ) (what : Limited) (s s' : ShelfView) (f : Fault) (next : List ℕ → Plan) → ReadsWithin name limit what s s' (Err f) → Stops (read_within name limit what next) s s' f
read-stops name limit what s s' Words next h = absurd h
read-stops name limit what s s' (Elf e) next h = absurd h
read-stops name limit what s s' (Budget n) next h = absurd h
read-stops name limit what s s' (Version reason) next h = absurd h
read-stops name limit what s s' (Part number fault) next h = absurd h
read-stops name limit what s s' (Step steps) next h = absurd h
read-stops name limit what s s' (Assembly at kind) next h = absurd h
read-stops name limit what s s' Read next h = (h.0, inl h.1)
read-stops name limit what s s' Write next h = absurd h
read-stops name limit what s s' Memory next h = (h, tt)
read-stops name limit what s s' (Limit over) next h = (left h.0, reaches-above s.files name limit what over next h.1 h.2)

pub elf-refused : (elf input : List ℕ) (before after : ShelfView) (f : Fault) → ReadsWithin elf ELF_LIMIT limited.Elf before after (Err f) → (next : List ℕ → List ℕ → Plan) → Stops (read_program elf input next) before after f
elf-refused elf input before after f h next = read-stops elf ELF_LIMIT limited.Elf before after f _ h

-- what is left after two calls, of which the first changed nothing
after-both : (before middle after : ShelfView) → IsUnchanged before middle → Leaves middle after → Leaves before after
after-both before middle after same h = record { files = h.files ∙ same.files; writes = λ name. h.writes name ∙ same.writes name }

pub input-refused : (elf input bytes : List ℕ) (before middle after : ShelfView) (f : Fault) → ReadsWithin elf ELF_LIMIT limited.Elf before middle (Ok bytes) → ReadsWithin input INPUT_LIMIT limited.Input middle after (Err f)
    → (next : List ℕ → List ℕ → Plan) → Stops (read_program elf input next) before after f
input-refused elf input bytes before middle after Words was h next = absurd h
input-refused elf input bytes before middle after (Elf e) was h next = absurd h
input-refused elf input bytes before middle after (Budget n) was h next = absurd h
input-refused elf input bytes before middle after (Version reason) was h next = absurd h
input-refused elf input bytes before middle after (Part number fault) was h next = absurd h
input-refused elf input bytes before middle after (Step steps) was h next = absurd h
input-refused elf input bytes before middle after (Assembly at kind) was h next = absurd h
input-refused elf input bytes before middle after Read was h next =
    (after-both before middle after was.0 h.0, fails-within before after elf ELF_LIMIT limited.Elf _ bytes was.1 was.2 (inl (subst (λ n. Rose n (after.read_faults input)) (was.0.reads input) h.1)))
input-refused elf input bytes before middle after Write was h next = absurd h
input-refused elf input bytes before middle after Memory was h next = (after-both before middle after was.0 h, tt)
input-refused elf input bytes before middle after (Limit over) was h next = (
  after-both before middle after was.0 (left h.0),
  reaches-within before.files elf ELF_LIMIT limited.Elf _ (refuses (Limit over)) bytes was.1 was.2
      (reaches-above before.files input INPUT_LIMIT limited.Input over _ h.1 (h.2.0, h.2.1, subst (λ files. IsContents files input h.2.0) was.0.files h.2.2)),
)

-- both files are read, the second after the first
pub both-loaded : (elf input : List ℕ) (before middle after : ShelfView) (l : Loaded) → ReadsWithin elf ELF_LIMIT limited.Elf before middle (Ok l.elf) → ReadsWithin input INPUT_LIMIT limited.Input middle after (Ok l.input) → Loads elf input before after (Ok l)
both-loaded elf input before middle after l first second = (
  record {
    files = second.0.files ∙ first.0.files;
    reads = λ name. second.0.reads name ∙ first.0.reads name;
    writes = λ name. second.0.writes name ∙ first.0.writes name;
  },
  first.1,
  second.1,
  first.2,
  subst (λ files. IsContents files input l.input) first.0.files second.2,
)

-- what was loaded leads to what the program's judgement leads to
reaches-judged : (elf input : List ℕ) (s s' : ShelfView) (l : Loaded) (next : List ℕ → List ℕ → Plan) (o : Outcome) (fault : Option ℕ) → Loads elf input s s' (Ok l) → first_fault l.elf ≡ fault
    → Reaches s.files (unless_faulty fault (next l.elf l.input)) o → Reaches s.files (read_program elf input next) o
reaches-judged elf input s s' l next o fault h is reached =
    reaches-within s.files elf ELF_LIMIT limited.Elf _ o l.elf h.1 h.3
    (reaches-within s.files input INPUT_LIMIT limited.Input _ o l.input h.2 h.4 (subst (λ f. Reaches s.files (unless_faulty f (next l.elf l.input)) o) (sym is) reached))

pub reaches-program : (elf input : List ℕ) (s s' : ShelfView) (l : Loaded) (next : List ℕ → List ℕ → Plan) (o : Outcome) → Loads elf input s s' (Ok l) → first_fault l.elf ≡ None
    → Reaches s.files (next l.elf l.input) o → Reaches s.files (read_program elf input next) o
reaches-program elf input s s' l next o h faultless reached = reaches-judged elf input s s' l next o None h faultless reached

pub image-refused : (elf input : List ℕ) (s s' : ShelfView) (l : Loaded) (next : List ℕ → List ℕ → Plan) (f : Fault) → Loads elf input s s' (Ok l)
    → (e : ElfFault) × (f ≡ Elf e) × (first_fault l.elf ≡ Some (number_of e)) → Stops (read_program elf input next) s s' f
image-refused elf input s s' l next f h k =
    subst (λ x. Stops (read_program elf input next) s s' x) (sym k.1) (left h.0, reaches-judged elf input s s' l next (refuses (Elf k.0)) (Some (number_of k.0)) h k.2 refl)

-- ---- behind a program and its input

-- what is left after calls that changed nothing and then by others
leaves-behind : {s s' s'' : ShelfView} → IsUnchanged s s' → Leaves s' s'' → Leaves s s''
leaves-behind {s} {s'} {s''} same h = after-both s s' s'' same h

reaches-before : {s s' : ShelfView} (p : Plan) (o : Outcome) → IsUnchanged s s' → Reaches s'.files p o → Reaches s.files p o
reaches-before p o same h = subst (λ files. Reaches files p o) same.files h

fails-before : (s s' s'' : ShelfView) (p : Plan) → IsUnchanged s s' → ReadFails s' s'' p → ReadFails s s'' p
fails-before s s' s'' (read name next) same (inl rose) = inl (subst (λ n. Rose n (s''.read_faults name)) (same.reads name) rose)
fails-before s s' s'' (read name next) same (inr h) = inr (h.0, subst (λ files. IsContents files name h.0) same.files h.1, fails-before s s' s'' (next h.0) same h.2)
fails-before s s' s'' (answer o) same h = h

-- what a plan stops for behind files that were read, the plan that reads them stops for
lift-stops : (s s' s'' : ShelfView) (p q : Plan) (f : Fault) → IsUnchanged s s' → TakesMemory q → ((o : Outcome) → Reaches s.files p o → Reaches s.files q o) → (ReadFails s s'' p → ReadFails s s'' q) → StopsBehind p s' s'' f → Stops q s s'' f
lift-stops s s' s'' p q Words same takes on fails h = (leaves-behind same h.0, on (refuses Words) (reaches-before p (refuses Words) same h.1))
lift-stops s s' s'' p q (Elf e) same takes on fails h = (leaves-behind same h.0, on (refuses (Elf e)) (reaches-before p (refuses (Elf e)) same h.1))
lift-stops s s' s'' p q (Budget n) same takes on fails h = (leaves-behind same h.0, on (refuses (Budget n)) (reaches-before p (refuses (Budget n)) same h.1))
lift-stops s s' s'' p q (Version reason) same takes on fails h = (leaves-behind same h.0, on (refuses (Version reason)) (reaches-before p (refuses (Version reason)) same h.1))
lift-stops s s' s'' p q (Part number fault) same takes on fails h = (leaves-behind same h.0, on (refuses (Part number fault)) (reaches-before p (refuses (Part number fault)) same h.1))
lift-stops s s' s'' p q (Step steps) same takes on fails h = (leaves-behind same h.0, on (refuses (Step steps)) (reaches-before p (refuses (Step steps)) same h.1))
lift-stops s s' s'' p q (Assembly at kind) same takes on fails h = (leaves-behind same h.0, on (refuses (Assembly at kind)) (reaches-before p (refuses (Assembly at kind)) same h.1))
lift-stops s s' s'' p q Read same takes on fails h = (leaves-behind same h.0, fails (fails-before s s' s'' p same h.1))
lift-stops s s' s'' p q Write same takes on fails h = (h.0, on h.0 (reaches-before p h.0 same h.1), writes-fail h.0.writes s s' s'' same h.2)
lift-stops s s' s'' p q Memory same takes on fails h = (leaves-behind same h, takes)
lift-stops s s' s'' p q (Limit what) same takes on fails h = (leaves-behind same h.0, on (refuses (Limit what)) (reaches-before p (refuses (Limit what)) same h.1))

lift-performs : (s s' s'' : ShelfView) (p q : Plan) (r : Result Told Fault) → IsUnchanged s s' → TakesMemory q → ((o : Outcome) → Reaches s.files p o → Reaches s.files q o) → (ReadFails s s'' p → ReadFails s s'' q) → PerformsBehind p s' s'' r → Performs q s s'' r
lift-performs s s' s'' p q (Ok told) same takes on fails h = (
  h.0,
  on h.0 (reaches-before p h.0 same h.1),
  h.2,
  h.3,
  record { files = h.4.files ∙ ap (option_map (λ fs. with_due fs h.0.writes)) same.files; writes = λ name. h.4.writes name ∙ same.writes name },
)
lift-performs s s' s'' p q (Err f) same takes on fails h = lift-stops s s' s'' p q f same takes on fails h

fails-judged : (elf input : List ℕ) (s s' s'' : ShelfView) (l : Loaded) (next : List ℕ → List ℕ → Plan) → Loads elf input s s' (Ok l) → first_fault l.elf ≡ None → ReadFails s s'' (next l.elf l.input) → ReadFails s s'' (read_program elf input next)
fails-judged elf input s s' s'' l next h faultless fails =
    fails-within s s'' elf ELF_LIMIT limited.Elf _ l.elf h.1 h.3
    (fails-within s s'' input INPUT_LIMIT limited.Input _ l.input h.2 h.4 (subst (λ f. ReadFails s s'' (unless_faulty f (next l.elf l.input))) (sym faultless) fails))

-- A command that has loaded its program and input goes on as what its plan goes on with.
pub performs-loaded : (elf input : List ℕ) (s s' s'' : ShelfView) (l : Loaded) (next : List ℕ → List ℕ → Plan) (r : Result Told Fault) → Loads elf input s s' (Ok l) → first_fault l.elf ≡ None
    → PerformsBehind (next l.elf l.input) s' s'' r → Performs (read_program elf input next) s s'' r
performs-loaded elf input s s' s'' l next r h faultless performs =
    lift-performs s s' s'' (next l.elf l.input) (read_program elf input next) r h.0 tt (λ o. reaches-program elf input s s' l next o h faultless) (fails-judged elf input s s' s'' l next h faultless) performs

-- A command that has read a file within its limit goes on so too.
pub performs-read : (name : List ℕ) (limit : ℕ) (what : Limited) (s s' s'' : ShelfView) (bytes : List ℕ) (next : List ℕ → Plan) (r : Result Told Fault) → ReadsWithin name limit what s s' (Ok bytes)
    → PerformsBehind (next bytes) s' s'' r → Performs (read_within name limit what next) s s'' r
performs-read name limit what s s' s'' bytes next r h performs =
    lift-performs s s' s'' (next bytes) (read_within name limit what next) r h.0 tt (λ o. reaches-within s.files name limit what next o bytes h.1 h.2) (fails-within s s'' name limit what next bytes h.1 h.2) performs

-- a command's contract is one of what it does behind a file
pub performs-behind : (p : Plan) (s s' : ShelfView) (r : Result Told Fault) → Performs p s s' r → PerformsBehind p s s' r
performs-behind p s s' (Ok told) h = h
performs-behind p s s' (Err Words) h = h
performs-behind p s s' (Err (Elf e)) h = h
performs-behind p s s' (Err (Budget n)) h = h
performs-behind p s s' (Err (Version reason)) h = h
performs-behind p s s' (Err (Part number fault)) h = h
performs-behind p s s' (Err (Step steps)) h = h
performs-behind p s s' (Err (Assembly at kind)) h = h
performs-behind p s s' (Err Read) h = h
performs-behind p s s' (Err Write) h = h
performs-behind p s s' (Err Memory) h = h.0
performs-behind p s s' (Err (Limit what)) h = h
