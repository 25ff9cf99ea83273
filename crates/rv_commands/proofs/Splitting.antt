-- What split does, as its plan says, and what its success says.
use Rattle.std.proofs.Common.{◌≡◌, ◌≤◌, ◌<◌, inl, inr, ℕ, ◌+◌, List, [], ◌∷◌, ◌++◌, length, map, take, get_or, arith, Ok, Err, Result, IfOk, refl, sym, ap, subst, ◌∙◌, option_map, if◌then◌else◌}
use Rattle.std.specs.List.{flat_map, range_with_len, zip}
use Rattle.std.proofs.lemmas.List.{length-map, length-take-le, map-append, take_more}
use Rattle.rv_book.proofs.Lemmas.{range-snoc}
use Rattle.std.proofs.lemmas.Bool.{eqb-false, le-ltb, lt-ltb}
use Rattle.rv_base.specs.declared.limits.TheConstants.{RECORD_LIMIT}
use Rattle.rv_base.specs.declared.record.Refusal.{Refusal}
use Rattle.rv_base.specs.declared.record.Verdict.TheVariants.{Refuse}
use Rattle.rv_spec.specs.Grammar.{Spells}
use Rattle.rv_spec.specs.Record.{Parts}
use Rattle.rv_rules.specs.Verdict.{parse}
use Rattle.rv_host.specs.Views.{ShelfView}
use Rattle.rv_parts.specs.declared.cutting.PartCut.{PartCut}
use Rattle.rv_parts.specs.Cutting.{PartsAreFile, body_of, front_of, head_of_part, part_bytes}
use Rattle.rv_parts.specs.Heads.{head_bytes}
use Rattle.rv_plan.specs.Plan.{Due, Outcome, answer, refuses, with_due}
use Rattle.rv_plan.specs.Endings.{IsWritten, WriteFails}
use Rattle.rv_plan.specs.FileCalls.{IsUnchanged, Performs, PerformsBehind, ReadsWithin, Stops, due_of}
use Rattle.rv_plan.specs.declared.writing.DueFile.{DueFile}
use Rattle.rv_plan.specs.declared.faults.Fault.{Fault}
use Rattle.rv_plan.specs.declared.faults.Fault.TheVariants.{Limit}
use Rattle.rv_plan.specs.declared.faults.Limited.TheVariants as limited
use Rattle.rv_plan.specs.declared.told.Told.{Told}
use Rattle.rv_plan.proofs.Lemmas.{performs-read, read-stops}
use Rattle.rv_commands.specs.CommandLine.{SplitWords, split}
use Rattle.rv_commands.specs.Headline.{Cut}
use Rattle.rv_commands.specs.Judging.{TellsOutcome}
use Rattle.rv_commands.specs.Lines.{split_line}
use Rattle.rv_commands.specs.Outcome.{cut, plan_of, told_verdict}
use Rattle.rv_commands.specs.Parts.{bytes_due, part_name, parts_due}
use Rattle.rv_commands.specs.Splitting.{AreWritten, CutsFile, WritesParts, cut_bytes, file_bytes}
use Rattle.rv_commands.proofs.Checking.{answered}

-- ---- the files that are due

zip-maps : {A B C : Type 0} (f : A → B) (g : A → C) (xs : List A) → zip (map f xs) (map g xs) ≡ map (λ x. (f x, g x)) xs
zip-maps f g [] = refl
zip-maps f g (x ∷ xs) = ap (λ r. (f x, g x) ∷ r) (zip-maps f g xs)

zip-more : {A B : Type 0} (xs : List A) (ys : List B) (x : A) (y : B) → length xs ≡ length ys → zip (xs ++ x ∷ []) (ys ++ y ∷ []) ≡ zip xs ys ++ (x, y) ∷ []
zip-more [] [] x y e = refl
zip-more [] (b ∷ ys) x y e = absurd (omega (arith, e))
zip-more (a ∷ xs) [] x y e = absurd (omega (arith, e))
zip-more (a ∷ xs) (b ∷ ys) x y e = ap (λ r. (a, b) ∷ r) (zip-more xs ys x y (omega (arith, e)))

-- one more element, which is the next of a list
pub listed-more : {X A : Type 0} (f : X → A) (g : ℕ → A) (xs : List X) (x : X) (n : ℕ) → map f xs ≡ map g (range_with_len 0 n) → f x ≡ g n → map f (xs ++ x ∷ []) ≡ map g (range_with_len 0 (n + 1))
listed-more f g xs x n before is =
    map-append f xs (x ∷ []) ∙ ap (λ ys. ys ++ f x ∷ []) before ∙ ap (λ y. map g (range_with_len 0 n) ++ y ∷ []) is
    ∙ sym (map-append g (range_with_len 0 n) (n ∷ [])) ∙ ap (map g) (sym (range-snoc 0 n n (let e : 0 + n ≡ n = omega arith in e)))

pub taken-more : {X Y A : Type 0} (f : X → A) (g : Y → A) (xs : List X) (ys : List Y) (x : X) (i : ℕ) (d : Y) → i < length ys → map f xs ≡ map g (take i ys) → f x ≡ g (get_or ys i d) → map f (xs ++ x ∷ []) ≡ map g (take (i + 1) ys)
taken-more f g xs ys x i d lt before is =
    map-append f xs (x ∷ []) ∙ ap (λ zs. zs ++ f x ∷ []) before ∙ ap (λ y. map g (take i ys) ++ y ∷ []) is
    ∙ sym (map-append g (take i ys) (get_or ys i d ∷ [])) ∙ ap (map g) (sym (take_more ys i d lt))

-- one more of two lists side by side
pub zipped-more : {X Y Z A B : Type 0} (f : X → A × B) (g : Y → A) (h : Z → B) (xs : List X) (ys : List Y) (zs : List Z) (x : X) (i : ℕ) (d : Y) (e : Z) → i < length ys → length ys ≡ length zs → map f xs ≡ zip (map g (take i ys)) (map h (take i zs))
    → (f x).0 ≡ g (get_or ys i d) → (f x).1 ≡ h (get_or zs i e) → map f (xs ++ x ∷ []) ≡ zip (map g (take (i + 1) ys)) (map h (take (i + 1) zs))
zipped-more f g h xs ys zs x i d e lt same before first second =
    let lt' : i < length zs = omega (arith, lt, same) in
    let long : length (map g (take i ys)) ≡ length (map h (take i zs)) =
    length-map (take i ys) g ∙ length-take-le i ys (omega (arith, lt)) ∙ sym (length-map (take i zs) h ∙ length-take-le i zs (omega (arith, lt'))) in
    map-append f xs (x ∷ []) ∙ ap (λ r. r ++ f x ∷ []) before ∙ ap (λ a. zip (map g (take i ys)) (map h (take i zs)) ++ (a, (f x).1) ∷ []) first ∙ ap (λ b. zip (map g (take i ys)) (map h (take i zs)) ++ (g (get_or ys i d), b) ∷ []) second
    ∙ sym (zip-more (map g (take i ys)) (map h (take i zs)) (g (get_or ys i d)) (h (get_or zs i e)) long)
    ∙ ap (λ r. zip r (map h (take i zs) ++ h (get_or zs i e) ∷ [])) (sym (map-append g (take i ys) (get_or ys i d ∷ [])) ∙ ap (map g) (sym (take_more ys i d lt)))
    ∙ ap (λ r. zip (map g (take (i + 1) ys)) r) (sym (map-append h (take i zs) (get_or zs i e ∷ [])) ∙ ap (map h) (sym (take_more zs i e lt')))

pub cut-bytes-are : (c : PartCut) (q : Parts) (parts p : ℕ) → c.head ≡ head_bytes (head_of_part q.header.shards parts p) → c.front.now ≡ front_of q → c.body.now ≡ body_of q parts p → cut_bytes c ≡ part_bytes q parts p
cut-bytes-are c q parts p head front body =
    ap (λ xs. xs ++ c.front.now ++ c.body.now) head ∙ ap (λ xs. head_bytes (head_of_part q.header.shards parts p) ++ xs ++ c.body.now) front ∙ ap (λ xs. head_bytes (head_of_part q.header.shards parts p) ++ front_of q ++ xs) body

-- the number of all bytes
pub bytes-are : (files : List DueFile) → flat_map file_bytes files ≡ flat_map (λ (d : Due). d.1) (map due_of files)
bytes-are [] = refl
bytes-are (f ∷ files) = ap (λ xs. file_bytes f ++ xs) (bytes-are files)

pub due-is : (q : Parts) (parts : ℕ) (name : List ℕ) (names cuts : List (List ℕ)) (due : List Due) → names ≡ map (part_name name) (range_with_len 0 parts) → cuts ≡ map (part_bytes q parts) (range_with_len 0 parts) → due ≡ zip names cuts
    → due ≡ parts_due q parts name
due-is q parts name names cuts due named bytes is =
    is ∙ ap (λ ns. zip ns cuts) named ∙ ap (λ cs. zip (map (part_name name) (range_with_len 0 parts)) cs) bytes ∙ zip-maps (part_name name) (part_bytes q parts) (range_with_len 0 parts)

-- ---- the outcome

abbrev pub split_outcome : SplitWords → Parts → Outcome
split_outcome w q =
    let due = parts_due q w.parts w.name in record { status = 0; text = split_line w.parts (bytes_due due); writes = due }

cut-is : (w : SplitWords) (file : List ℕ) (q : Parts) → parse file ≡ Ok q → w.parts ≤ q.header.shards → cut w (parse file) ≡ split_outcome w q
cut-is w file q parsed few =
    ap (cut w) parsed ∙ ap (λ b. if b then refuses (Limit limited.Parts) else split_outcome w q) (le-ltb q.header.shards w.parts few)

still : {s : ShelfView} → IsUnchanged s s
still = record { files = refl; reads = λ _. refl; writes = λ _. refl }

pub cut-refused : (w : SplitWords) (file : List ℕ) (s : ShelfView) (f : Refusal) (r : Result Told Fault) → parse file ≡ Err f → TellsOutcome (told_verdict (Refuse f)) r → CutsFile w file s s r
cut-refused w file s f r broken says = record {
  performs = answered (told_verdict (Refuse f)) (cut w (parse file)) s r (sym (ap (cut w) broken)) refl says;
  cuts = none r says;
}
  where
    none : (r : Result Told Fault) → TellsOutcome (told_verdict (Refuse f)) r → IfOk r (λ told. told.status ≡ 0 → AreWritten w file s s)
    none (Err e) says = tt
    none (Ok told) says = λ zero. absurd (eqb-false 1 0 refl (sym says.0 ∙ zero))

pub cut-limited : (w : SplitWords) (file : List ℕ) (s : ShelfView) (q : Parts) → parse file ≡ Ok q → q.header.shards < w.parts → CutsFile w file s s (Err (Limit limited.Parts))
cut-limited w file s q parsed many = record {
  performs = (
    record { files = refl; writes = λ _. refl },
    sym (ap (cut w) parsed ∙ ap (λ b. if b then refuses (Limit limited.Parts) else split_outcome w q) (lt-ltb q.header.shards w.parts many)),
  );
  cuts = tt;
}

pub cut-written : (w : SplitWords) (file : List ℕ) (q : Parts) (due : List Due) (s s' : ShelfView) (r : Result Told Fault) → PartsAreFile → 1 ≤ w.parts → parse file ≡ Ok q → Spells q file → w.parts ≤ q.header.shards
    → due ≡ parts_due q w.parts w.name → WritesParts w.parts due s s' r → CutsFile w file s s' r
cut-written w file q due s s' (Ok told) law some parsed spells few is wrote = record {
  performs = (split_outcome w q, sym (cut-is w file q parsed few), wrote.0, wrote.1 ∙ ap (λ d. split_line w.parts (bytes_due d)) is, subst (λ d. IsWritten d s s') is wrote.2);
  cuts = λ _. record { parts = q; spells = spells; few = few; written = subst (λ d. IsWritten d s s') is wrote.2; whole_is = law q file w.parts spells some };
}
cut-written w file q due s s' (Err f) law some parsed spells few is (inl failed) = record {
  performs = subst (λ e. PerformsBehind (answer (cut w (parse file))) s s' (Err e)) (sym failed.0) (split_outcome w q, sym (cut-is w file q parsed few), subst (λ d. WriteFails d s s') is failed.1);
  cuts = tt;
}
cut-written w file q due s s' (Err f) law some parsed spells few is (inr memory) = record {
  performs = subst (λ e. PerformsBehind (answer (cut w (parse file))) s s' (Err e)) (sym memory.0) memory.1;
  cuts = tt;
}

-- ---- the command

pub split-unread : (w : SplitWords) (s s' : ShelfView) (f : Fault) → ReadsWithin w.file RECORD_LIMIT limited.Record s s' (Err f) → Stops (plan_of (split w)) s s' f
split-unread w s s' f read = read-stops w.file RECORD_LIMIT limited.Record s s' f (λ bytes. answer (cut w (parse bytes))) read

pub split-performs : (w : SplitWords) (s s' s'' : ShelfView) (file bytes : List ℕ) (r : Result Told Fault) → ReadsWithin w.file RECORD_LIMIT limited.Record s s' (Ok file) → bytes ≡ file → CutsFile w bytes s' s'' r → Performs (plan_of (split w)) s s'' r
split-performs w s s' s'' file bytes r read same h =
    performs-read w.file RECORD_LIMIT limited.Record s s' s'' file (λ contents. answer (cut w (parse contents))) r read (subst (λ b. PerformsBehind (answer (cut w (parse b))) s' s'' r) same h.performs)

-- the file that was read, and what was written of it
are-cut : (w : SplitWords) (s s' s'' : ShelfView) (file : List ℕ) → ReadsWithin w.file RECORD_LIMIT limited.Record s s' (Ok file) → AreWritten w file s' s'' → Cut s s'' w
are-cut w s s' s'' file read h = record {
  file = file;
  parts = h.parts;
  file_is = read.2;
  spells = h.spells;
  few = h.few;
  written = record {
    files = h.written.files ∙ ap (option_map (λ told. with_due told (parts_due h.parts w.parts w.name))) read.0.files;
    writes = λ name. h.written.writes name ∙ read.0.writes name;
  };
  whole_is = h.whole_is;
}

pub split-cut : (w : SplitWords) (s s' s'' : ShelfView) (file bytes : List ℕ) (r : Result Told Fault) → ReadsWithin w.file RECORD_LIMIT limited.Record s s' (Ok file) → bytes ≡ file → CutsFile w bytes s' s'' r
    → IfOk r (λ told. told.status ≡ 0 → Cut s s'' w)
split-cut w s s' s'' file bytes (Err f) read same h = tt
split-cut w s s' s'' file bytes (Ok told) read same h = λ zero. are-cut w s s' s'' file read (subst (λ b. AreWritten w b s' s'') same (h.cuts zero))
