-- What make does, as its plan says: the pieces of a run make its record.
use Rattle.std.proofs.Common.{◌≡◌, ℕ, ◌+◌, ◌<◌, ◌≤◌, List, [], ◌∷◌, ◌++◌, length, Some, None, Ok, Err, Result, refl, sym, ap, subst, ◌∙◌, arith, append-nil, option_map, map, if◌then◌else◌}
use Rattle.std.specs.List.{flat_map, range_with_len}
use Rattle.std.specs.Int.{div_ceil}
use Rattle.std.proofs.lemmas.Bool.{le-ltb, lt-ltb}
use Rattle.std.proofs.lemmas.Grind.{flat_map-append}
use Rattle.rv_base.specs.declared.limits.TheConstants.{SHARDS_LIMIT}
use Rattle.rv_base.specs.declared.record.End.{End}
use Rattle.rv_spec.specs.Elf.{Image, image, first_fault}
use Rattle.rv_spec.specs.Run.{run as state_of, EndsIn}
use Rattle.rv_spec.specs.Digest.{sha_lanes}
use Rattle.rv_spec.specs.Record.{header, header_bytes, record_file, table_bytes}
use Rattle.rv_spec.specs.Trace.{table}
use Rattle.rv_host.specs.Views.{ShelfView}
use Rattle.rv_book.specs.Journal.{BookState, IsWhole}
use Rattle.rv_book.specs.declared.task.Piece.{Piece}
use Rattle.rv_replay.specs.Piece.{shard_piece}
use Rattle.rv_book.proofs.Lemmas.{range-snoc}
use Rattle.rv_point.specs.PointsState.{PointsState, IsSurvey}
use Rattle.rv_point.specs.Start.{RecordIsPieces}
use Rattle.rv_pipe.specs.Whole.{IsPiped}
use Rattle.rv_pipe.specs.declared.piped.Piped.{Piped}
use Rattle.rv_plan.specs.Plan.{Outcome, refuses, with_due}
use Rattle.rv_plan.specs.Endings.{Leaves}
use Rattle.rv_plan.specs.FileCalls.{Loads, Performs, PerformsBehind, Writes}
use Rattle.rv_plan.specs.declared.faults.Fault.{Fault}
use Rattle.rv_plan.specs.declared.faults.Fault.TheVariants.{Words, Elf, Budget, Read, Write, Memory, Limit, Version, Part, Step, Assembly}
use Rattle.rv_plan.specs.declared.faults.Limited.TheVariants as limited
use Rattle.rv_plan.specs.declared.loading.Loaded.{Loaded}
use Rattle.rv_plan.specs.declared.told.Told.{Told}
use Rattle.rv_plan.proofs.Lemmas.{performs-behind, performs-done, performs-loaded, performs-torn}
use Rattle.rv_commands.specs.CommandLine.{MakeWords}
use Rattle.rv_commands.specs.Headline.{Made}
use Rattle.rv_commands.specs.Lines.{made_line}
use Rattle.rv_commands.specs.Making.{HasPieces, IsEnded, IsNoSurvey, IsRecorded, IsTaskDue, piece_due, recorded, shards_due}
use Rattle.rv_trial.specs.Trials.{ends_within}
use Rattle.rv_commands.specs.Outcome.{made, make_plan, making_plan}
use Rattle.rv_commands.specs.declared.recording.Ended.{Ended}
use Rattle.rv_trial.proofs.Lemmas.{found-within, none-within}

-- ---- lists

single : {X : Type 0} (f : X → List ℕ) (x : X) → flat_map f (x ∷ []) ≡ f x
single f x = append-nil (f x)

pub shards-more : {X : Type 0} (f : X → List ℕ) (xs : List X) (x : X) (bytes : ℕ → List ℕ) (n : ℕ) → flat_map f xs ≡ flat_map bytes (range_with_len 0 n) → f x ≡ bytes n
    → flat_map f (xs ++ x ∷ []) ≡ flat_map bytes (range_with_len 0 (n + 1))
shards-more f xs x bytes n before is =
    flat_map-append f xs (x ∷ []) ∙ ap (λ ys. flat_map f xs ++ ys) (single f x ∙ is ∙ sym (single bytes n)) ∙ ap (λ ys. ys ++ flat_map bytes (n ∷ [])) before
    ∙ sym (flat_map-append bytes (range_with_len 0 n) (n ∷ [])) ∙ ap (flat_map bytes) (sym (range-snoc 0 n n (let e : 0 + n ≡ n = omega arith in e)))

pub parts-last : {X : Type 0} (f : X → List ℕ) (xs : List X) (x : X) (before : List ℕ) → flat_map f xs ≡ before → flat_map f (xs ++ x ∷ []) ≡ before ++ f x
parts-last f xs x before is = flat_map-append f xs (x ∷ []) ∙ ap (λ ys. flat_map f xs ++ ys) (single f x) ∙ ap (λ ys. ys ++ f x) is

-- ---- the record

-- the outcome of a record of these bytes
abbrev pub made_outcome : MakeWords → ℕ → End → List ℕ → Outcome
made_outcome w steps e bytes = record { status = 0; text = made_line steps (div_ceil steps w.shard) e (length bytes); writes = (w.target, bytes) ∷ [] }

-- what is put together is the record
pub record-made : (w : MakeWords) (elf input : List ℕ) (e : Ended) (front entries shards whole : List ℕ) → RecordIsPieces → IsEnded w elf input e → (1 ≤ w.shard) × (w.shard ≤ 65536)
    → front ≡ header_bytes (header w.version elf input w.shard e.steps e.end) → entries ≡ table_bytes e.table.now → shards ≡ shards_due w elf input e.steps
    → whole ≡ front ++ e.output.now ++ shards ++ entries → whole ≡ recorded w elf input e
record-made w elf input e front entries shards whole law h size front-is entries_is shards_are whole_is =
    let head : List ℕ = header_bytes (header w.version elf input w.shard e.steps e.end) in
    whole_is ∙ ap (λ x. x ++ e.output.now ++ shards ++ entries) front-is ∙ ap (λ x. head ++ x ++ shards ++ entries) h.output
    ∙ ap (λ x. head ++ (state_of (image w.version elf) input e.steps).output ++ x ++ entries) shards_are
    ∙ ap (λ x. head ++ (state_of (image w.version elf) input e.steps).output ++ shards_due w elf input e.steps ++ x) (entries_is ∙ ap table_bytes h.table)
    ∙ sym (law sha_lanes w.version elf input w.shard e.steps e.end h.ends size)

made-is : (w : MakeWords) (elf input : List ℕ) (e : Ended) (bytes : List ℕ) → IsEnded w elf input e → bytes ≡ recorded w elf input e → made_outcome w e.steps e.end bytes ≡ made w elf input (ends_within (image w.version elf) input w.budget)
made-is w elf input e bytes h is =
    ap (made_outcome w e.steps e.end) is
    ∙ sym (ap (λ b. if b then refuses (Limit limited.Shards) else made_outcome w e.steps e.end (recorded w elf input e)) (le-ltb SHARDS_LIMIT (div_ceil e.steps w.shard) h.few))
    ∙ sym (ap (made w elf input) (found-within (image w.version elf) input e.steps w.budget e.end h.ends h.within))

-- the run of a survey ended
pub surveyed : (w : MakeWords) (elf input : List ℕ) (p : PointsState) (e : Ended) → IsSurvey (image w.version elf) input w.shard w.budget p → e.steps ≡ p.steps → e.shards ≡ div_ceil p.steps p.size → e.end ≡ p.end
    → e.consumed ≡ (state_of p.image p.input p.steps).position → e.output.now ≡ (state_of p.image p.input p.steps).output → e.table.now ≡ table p.image p.input p.steps → IsEnded w elf input e
surveyed w elf input p e h steps shards end consumed output entries =
    let i : Image = image w.version elf in
    let same : state_of p.image p.input p.steps ≡ state_of i input e.steps = ap (λ k. state_of k p.input p.steps) h.image_is ∙ ap (λ x. state_of i x p.steps) h.input_is ∙ ap (state_of i input) (sym steps) in
    record {
      ends = subst (λ n. EndsIn i input n e.end) (sym steps) (subst (EndsIn i input p.steps) (sym end) h.ends);
      within = omega (arith, steps, h.within);
      shards = shards ∙ ap (div_ceil p.steps) h.size_is ∙ ap (λ n. div_ceil n w.shard) (sym steps);
      few = subst (λ n. div_ceil n w.shard ≤ SHARDS_LIMIT) (sym steps) h.few;
      consumed = consumed ∙ ap (λ s. s.position) same;
      output = output ∙ ap (λ s. s.output) same;
      table = entries ∙ ap (λ k. table k p.input p.steps) h.image_is ∙ ap (λ x. table i x p.steps) h.input_is ∙ ap (table i input) (sym steps);
    }

pub record-written : (w : MakeWords) (elf input : List ℕ) (e : Ended) (bytes : List ℕ) (s s' : ShelfView) (told : Told) → IsEnded w elf input e → bytes ≡ recorded w elf input e → told.status ≡ 0 → told.text ≡ made_line e.steps e.shards e.end (length bytes)
    → Writes ((w.target, bytes) ∷ []) s s' (Ok tt) → PerformsBehind (make_plan w elf input) s s' (Ok told)
record-written w elf input e bytes s s' told h is status text wrote =
    performs-done (make_plan w elf input) s s s' told (made_outcome w e.steps e.end bytes) (record { files = refl; reads = λ _. refl; writes = λ _. refl }) (made-is w elf input e bytes h is) status
    (text ∙ ap (λ n. made_line e.steps n e.end (length bytes)) h.shards) wrote

pub record-torn : (w : MakeWords) (elf input : List ℕ) (e : Ended) (bytes : List ℕ) (s s' : ShelfView) (f : Fault) → IsEnded w elf input e → bytes ≡ recorded w elf input e → Writes ((w.target, bytes) ∷ []) s s' (Err f) → PerformsBehind (make_plan w elf input) s s' (Err f)
record-torn w elf input e bytes s s' f h is wrote =
    performs-behind (make_plan w elf input) s s' (Err f) (performs-torn (make_plan w elf input) s s s' (made_outcome w e.steps e.end bytes) f (record { files = refl; reads = λ _. refl; writes = λ _. refl }) (made-is w elf input e bytes h is) wrote)

-- ---- no record

pub unsurveyed : (w : MakeWords) (elf input : List ℕ) (s s' : ShelfView) (f : Fault) → Leaves s s' → IsNoSurvey (image w.version elf) input w.shard w.budget f → PerformsBehind (make_plan w elf input) s s' (Err f)
unsurveyed w elf input s s' Words h k = absurd k
unsurveyed w elf input s s' (Elf e) h k = absurd k
unsurveyed w elf input s s' (Version reason) h k = absurd k
unsurveyed w elf input s s' (Part number fault) h k = absurd k
unsurveyed w elf input s s' (Step steps) h k = absurd k
unsurveyed w elf input s s' (Assembly at kind) h k = absurd k
unsurveyed w elf input s s' (Budget n) h k = (h, ap (λ m. refuses (Budget m)) k.0 ∙ sym (ap (made w elf input) (none-within (image w.version elf) input w.budget k.1)))
unsurveyed w elf input s s' Read h k = absurd k
unsurveyed w elf input s s' Write h k = absurd k
unsurveyed w elf input s s' Memory h k = h
unsurveyed w elf input s s' (Limit what) h k =
    let needs = k.1.1 in (
      h,
      ap (λ x. refuses (Limit x)) k.0
          ∙ sym (ap (λ b. if b then refuses (Limit limited.Shards) else made_outcome w needs.steps needs.end (record_file sha_lanes w.version elf input w.shard needs.steps needs.end)) (lt-ltb SHARDS_LIMIT (div_ceil needs.steps w.shard) (subst (λ n. SHARDS_LIMIT < n) needs.count needs.more)))
          ∙ sym (ap (made w elf input) (found-within (image w.version elf) input needs.steps w.budget needs.end needs.ends needs.within)),
    )

-- ---- the command

pub make-performs : (w : MakeWords) (s s' s'' : ShelfView) (l : Loaded) (r : Result Told Fault) → Loads w.elf w.input s s' (Ok l) → first_fault l.elf ≡ None → PerformsBehind (make_plan w l.elf l.input) s' s'' r → Performs (making_plan w) s s'' r
make-performs w s s' s'' l r h faultless performs = performs-loaded w.elf w.input s s' s'' l (make_plan w) r h faultless performs

pub make-made : (w : MakeWords) (s s' s'' : ShelfView) (l : Loaded) → Loads w.elf w.input s s' (Ok l) → IsRecorded w l.elf l.input s' s'' → Made s s'' w
make-made w s s' s'' l h r = record {
  elf = l.elf;
  input = l.input;
  steps = r.steps;
  end = r.end;
  elf_is = h.3;
  input_is = h.4;
  has = r.has;
  written = record {
    files = r.written.files ∙ ap (option_map (λ told. with_due told ((w.target, record_file sha_lanes w.version l.elf l.input w.shard r.steps r.end) ∷ []))) h.0.files;
    writes = λ name. r.written.writes name ∙ h.0.writes name;
  };
  accepted = r.accepted;
  short = r.short;
}

-- a whole book of a task that is due has the pieces of the run
pub has-pieces : (w : MakeWords) (elf input : List ℕ) (p : PointsState) (most : ℕ) (piece : ℕ → Piece) (b : BookState) (n : ℕ) → IsTaskDue w elf input p most piece → n ≡ div_ceil p.steps p.size → IsWhole piece n b → HasPieces w elf input p b
has-pieces w elf input p most piece b n due count whole = record {
  faultless = due.faultless;
  survey = due.survey;
  pieces = λ i lt. whole.each i (subst (λ m. i < m) (sym (count ∙ ap (div_ceil p.steps) due.survey.size_is)) lt) ∙ ap Some (due.pieces i);
}

pub within-task : (w : MakeWords) (elf input : List ℕ) (p : PointsState) (most : ℕ) (piece : ℕ → Piece) (n : ℕ) → IsTaskDue w elf input p most piece → n ≡ div_ceil p.steps p.size → n ≤ most
within-task w elf input p most piece n due count = subst (λ m. m ≤ most) (sym (count ∙ ap (div_ceil p.steps) due.survey.size_is)) due.bound

-- the task of the shards of a run is due
pub task-due : (w : MakeWords) (l : Loaded) (image_of : Image) (input : List ℕ) (p q : PointsState) → first_fault l.elf ≡ None → image_of ≡ image w.version l.elf → input ≡ l.input → IsSurvey image_of input w.shard w.budget p → q ≡ p
    → IsTaskDue w l.elf l.input p (div_ceil q.steps q.size) (λ i. shard_piece sha_lanes q.image q.input q.size i)
task-due w l i input p q faultless image_is input_is h same = record {
  faultless = faultless;
  survey = subst (λ x. IsSurvey (image w.version l.elf) x w.shard w.budget p) input_is (subst (λ k. IsSurvey k input w.shard w.budget p) image_is h);
  bound = omega (arith, ap (λ x. div_ceil x.steps x.size) same, ap (div_ceil p.steps) h.size_is);
  pieces = λ j. ap (λ x. shard_piece sha_lanes x.image x.input x.size j) same ∙ ap (λ k. shard_piece sha_lanes k p.input p.size j) (h.image_is ∙ image_is) ∙ ap (λ x. shard_piece sha_lanes (image w.version l.elf) x p.size j) (h.input_is ∙ input_is)
      ∙ ap (λ n. shard_piece sha_lanes (image w.version l.elf) l.input n j) h.size_is;
}

-- the pieces of a pipe have the bytes of the shards of its run
mapped : {X Y : Type 0} (f : Y → List ℕ) (g : X → Y) (xs : List X) → flat_map f (map g xs) ≡ flat_map (λ x. f (g x)) xs
mapped f g [] = refl
mapped f g (x ∷ xs) = ap (λ ys. f (g x) ++ ys) (mapped f g xs)

pub pieces-due : (w : MakeWords) (elf input : List ℕ) (p : Piped) → IsPiped sha_lanes (image w.version elf) input w.shard w.budget p → flat_map (λ (q : Piece). q.bytes) p.pieces ≡ shards_due w elf input p.whole.steps
pieces-due w elf input p h =
    ap (flat_map (λ (q : Piece). q.bytes)) h.pieces ∙ mapped (λ (q : Piece). q.bytes) (piece_due w elf input) (range_with_len 0 p.whole.shards)
    ∙ ap (λ n. flat_map (λ i. (piece_due w elf input i).bytes) (range_with_len 0 n)) h.whole.shards

pub no-survey : (w : MakeWords) (l : Loaded) (image_of : Image) (input : List ℕ) (s : ShelfView) (f : Fault) → image_of ≡ image w.version l.elf → input ≡ l.input → IsNoSurvey image_of input w.shard w.budget f → PerformsBehind (make_plan w l.elf l.input) s s (Err f)
no-survey w l i input s f image_is input_is h =
    unsurveyed w l.elf l.input s s f (record { files = refl; writes = λ _. refl })
    (subst (λ x. IsNoSurvey (image w.version l.elf) x w.shard w.budget f) input_is (subst (λ k. IsNoSurvey k input w.shard w.budget f) image_is h))
