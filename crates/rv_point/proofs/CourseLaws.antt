-- The course of a run, step by step.
use Rattle.std.proofs.Common.{◌≡◌, ℕ, zero, suc, ◌+◌, ◌-◌, ◌<◌, ◌≤◌, List, [], ◌∷◌, ◌++◌, map, take, true, false, Option, Some, None, is_some, refl, sym, ◌∙◌, ap, subst, inl, inr, arith, append-nil, append_assoc}
use Rattle.std.specs.Int.{w32, to_le_bytes}
use Rattle.std.specs.List.{range_with_len, flat_map}
use Rattle.std.proofs.lemmas.List.{map-append}
use Rattle.std.proofs.lemmas.List.Concat.{flat_map-append}
use Rattle.std.proofs.lemmas.Bool.{cases_lt}
use Rattle.rv_base.specs.declared.record.End.{End}
use Rattle.rv_base.specs.declared.record.TableEntry.{TableEntry}
use Rattle.rv_spec.specs.Elf.{Image}
use Rattle.rv_spec.specs.Run.{run, end_at, GoesOn, EndsIn}
use Rattle.rv_spec.specs.Cells.{time_of}
use Rattle.rv_spec.specs.Trace.{Row as Traced, history, row, rows}
use Rattle.rv_row.specs.declared.rows.Row.{Row}
use Rattle.rv_row.specs.RowReading.{row_view}
use Rattle.rv_isa.specs.declared.hart.Stepped.{Stepped}
use Rattle.rv_isa.specs.HartState.{StandsFor, IsTimed}
use Rattle.rv_isa.specs.Hart.{TakesStepFrom, TakesTimes}
use Rattle.rv_point.specs.declared.course.Course.{Course}
use Rattle.rv_point.specs.Start.{one_more, steps_from}
use Rattle.rv_point.specs.Course.{IsAt, IsSameRun, TakesRow, TakesRows, SkipsSteps, first_finds, all_first_finds}

-- `suc` is how runs count, and `+ 1` how code does
next-number : (k : ℕ) → suc k ≡ k + 1
next-number k = omega arith

-- ---- how many steps

module _ (i : Image) (input : List ℕ) where
  -- steps that don't end the run, and those behind them
  pub steps-more : (m k n : ℕ) → ((j : ℕ) → j < m → end_at i input (k + j) ≡ None) → steps_from i input k (m + n) ≡ m + steps_from i input (k + m) n
  unfolding steps_from
  steps-more zero k n go =
      let none : 0 + n ≡ n = omega arith in
      let same : k ≡ k + 0 = omega arith in
      ap (steps_from i input k) none ∙ ap (λ x. steps_from i input x n) same ∙ (let start : steps_from i input (k + 0) n ≡ 0 + steps_from i input (k + 0) n = omega arith in start)
  steps-more (suc m) k n go =
      let more : suc m + n ≡ suc (m + n) = omega arith in
      let first : end_at i input k ≡ None = (let same : k ≡ k + 0 = omega arith in ap (end_at i input) same ∙ go 0 (omega arith)) in
      let from : k + 1 + m ≡ k + suc m = omega arith in
      let rest : steps_from i input (k + 1) (m + n) ≡ m + steps_from i input (k + suc m) n =
      steps-more m (k + 1) n (λ j less. (let same : k + 1 + j ≡ k + suc j = omega arith in ap (end_at i input) same ∙ go (suc j) (omega arith))) ∙ ap (λ x. m + steps_from i input x n) from in
      ap (steps_from i input k) more ∙ ap (λ (o : Option End). one_more o (steps_from i input (k + 1) (m + n))) first ∙ (let count : steps_from i input (k + 1) (m + n) + 1 ≡ suc m + steps_from i input (k + suc m) n = omega arith in count)

  -- no step ends the run before some number
  pub steps-all : (k m : ℕ) → GoesOn i input (k + m) → steps_from i input k m ≡ m
  unfolding steps_from
  steps-all k m go =
      let same : m ≡ m + 0 = omega arith in
      ap (steps_from i input k) same ∙ steps-more m k 0 (λ j less. go (k + j) (omega arith)) ∙ (let none : m + 0 ≡ m = omega arith in none)

  -- the step after some that don't end the run ends it
  pub steps-ended : (k m n : ℕ) (e : End) → m < n → EndsIn i input (k + m + 1) e → steps_from i input k n ≡ m + 1
  unfolding steps_from
  steps-ended k m n e less ends =
      let rest : ℕ = n - m - 1 in
      let same : n ≡ m + suc rest = omega arith in
      let at : k + m ≡ k + m + 1 - 1 = omega arith in
      ap (steps_from i input k) same ∙ steps-more m k (suc rest) (λ j less. ends.before (k + j) (omega arith))
      ∙ ap (λ (o : Option End). m + one_more o (steps_from i input (k + m + 1) rest)) (ap (end_at i input) at ∙ ends.last)

  -- ---- one step more

  pub goes-more : (k : ℕ) → GoesOn i input k → end_at i input k ≡ None → GoesOn i input (k + 1)
  goes-more k go none j less = elim (cases_lt j k) [ inl before ↦ go j before | inr last ↦ (let same : j ≡ k = omega arith in ap (end_at i input) same ∙ none) ]

  pub ends-now : (k : ℕ) (e : End) → GoesOn i input k → end_at i input k ≡ Some e → EndsIn i input (k + 1) e
  ends-now k e go some = record {
    some = omega arith;
    before = λ j less. go j (omega arith);
    last = (let same : k + 1 - 1 ≡ k = omega arith in ap (end_at i input) same ∙ some);
  }

  rows-range : (k n : ℕ) → range_with_len k (n + 1) ≡ range_with_len k n ++ (k + n) ∷ []
  rows-range k zero = (let same : k ≡ k + 0 = omega arith in λ j. same j ∷ [])
  rows-range k (suc n) =
      let more : suc n + 1 ≡ suc (n + 1) = omega arith in
      let same : k + 1 + n ≡ k + suc n = omega arith in
      ap (range_with_len k) more ∙ ap (λ (l : List ℕ). k ∷ l) (rows-range (k + 1) n) ∙ ap (λ x. k ∷ range_with_len (k + 1) n ++ x ∷ []) same

  pub rows-more : (k n : ℕ) → rows i input k (n + 1) ≡ rows i input k n ++ row i input (k + n) ∷ []
  rows-more k n = ap (map (row i input)) (rows-range k n) ∙ map-append (row i input) (range_with_len k n) ((k + n) ∷ [])

  pub finds-more : (t k n : ℕ) → all_first_finds t (rows i input k (n + 1)) ≡ all_first_finds t (rows i input k n) ++ first_finds t (row i input (k + n)).accesses
  finds-more t k n =
      let f : Traced → List TableEntry = λ (r : Traced). first_finds t r.accesses in
      ap (flat_map f) (rows-more k n) ∙ flat_map-append f (rows i input k n) (row i input (k + n) ∷ [])
      ∙ ap (λ (es : List TableEntry). all_first_finds t (rows i input k n) ++ es) (append-nil (f (row i input (k + n))))

-- ---- a step of the course

module _ (old new : Course) (r : Row) (m : Stepped) (at : IsAt old) (going : old.ended ≡ None) (image : new.hart.cells.image ≡ old.hart.cells.image) (input_same : new.hart.input ≡ old.hart.input)
    (takes : TakesStepFrom old.hart.input (run old.hart.cells.image old.hart.input old.steps) m new.hart)
    (times : TakesTimes old.hart.input (run old.hart.cells.image old.hart.input old.steps) (history old.hart.cells.image old.hart.input old.steps) old.steps r new.hart)
    (output : new.output.items ≡ old.output.items ++ take m.put (to_le_bytes w32 m.word)) (steps : new.steps ≡ old.steps + 1) (ended : new.ended ≡ m.end) where
  abbrev i : Image
  i = old.hart.cells.image

  abbrev input : List ℕ
  input = old.hart.input

  abbrev k : ℕ
  k = old.steps

  abbrev n : ℕ
  n = new.steps

  here : n ≡ suc k
  here = omega arith

  after-step : (P : Image → List ℕ → ℕ → Type 0) → P i input (suc k) → P new.hart.cells.image new.hart.input n
  after-step P h = subst (λ (a : Image). P a new.hart.input n) (sym image) (subst (λ (b : List ℕ). P i b n) (sym input_same) (subst (P i input) (sym here) h))

  going-on : new.ended ≡ None → GoesOn i input n
  going-on none = subst (GoesOn i input) (sym steps) (goes-more i input k (at.going going) (sym takes.ends ∙ sym ended ∙ none))

  done-now : (e : End) → new.ended ≡ Some e → EndsIn i input n e
  done-now e some = subst (λ (x : ℕ). EndsIn i input x e) (sym steps) (ends-now i input k e (at.going going) (sym takes.ends ∙ sym ended ∙ some))

  pub row-taken : TakesRow old new r
  unfolding run history
  row-taken = record {
    same = record { image = image; input = input_same };
    at = record {
      after = record {
        stands = after-step (λ (a : Image) (b : List ℕ) x. StandsFor new.hart (run a b x)) takes.stands;
        timed = after-step (λ (a : Image) (b : List ℕ) x. IsTimed new.hart (history a b x) x) (subst (λ x. IsTimed new.hart (history i input (suc k)) x) (sym (next-number k)) times.timed);
        put = output ∙ ap (λ (bytes : List ℕ). bytes ++ take m.put (to_le_bytes w32 m.word)) at.after.put ∙ takes.output ∙ after-step (λ (a : Image) (b : List ℕ) x. (run i input (suc k)).output ≡ (run a b x).output) refl;
      };
      going = λ none. (λ j less. (let same : end_at i input j ≡ end_at new.hart.cells.image new.hart.input j = (λ t. end_at (sym image t) (sym input_same t) j) in sym same ∙ going-on none j less));
      done = λ e some. subst (λ (a : Image). EndsIn a new.hart.input n e) (sym image) (subst (λ (b : List ℕ). EndsIn i b n e) (sym input_same) (done-now e some));
    };
    steps = steps;
    is = times.row;
  }

-- ---- some steps of the course

-- so many steps were taken since a start, and what the first uses of cells in them find is listed
pub record HasTaken (start now : Course) (n : ℕ) (before after : List TableEntry) : Type 0 where
  pub same : IsSameRun start now
  pub at : IsAt now
  pub steps : now.steps ≡ start.steps + n
  pub found : after ≡ before ++ all_first_finds (time_of start.steps 0) (rows start.hart.cells.image start.hart.input start.steps n)

pub taken-none : (start : Course) (before : List TableEntry) → IsAt start → HasTaken start start 0 before before
taken-none start before at = record { same = record { image = refl; input = refl }; at = at; steps = omega arith; found = sym (append-nil before) }

pub taken-more : (start old new : Course) (n : ℕ) (before after : List TableEntry) (r : Row) → HasTaken start old n before after → TakesRow old new r
    → HasTaken start new (n + 1) before (after ++ first_finds (time_of start.steps 0) r.accesses.items)
taken-more start old new n before after r h t =
    let i : Image = start.hart.cells.image in
    let input : List ℕ = start.hart.input in
    let k : ℕ = start.steps in
    let is : row_view r ≡ row i input (k + n) = t.is ∙ (λ j. row (h.same.image j) (h.same.input j) (h.steps j)) in
    let finds : List TableEntry = all_first_finds (time_of k 0) (rows i input k n) in
    record {
      same = record { image = t.same.image ∙ h.same.image; input = t.same.input ∙ h.same.input };
      at = t.at;
      steps = omega (arith, t.steps, h.steps);
      found = (λ j. h.found j ++ first_finds (time_of k 0) (is j).accesses) ∙ append_assoc before finds (first_finds (time_of k 0) (row i input (k + n)).accesses)
          ∙ ap (λ (es : List TableEntry). before ++ es) (sym (finds-more i input (time_of k 0) k n));
    }

-- as many steps as the definition counts
counted : (start now : Course) (n most : ℕ) (before after : List TableEntry) → HasTaken start now n before after → steps_from start.hart.cells.image start.hart.input start.steps most ≡ n
    → (now.ended ≡ None → n ≡ most) → TakesRows start now most before after
counted start now n most before after h count whole =
    let i : Image = start.hart.cells.image in
    let input : List ℕ = start.hart.input in
    let k : ℕ = start.steps in
    record {
      same = h.same;
      at = h.at;
      steps = h.steps ∙ ap (λ m. k + m) (sym count);
      found = h.found ∙ ap (λ m. before ++ all_first_finds (time_of k 0) (rows i input k m)) (sym count);
      whole = λ none. h.steps ∙ ap (λ m. k + m) (whole none);
    }

pub taken-all : (start now : Course) (n most : ℕ) (before after : List TableEntry) → HasTaken start now n before after → now.ended ≡ None → n ≡ most → TakesRows start now most before after
taken-all start now n most before after h none all =
    let i : Image = start.hart.cells.image in
    let input : List ℕ = start.hart.input in
    let go : GoesOn now.hart.cells.image now.hart.input now.steps = h.at.going none in
    let here : GoesOn i input (start.steps + n) = subst (GoesOn i input) h.steps (subst (λ (b : List ℕ). GoesOn i b now.steps) h.same.input (subst (λ (a : Image). GoesOn a now.hart.input now.steps) h.same.image go)) in
    counted start now n most before after h (ap (steps_from i input start.steps) (sym all) ∙ steps-all i input start.steps n here) (λ e. all)

pub taken-ended : (start now : Course) (n most : ℕ) (before after : List TableEntry) (e : End) → HasTaken start now (n + 1) before after → now.ended ≡ Some e → n < most → TakesRows start now most before after
taken-ended start now n most before after e h some less =
    let i : Image = start.hart.cells.image in
    let input : List ℕ = start.hart.input in
    let ends : EndsIn now.hart.cells.image now.hart.input now.steps e = h.at.done e some in
    let to : now.steps ≡ start.steps + n + 1 = omega (arith, h.steps) in
    let here : EndsIn i input (start.steps + n + 1) e = subst (λ x. EndsIn i input x e) to (subst (λ (b : List ℕ). EndsIn i b now.steps e) h.same.input (subst (λ (a : Image). EndsIn a now.hart.input now.steps e) h.same.image ends)) in
    counted start now (n + 1) most before after h (steps-ended i input start.steps n most e less here) (λ none. absurd cc)

-- ---- options

pub some-of : {A : Type 0} (o : Option A) → true ≡ is_some o → (e : A) × (o ≡ Some e)
some-of None h = absurd cc
some-of (Some e) h = (e, refl)

pub none-of : {A : Type 0} (o : Option A) → false ≡ is_some o → o ≡ None
none-of None h = refl
none-of (Some e) h = absurd cc

-- ---- steps that are skipped

abbrev pub HasSkipped : Course → Course → ℕ → Type 0
HasSkipped start now n = HasTaken start now n [] (all_first_finds (time_of start.steps 0) (rows start.hart.cells.image start.hart.input start.steps n))

pub skipped-more : (start old new : Course) (n : ℕ) (r : Row) → HasSkipped start old n → TakesRow old new r → HasSkipped start new (n + 1)
skipped-more start old new n r h t =
    let finds : List TableEntry = all_first_finds (time_of start.steps 0) (rows start.hart.cells.image start.hart.input start.steps n) in
    let more = taken-more start old new n [] finds r h t in
    record { same = more.same; at = more.at; steps = more.steps; found = refl }

pub skipped-some : (start now : Course) (n most : ℕ) → HasSkipped start now n → n ≤ most → (now.ended ≡ None → n ≡ most) → SkipsSteps start now most
skipped-some start now n most h less whole = record { same = h.same; at = h.at; within = omega (arith, h.steps); whole = λ none. omega (arith, h.steps, whole none) }
