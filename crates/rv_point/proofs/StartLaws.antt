-- The next shard of a run, and why there is none.
use Rattle.std.proofs.Common.{◌≡◌, ℕ, zero, suc, ◌+◌, ◌-◌, ◌*◌, ◌/◌, ◌%◌, ◌<◌, ◌≤◌, min, List, [], length, map, Option, Some, None, refl, sym, ◌∙◌, ap, subst, inl, inr, arith}
use Rattle.std.specs.Int.{div_ceil}
use Rattle.std.specs.List.Sorted.{IsPermutation, IsNonDecreasingBy}
use Rattle.std.proofs.lemmas.Bool.{cases_lt}
use Rattle.std.proofs.lemmas.Grind.{div_ceil_times}
use Rattle.std.proofs.Math.Nat.{mul-le-mul_left}
use Rattle.rv_base.specs.declared.limits.TheConstants.{SHARDS_LIMIT}
use Rattle.rv_base.specs.declared.record.End.{End}
use Rattle.rv_base.specs.declared.record.Place.{Place}
use Rattle.rv_base.specs.declared.record.TableEntry.{TableEntry}
use Rattle.rv_spec.specs.Elf.{Image}
use Rattle.rv_spec.specs.Run.{end_at, GoesOn, EndsIn}
use Rattle.rv_spec.specs.Trace.{rows}
use Rattle.rv_spec.specs.Record.{place_at}
use Rattle.rv_point.specs.declared.course.Course.{Course}
use Rattle.rv_point.specs.declared.start.ShardStart.{ShardStart}
use Rattle.rv_point.specs.Start.{one_more, steps_from, cell_at, cells_of}
use Rattle.rv_point.specs.Course.{IsAfter, IsSameRun, IsBegun, TakesRows, TakesShard, SkipsSteps, IsOverBudget, NeedsMore, IsNextStart}
use Rattle.rv_point.proofs.Collected.{collected-are}
use Rattle.rv_point.proofs.CourseLaws.{steps-ended}

-- ---- numbers

times-less : (a b s : ℕ) → a * s < b * s → a < b
times-less a b s h = elim (cases_lt a b) [
  | inl less ↦ less
  | inr more ↦ absurd (let le : s * b ≤ s * a = mul-le-mul_left s more in let x : a * s ≡ s * a = omega arith in let y : b * s ≡ s * b = omega arith in omega arith)
]

-- a number of whole shards and a part of one
pub ceiling-is : (n size g r : ℕ) → 0 < size → n ≡ g * size + r → 0 < r → r ≤ size → g + 1 ≡ div_ceil n size
ceiling-is n size g r some is rest most =
    let d : ℕ = div_ceil n size in
    let b = div_ceil_times n size some in
    let low : g < d = times-less g d size (omega (arith, b.0, is)) in
    let next : (g + 1 + 1) * size ≡ g * size + size + size = omega arith in
    let high : d < g + 1 + 1 = times-less d (g + 1 + 1) size (omega (arith, b.1, is, next)) in
    omega arith

-- more than a number of whole shards
pub ceiling-more : (n size g : ℕ) → 0 < size → g * size < n → g < div_ceil n size
ceiling-more n size g some less = let b = div_ceil_times n size some in times-less g (div_ceil n size) size (omega (arith, b.0))

quotient-bounds : (n size : ℕ) → 0 < size → (n / size * size ≤ n) × (n < (n / size + 1) * size)
quotient-bounds n size some =
    let q : ℕ = n / size in
    let r : n % size < size = omega arith in
    let parts : size * q + n % size ≡ n = omega arith in
    let turned : q * size ≡ size * q = omega arith in
    let next : (q + 1) * size ≡ q * size + size = omega arith in
    (omega arith, omega arith)

pub quotient-is : (n size g : ℕ) → 0 < size → g * size ≤ n → n < g * size + size → n / size ≡ g
quotient-is n size g some low high =
    let b = quotient-bounds n size some in
    let next : (g + 1) * size ≡ g * size + size = omega arith in
    let up : n / size < g + 1 = times-less (n / size) (g + 1) size (omega (arith, b.0, next)) in
    let down : g < n / size + 1 = times-less g (n / size + 1) size (omega (arith, b.1)) in
    omega arith

pub quotient-least : (n size g : ℕ) → 0 < size → g * size ≤ n → g ≤ n / size
quotient-least n size g some low =
    let b = quotient-bounds n size some in
    let down : g < n / size + 1 = times-less g (n / size + 1) size (omega (arith, b.1)) in
    omega arith

-- ---- runs

pub steps-within : (i : Image) (input : List ℕ) (n k : ℕ) → steps_from i input k n ≤ n
unfolding steps_from
steps-within i input zero k = omega arith
steps-within i input (suc n) k =
    elim (end_at i input k) as (λ o. one_more o (steps_from i input (k + 1) n) ≤ suc n) [
      | None ↦ omega (arith, steps-within i input n (k + 1))
      | Some e ↦ omega arith
    ]

-- a run that goes on for some steps ends behind them
pub ends-later : (i : Image) (input : List ℕ) (k n : ℕ) (e : End) → GoesOn i input k → EndsIn i input n e → k < n
ends-later i input k n e go ends = elim (cases_lt k n) [
  | inl less ↦ less
  | inr le ↦ absurd (let some : 0 < n = ends.some in let none : end_at i input (n - 1) ≡ None = go (n - 1) (omega arith) in let last = ends.last in let no : ⊥ = cc in no)
]

-- ---- what the course has before a step

module _ (c : Course) (after : IsAfter c.hart c.steps c.output.items) where
  pub place-is : (p : Place) → p ≡ record { pc = c.hart.pc; input = c.hart.position; output = length c.output.items } → p ≡ place_at c.hart.cells.image c.hart.input c.steps
  place-is p is = is ∙ (λ t. record { pc = after.stands.pc t; input = after.stands.position t; output = length (after.put t) })

-- facts of the run of a course as facts of the run that it began
module _ (old new : Course) (same : IsSameRun old new) where
  pub goes-here : (n : ℕ) → GoesOn new.hart.cells.image new.hart.input n → GoesOn old.hart.cells.image old.hart.input n
  goes-here n go = subst (λ (b : List ℕ). GoesOn old.hart.cells.image b n) same.input (subst (λ (a : Image). GoesOn a new.hart.input n) same.image go)

  pub ends-here : (n : ℕ) (e : End) → EndsIn new.hart.cells.image new.hart.input n e → EndsIn old.hart.cells.image old.hart.input n e
  ends-here n e ends = subst (λ (b : List ℕ). EndsIn old.hart.cells.image b n e) same.input (subst (λ (a : Image). EndsIn a new.hart.input n e) same.image ends)

-- the entries of a shard, sorted
pub shard-taken : (old new : Course) (most : ℕ) (found sorted : List TableEntry) → TakesRows old new most [] found → IsPermutation found sorted → IsNonDecreasingBy (λ (x : TableEntry). x.cell) sorted → TakesShard old new most sorted
shard-taken old new most found sorted t p up =
    let i : Image = old.hart.cells.image in
    let input : List ℕ = old.hart.input in
    record {
      same = t.same;
      at = t.at;
      steps = t.steps;
      whole = t.whole;
      found = collected-are i input old.steps (steps_from i input old.steps most) sorted (subst (λ (xs : List TableEntry). IsPermutation xs sorted) t.found p) up;
    }

-- ---- the next start

module _ (old new : Course) (size budget given : ℕ) (cells : List TableEntry) (begun : IsBegun old size budget given) (going : old.ended ≡ None) (few : given < SHARDS_LIMIT)
    (t : TakesShard old new (min size (budget - old.steps)) cells) where
  abbrev i : Image
  i = old.hart.cells.image

  abbrev input : List ℕ
  input = old.hart.input

  abbrev k : ℕ
  k = old.steps

  abbrev most : ℕ
  most = min size (budget - k)

  abbrev r : ℕ
  r = steps_from i input k most

  some : 0 < size
  some = omega (arith, begun.size_within.0)

  first : k ≡ given * size
  first = begun.whole going

  go : GoesOn i input k
  go = begun.at.going going

  pub rows-within : (new.steps ≡ k + r) × (r ≤ size)
  rows-within = (t.steps, omega (arith, steps-within i input most k))

  pub over-budget : new.ended ≡ None → new.steps - k < size → IsOverBudget i input size budget given
  over-budget none less =
      let all : new.steps ≡ k + most = t.whole none in
      let budget_is : new.steps ≡ budget = omega (arith, begun.within) in
      let goes : GoesOn i input new.steps = goes-here old new t.same new.steps (t.at.going none) in
      let quotient : budget / size ≡ given = quotient-is budget size given some (omega (arith, first, begun.within)) (omega (arith, first, begun.within)) in
      record { goes_on = subst (GoesOn i input) budget_is goes; due = omega arith }

  -- as many steps as in a whole shard, or up to the end
  rows-are : (new.ended ≡ None → size ≤ new.steps - k) → r ≡ steps_from i input k size
  rows-are enough = go-on new.ended refl
    where
      go-on : (o : Option End) → new.ended ≡ o → r ≡ steps_from i input k size
      go-on None none =
          let all : new.steps ≡ k + most = t.whole none in
          let large : size ≤ new.steps - k = enough none in
          let same : most ≡ size = omega arith in
          ap (steps_from i input k) same
      go-on (Some e) is =
          let ends : EndsIn i input new.steps e = ends-here old new t.same new.steps e (t.at.done e is) in
          let later : k < new.steps = ends-later i input k new.steps e go ends in
          let to : new.steps ≡ k + (r - 1) + 1 = omega (arith, t.steps) in
          let less : r - 1 < size = omega (arith, rows-within.1, t.steps) in
          (let one : r ≡ r - 1 + 1 = omega (arith, t.steps) in one) ∙ sym (steps-ended i input k (r - 1) size e less (subst (λ x. EndsIn i input x e) to ends))

  pub start-is : (s : ShardStart) (p : Place) → s ≡ record { index = given; rows = new.steps - k; step = k; place = p; cells = cells } → p ≡ place_at i input k → (new.ended ≡ None → size ≤ new.steps - k) → IsNextStart i input size budget given s
  start-is s p is at enough =
      let count : new.steps - k ≡ r = omega (arith, t.steps) in
      let full : r ≡ steps_from i input k size = rows-are enough in
      let listed : cells ≡ map (cell_at i input k) (cells_of (rows i input k (steps_from i input k size))) = t.found ∙ ap (λ n. map (cell_at i input k) (cells_of (rows i input k n))) full in
      let here : s ≡ record { index = given; rows = steps_from i input k size; step = k; place = place_at i input k; cells = map (cell_at i input k) (cells_of (rows i input k (steps_from i input k size))) } =
      is ∙ (λ x. record { index = given; rows = (count ∙ full) x; step = k; place = at x; cells = listed x }) in
      record {
        few = few;
        has = subst (GoesOn i input) first go;
        is = here ∙ (λ x. record {
          index = given;
          rows = steps_from i input (first x) size;
          step = first x;
          place = place_at i input (first x);
          cells = map (cell_at i input (first x)) (cells_of (rows i input (first x) (steps_from i input (first x) size)));
        });
        within = (let end : s.step + s.rows ≡ k + (new.steps - k) = (λ x. (is x).step + (is x).rows) in omega (arith, t.steps, steps-within i input most k, begun.within));
      }

  pub begun-next : (new.ended ≡ None → size ≤ new.steps - k) → IsBegun new size budget (given + 1)
  begun-next enough = record {
    at = t.at;
    size_within = begun.size_within;
    budget_within = begun.budget_within;
    within = omega (arith, t.steps, steps-within i input most k, begun.within);
    whole = λ none. (
        let all : new.steps ≡ k + most = t.whole none in
        let large : size ≤ new.steps - k = enough none in
        let next : (given + 1) * size ≡ given * size + size = omega arith in
        omega (arith, first)
        );
    all = λ e is. (
        let ends : EndsIn i input new.steps e = ends-here old new t.same new.steps e (t.at.done e is) in
        let later : k < new.steps = ends-later i input k new.steps e go ends in
        ceiling-is new.steps size given r some (omega (arith, t.steps, first)) (omega (arith, t.steps)) rows-within.1
        );
  }

-- ---- after the most shards

module _ (old new : Course) (size budget : ℕ) (begun : IsBegun old size budget SHARDS_LIMIT) (going : old.ended ≡ None) (t : SkipsSteps old new (budget - old.steps)) where
  abbrev first_left : ℕ
  first_left = old.steps

  pub none-left : new.ended ≡ None → IsOverBudget old.hart.cells.image old.hart.input size budget SHARDS_LIMIT
  none-left none =
      let some : 0 < size = omega (arith, begun.size_within.0) in
      let all : new.steps ≡ old.steps + (budget - old.steps) = t.whole none in
      let budget_is : new.steps ≡ budget = omega (arith, begun.within) in
      let least : SHARDS_LIMIT ≤ budget / size = quotient-least budget size SHARDS_LIMIT some (omega (arith, begun.whole going, begun.within)) in
      record {
        goes_on = subst (GoesOn old.hart.cells.image old.hart.input) budget_is (goes-here old new t.same new.steps (t.at.going none));
        due = omega arith;
      }

  pub more-needed : (e : End) (needed : ℕ) → new.ended ≡ Some e → needed ≡ div_ceil new.steps size → NeedsMore old.hart.cells.image old.hart.input size budget SHARDS_LIMIT needed
  more-needed e needed is count =
      let some : 0 < size = omega (arith, begun.size_within.0) in
      let ends : EndsIn old.hart.cells.image old.hart.input new.steps e = ends-here old new t.same new.steps e (t.at.done e is) in
      let later : old.steps < new.steps = ends-later old.hart.cells.image old.hart.input old.steps new.steps e (begun.at.going going) ends in
      record {
        full = refl;
        steps = new.steps;
        end = e;
        ends = ends;
        within = omega (arith, t.within, begun.within);
        count = count;
        more = (let less : SHARDS_LIMIT < div_ceil new.steps size = ceiling-more new.steps size SHARDS_LIMIT some (omega (arith, begun.whole going)) in omega arith);
      }
