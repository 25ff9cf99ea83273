-- What it means that a row breaks no rule.
use Rattle.std.proofs.Common.{◌≡◌, ℕ, ◌<◌, Bool, true, false, cond, ◌||◌, List, [], ◌∷◌, ◌++◌, length, drop, map, Option, Some, None, is_none, is_some, refl, ◌∙◌, ap, nat_lt, nat_eq, bytes_eq}
use Rattle.std.specs.List.{AllByRecursion, list_all, starts_with}
use Rattle.std.proofs.lemmas.Bool.{eqb-true, ltb-true}
use Rattle.std.proofs.lemmas.Slice.Eq.{bytes_eq-Decides, starts_is}
use Rattle.std.proofs.lemmas.Bool.Decides.{Decides-eqb}
use Rattle.rv_base.specs.declared.record.Access.{Access}
use Rattle.rv_base.specs.declared.record.End.{End}
use Rattle.rv_base.specs.declared.record.Place.{Place}
use Rattle.rv_base.specs.declared.record.Touch.{Touch}
use Rattle.rv_spec.specs.Cells.{time_of}
use Rattle.rv_spec.specs.Trace.{Row}
use Rattle.rv_rules.specs.Checks.{Check, first_broken}
use Rattle.rv_rules.specs.Expected.{Expected}
use Rattle.rv_rules.specs.RowRules.{due, row_rule, row_checks, ends_as}
use Rattle.rv_rules.proofs.Lemmas.{left-true, right-true}

-- an access without its old value and the time before
abbrev pub touch_in : Access → Touch
touch_in a = record { slot = a.slot; cell = a.cell; new = a.new }

-- what the rules 11 to 19 say of a row
pub record RowFollows (version : ℕ) (row : Row) (step : ℕ) (place : Place) (last : Option End) (input output : List ℕ) : Type 0 where
  pub pc : row.pc ≡ place.pc
  pub touches : map touch_in row.accesses ≡ (due version row place input).touches
  pub earlier : AllByRecursion (λ a. a.prev < time_of step a.slot) row.accesses
  pub next : row.next ≡ (due version row place input).next
  pub put : (rest : List ℕ) × (drop place.output output ≡ (due version row place input).put ++ rest)
  pub goes_on : (is_none (due version row place input).end || is_some last) ≡ true
  pub ends : ends_as last (due version row place input).end ≡ true

-- all checks hold
abbrev pub AllHold : List Check → Type 0
AllHold [] = Unit {0}
AllHold (c ∷ cs) = (c.1 ≡ true) × AllHold cs

-- where no check is broken, all hold
pub all-hold : (cs : List Check) → first_broken cs ≡ None → AllHold cs
all-hold [] e = tt
all-hold (c ∷ cs) e = go c.1 (all-hold cs) e
  where
    go : (b : Bool) → (first_broken cs ≡ None → AllHold cs) → cond b (first_broken cs) (Some c.0) ≡ None → (b ≡ true) × AllHold cs
    go true rest e = (refl, rest e)
    go false rest e = absurd cc

-- and conversely
pub none-broken : (cs : List Check) → AllHold cs → first_broken cs ≡ None
none-broken [] h = refl
none-broken (c ∷ cs) h = ap (λ b. cond b (first_broken cs) (Some c.0)) h.0 ∙ none-broken cs h.1

same-lists : (xs ys : List ℕ) → bytes_eq xs ys ≡ true → xs ≡ ys
same-lists xs ys e = (bytes_eq-Decides xs ys).0 e

-- lists with the same slots, cells and new values are the same accesses
same-touches : (accs : List Access) (ts : List Touch) → map (λ a. a.slot) accs ≡ map (λ t. t.slot) ts → map (λ a. a.cell) accs ≡ map (λ t. t.cell) ts → map (λ a. a.new) accs ≡ map (λ t. t.new) ts → map touch_in accs ≡ ts
same-touches [] [] p q r = refl
same-touches [] (t ∷ ts) p q r = absurd cc
same-touches (a ∷ accs) [] p q r = absurd cc
same-touches (a ∷ accs) (t ∷ ts) p q r =
    let p0 : a.slot ≡ t.slot = cc in
    let q0 : a.cell ≡ t.cell = cc in
    let r0 : a.new ≡ t.new = cc in
    let p1 : map (λ a. a.slot) accs ≡ map (λ t. t.slot) ts = cc in
    let q1 : map (λ a. a.cell) accs ≡ map (λ t. t.cell) ts = cc in
    let r1 : map (λ a. a.new) accs ≡ map (λ t. t.new) ts = cc in
    let rest = same-touches accs ts p1 q1 r1 in
    λ i. record { slot = p0 i; cell = q0 i; new = r0 i } ∷ rest i

earlier-all : (step : ℕ) (accs : List Access) → list_all (λ a. nat_lt a.prev (time_of step a.slot)) accs ≡ true → AllByRecursion (λ a. a.prev < time_of step a.slot) accs
earlier-all step [] e = tt
earlier-all step (a ∷ accs) e = (
  ltb-true a.prev (time_of step a.slot) (left-true (nat_lt a.prev (time_of step a.slot)) (list_all (λ a. nat_lt a.prev (time_of step a.slot)) accs) e),
  earlier-all step accs (right-true (nat_lt a.prev (time_of step a.slot)) (list_all (λ a. nat_lt a.prev (time_of step a.slot)) accs) e),
)

-- a row that breaks no rule follows its expected step
pub row-follows : (version : ℕ) (row : Row) (step : ℕ) (place : Place) (last : Option End) (input output : List ℕ) → row_rule version row step place last input output ≡ None → RowFollows version row step place last input output
unfolding row_checks
row-follows version row step place last input output e =
    let d : Expected = due version row place input in
    let c11 : AllHold (row_checks version row step place last input output) = all-hold (row_checks version row step place last input output) e in
    let c12 = c11.1 in
    let c13 = c12.1 in
    let c14 = c13.1 in
    let c15 = c14.1 in
    let c16 = c15.1 in
    let c17 = c16.1 in
    let c18 = c17.1 in
    let c19 = c18.1 in
    record {
      pc = eqb-true row.pc place.pc c11.0;
      touches = same-touches row.accesses d.touches (same-lists (map (λ a. a.slot) row.accesses) (map (λ t. t.slot) d.touches) c12.0) (same-lists (map (λ a. a.cell) row.accesses) (map (λ t. t.cell) d.touches) c13.0) (same-lists (map (λ a. a.new) row.accesses) (map (λ t. t.new) d.touches) c14.0);
      earlier = earlier-all step row.accesses c15.0;
      next = eqb-true row.next d.next c16.0;
      put = (drop (length d.put) (drop place.output output), (starts_is Decides-eqb (drop place.output output) d.put (starts_with nat_eq (drop place.output output) d.put) refl).0 c17.0);
      goes_on = c18.0;
      ends = c19.0;
    }
