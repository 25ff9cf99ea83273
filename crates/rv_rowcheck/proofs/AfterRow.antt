-- What stands after a row that breaks no rule.
use Rattle.std.proofs.Common.{◌≡◌, ℕ, ◌+◌, ◌%◌, ◌≤◌, Bool, true, false, cond, List, [], ◌∷◌, ◌++◌, length, drop, Option, Some, None, nat_eq, refl, ◌∙◌, ap, arith, length-append, length-drop}
use Rattle.std.specs.List.{AllByRecursion, starts_with}
use Rattle.std.proofs.lemmas.Bool.{eqb-true}
use Rattle.std.proofs.lemmas.Slice.Eq.{starts_is}
use Rattle.std.proofs.lemmas.Bool.Decides.{Decides-eqb}
use Rattle.rv_base.specs.declared.record.End.{End}
use Rattle.rv_base.specs.declared.record.Place.{Place}
use Rattle.rv_spec.specs.Trace.{Row}
use Rattle.rv_rules.specs.Checks.{Check, first_broken}
use Rattle.rv_rules.specs.Expected.{Expected}
use Rattle.rv_rules.specs.RowRules.{due, seen, row_checks, row_rule, place_after}
use Rattle.rv_rowcheck.specs.RowChecking.{IsPlace}
use Rattle.rv_rowcheck.proofs.ExpectedPlace.{Leads, expected-leads}

-- where no check is broken, all hold
all-hold : (cs : List Check) → first_broken cs ≡ None → AllByRecursion (λ c. c.1 ≡ true) cs
all-hold [] none = tt
all-hold (c ∷ cs) none = go c.1 (all-hold cs) none
  where
    go : (b : Bool) → (first_broken cs ≡ None → AllByRecursion (λ c. c.1 ≡ true) cs) → cond b (first_broken cs) (Some c.0) ≡ None → (b ≡ true) × AllByRecursion (λ c. c.1 ≡ true) cs
    go true rest none = (refl, rest none)
    go false rest none = absurd cc

module _ (version : ℕ) (row : Row) (step : ℕ) (place : Place) (last : Option End) (input output : List ℕ) where
  abbrev e : Expected
  e = due version row place input

  -- a row that breaks no rule is at its place
  at-place : row_rule version row step place last input output ≡ None → row.pc ≡ place.pc
  unfolding row_checks
  at-place none = let all = all-hold (row_checks version row step place last input output) none in eqb-true row.pc place.pc all.0

  -- and the bytes that it puts are in the output
  puts : row_rule version row step place last input output ≡ None → starts_with nat_eq (drop place.output output) e.put ≡ true
  unfolding row_checks
  puts none = let all = all-hold (row_checks version row step place last input output) none in all.1.1.1.1.1.1.0

  put-within : place.output ≤ length output → starts_with nat_eq (drop place.output output) e.put ≡ true → place.output + length e.put ≤ length output
  put-within within so =
      let left : List ℕ = drop place.output output in
      let split : left ≡ e.put ++ drop (length e.put) left = (starts_is Decides-eqb left e.put (starts_with nat_eq left e.put) refl).0 so in
      let lengths : length left ≡ length e.put + length (drop (length e.put) left) = ap length split ∙ length-append e.put (drop (length e.put) left) in
      omega (arith, length-drop place.output output)

  -- the next row can be judged at the place after it
  pub next-place : row_rule version row step place last input output ≡ None → IsPlace place input output → IsPlace (place_after version row place input) input output
  unfolding place_after
  next-place none is =
      let leads : Leads row.pc (ap (λ x. x % 4) (at-place none) ∙ is.aligned) input place.input is.taken e = expected-leads row.pc (ap (λ x. x % 4) (at-place none) ∙ is.aligned) input place.input is.taken version (seen row.accesses) in
      record { aligned = leads.aligned; taken = leads.within; put = put-within is.put (puts none) }
