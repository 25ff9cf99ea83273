-- The rows of a run have the ranges of the grammar.
use Rattle.std.proofs.Common.{◌≡◌, ℕ, suc, ◌+◌, ◌^◌, ◌<◌, ◌≤◌, Bool, true, false, cond, List, [], ◌∷◌, length, map, arith, nat_le}
use Rattle.std.specs.List.{AllByRecursion}
use Rattle.std.proofs.lemmas.List.{length-map}
use Rattle.rv_base.specs.declared.record.Tuple.{Tuple}
use Rattle.rv_spec.specs.Elf.{Image}
use Rattle.rv_spec.specs.Step.{State}
use Rattle.rv_spec.specs.Run.{run, next_state}
use Rattle.rv_spec.specs.Cells.{value, time_of}
use Rattle.rv_spec.specs.Visits.{Use, visit, step_uses, visits}
use Rattle.rv_spec.specs.Trace.{history, row, access}
use Rattle.rv_spec.specs.Grammar.{AccessFits, RowFits}
use Rattle.rv_rules.specs.Agreement.{IsState}
use Rattle.rv_isa.specs.Ranges.{Rises, AreCells, StepFits}
use Rattle.rv_order.proofs.Lemmas.{last_use-lt}

-- what a state holds in its cells are words
abbrev pub HoldsWords : State → Type 0
HoldsWords s = (c : ℕ) → value s c < 2 ^ 32

-- an access leaves what it found, or what the next state holds
pub left-word : (b : Bool) (s t : State) (c : ℕ) → HoldsWords s → HoldsWords t → cond b (value s c) (value t c) < 2 ^ 32
left-word true s t c old new = old c
left-word false s t c old new = new c

rises-most : (lo hi : ℕ) (us : List Use) → Rises lo hi us → lo + length us ≤ hi
rises-most lo hi [] r = omega (arith, r)
rises-most lo hi (u ∷ us) r = omega (arith, r.0, rises-most (u.slot + 1) hi us r.1)

accesses-fit : (h : List Tuple) (version k lo : ℕ) (s t : State) (us : List Use) → k < 2 ^ 59 → 1 ≤ lo → HoldsWords s → HoldsWords t → Rises lo 9 us → AreCells version us → AllByRecursion AccessFits (map (access h k) (map (visit s t) us))
accesses-fit h version k lo s t [] small some old new r c = tt
accesses-fit h version k lo s t (u ∷ us) small some old new r c =
    let most = rises-most (u.slot + 1) 9 us r.1 in (
      record {
        slot = omega (arith, most);
        cell = omega (arith, c.0.1);
        old = old u.cell;
        prev = omega (arith, small, most, last_use-lt h u.cell (time_of k u.slot) (omega (arith, some, r.0)));
        new = left-word (nat_le u.slot 5) s t u.cell old new;
      },
      accesses-fit h version k (u.slot + 1) s t us small (omega arith) old new r.1 c.1,
    )

-- a row of a run of few steps has these ranges
pub row-fits : (i : Image) (input : List ℕ) → ((n : ℕ) → IsState (run i input n)) → ((n : ℕ) → StepFits i input n) → (k : ℕ) → k < 2 ^ 59 → RowFits (row i input k)
unfolding visits step_uses run
row-fits i input states fits k small =
    let s : State = run i input k in
    let us : List Use = step_uses input s in
    let size : length (map (access (history i input (suc k)) k) (map (visit s (next_state input s)) us)) ≡ length us = simp length-map in
    record {
      pc = (states k).pc;
      next = (states (suc k)).pc;
      count = (omega (arith, size), omega (arith, size, rises-most 1 9 us (fits k).slots));
      accesses = accesses-fit (history i input (suc k)) i.version k 1 s (next_state input s) us small (omega arith) (fits k).values (fits (suc k)).values (fits k).slots (fits k).cells;
    }
