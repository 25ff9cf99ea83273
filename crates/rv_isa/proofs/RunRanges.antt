-- The ranges of a run: its version, the bytes that it takes and puts, the values that it holds, and its end.
use Rattle.std.proofs.Common.{◌≡◌, ℕ, zero, suc, ◌+◌, ◌-◌, ◌*◌, ◌^◌, ◌<◌, ◌≤◌, Bool, true, false, cond, ◌==◌, List, length, Some, refl, ◌∙◌, subst, arith, nat_lt}
use Rattle.rv_base.specs.declared.record.End.{End}
use Rattle.rv_spec.specs.Words.{word, AreBytes}
use Rattle.rv_spec.specs.Elf.{Image}
use Rattle.rv_spec.specs.Decode.{decode_any}
use Rattle.rv_spec.specs.Step.{State, Transition, Next, Ends, register, fetch_word, step}
use Rattle.rv_spec.specs.Run.{run, state_after, end_of, end_at}
use Rattle.rv_spec.specs.Cells.{value, reservation_cell}
use Rattle.rv_spec.specs.Visits.{step_uses}
use Rattle.rv_rules.specs.Agreement.{IsState}
use Rattle.rv_isa.specs.Ranges.{Rises, AreCells, EndFits, RunsFit}
use Rattle.rv_isa.proofs.WordRanges.{register-fits, word-fits}
use Rattle.rv_isa.proofs.States.{runs-are-states}
use Rattle.rv_isa.proofs.Slots.{slots-rise}
use Rattle.rv_isa.proofs.Stepping.{SameVersion, step-version}
use Rattle.rv_isa.proofs.TurnRanges.{TurnFits, step-fits}
use Rattle.rv_isa.proofs.UsesAreCells.{uses-are-cells}

-- ---- a state

-- what a cell holds is a word
value-fits : (s : State) (c : ℕ) → IsState s → value s c < 2 ^ 32
unfolding value
value-fits s c is = go (nat_lt c (2 ^ 30)) (c == reservation_cell)
  where
    go : (a b : Bool) → cond a (word s.memory c) (cond b s.reservation (register s (c - 2 ^ 30))) < 2 ^ 32
    go true b = word-fits s.memory c is.bytes
    go false true = is.reservation
    go false false = register-fits s (c - 2 ^ 30) is

-- the slots of a step rise from 1 to 8
pub step-slots-rise : (input : List ℕ) (s : State) → Rises 1 9 (step_uses input s)
unfolding step_uses
step-slots-rise input s = (omega arith, slots-rise input (decode_any s.version (fetch_word s)) s)

-- ---- a run

after-version : (s : State) (turn : Transition) → SameVersion s turn → (state_after s turn).version ≡ s.version
after-version s (Next t) h = h
after-version s (Ends e) h = refl

-- a run keeps the version of its image
pub run-version : (i : Image) (input : List ℕ) (n : ℕ) → (run i input n).version ≡ i.version
unfolding run
run-version i input zero = refl
run-version i input (suc n) = after-version (run i input n) (step input (run i input n)) (step-version input (run i input n)) ∙ run-version i input n

after-fits : (s : State) (turn : Transition) → TurnFits s turn → ((state_after s turn).position ≤ s.position + 4) × (AreBytes s.output → AreBytes (state_after s turn).output) × (length (state_after s turn).output ≤ length s.output + 4)
after-fits s (Next t) h = h
after-fits s (Ends e) h = (omega arith, (λ k. k), omega arith)

turn-end : (s : State) (turn : Transition) (e : End) → TurnFits s turn → end_of turn ≡ Some e → EndFits e
turn-end s (Next t) e h is = absurd cc
turn-end s (Ends f) e h is = (let same : f ≡ e = cc in subst EndFits same h)

module _ (i : Image) (input : List ℕ) (states : (n : ℕ) → IsState (run i input n)) where
  -- a run takes four bytes a step at most, and puts bytes, four a step at most
  run-moves-bytes : (n : ℕ) → ((run i input n).position ≤ 4 * n) × AreBytes (run i input n).output × (length (run i input n).output ≤ 4 * n)
  unfolding run
  run-moves-bytes zero = (omega arith, tt, omega arith)
  run-moves-bytes (suc n) =
      let before = run-moves-bytes n in
      let next = after-fits (run i input n) (step input (run i input n)) (step-fits input (run i input n) (states n)) in
      (omega (arith, before.0, next.0), next.1 before.1, omega (arith, before.2, next.2))

  -- the end of a run has its ranges
  end-fits : (n : ℕ) (e : End) → end_at i input n ≡ Some e → EndFits e
  end-fits n e is = turn-end (run i input n) (step input (run i input n)) e (step-fits input (run i input n) (states n)) is

  -- a step of a run uses cells of the image's version
  run-uses-cells : (n : ℕ) → AreCells i.version (step_uses input (run i input n))
  run-uses-cells n = subst (λ v. AreCells v (step_uses input (run i input n))) (run-version i input n) (uses-are-cells input (run i input n) (states n))

-- each step of a run has its ranges
pub runs-fit : (i : Image) (input : List ℕ) → RunsFit i input
runs-fit i input program bytes n =
    let states : (k : ℕ) → IsState (run i input k) = λ k. (runs-are-states i input program bytes k).0 in
    let moves = run-moves-bytes i input states n in
    record {
      version = run-version i input n;
      taken = moves.0;
      put = moves.1;
      put_most = moves.2;
      values = λ c. value-fits (run i input n) c (states n);
      slots = step-slots-rise input (run i input n);
      cells = run-uses-cells i input states n;
      ends = end-fits i input states n;
    }
