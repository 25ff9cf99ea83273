-- Steps in parts: what is made after the reads of a step.
use Rattle.std.proofs.Common.{◌≡◌, ℕ, ◌+◌, ◌-◌, ◌%◌, ◌^◌, ◌≤◌, Bool, true, false, cond, ◌==◌, List, [], ◌++◌, length, replicate, refl, sym, ◌∙◌, ap, arith, append-nil, append_assoc}
use Rattle.rv_base.specs.declared.record.Touch.{Touch}
use Rattle.rv_base.specs.declared.instr.LoadKind.{LoadKind}
use Rattle.rv_base.specs.declared.instr.LoadKind.TheVariants as loads
use Rattle.rv_base.specs.declared.instr.StoreKind.{StoreKind}
use Rattle.rv_base.specs.declared.instr.StoreKind.TheVariants as stores
use Rattle.rv_spec.specs.Step.{load_width, store_width}
use Rattle.rv_rules.specs.Expected.{Expected, goes_to, ends, jumps, moves}
use Rattle.rv_isa.specs.declared.step.Outcome.{Outcome}
use Rattle.rv_isa.specs.Represented.{AppendsExpected}

after : (e f : Expected) (first middle last reads : List Touch) (o : Outcome) → f ≡ record e { touches = reads ++ e.touches } → middle ≡ first ++ reads → AppendsExpected e middle last o → AppendsExpected f first last o
after e f first middle last reads o same read m =
    let whole : first ++ reads ++ e.touches ≡ first ++ f.touches = append_assoc first reads e.touches ∙ ap (λ l. first ++ l) (sym (ap (λ x. x.touches) same)) in
    record {
      touches = m.touches ∙ ap (λ l. l ++ e.touches) read ∙ whole;
      next = m.next ∙ sym (ap (λ x. x.next) same);
      end = m.end ∙ sym (ap (λ x. x.end) same);
      took = m.took ∙ sym (ap (λ x. x.took) same);
      put = m.put ∙ sym (ap (λ x. length x.put) same);
      word = m.word ∙ sym (ap (λ x. x.put ++ replicate (4 - o.put) 0) same);
      most = m.most;
    }

-- a step that reads and then goes on
pub goes-after : (next : ℕ) (reads writes first middle last : List Touch) (o : Outcome) → middle ≡ first ++ reads → AppendsExpected (goes_to next writes) middle last o → AppendsExpected (goes_to next (reads ++ writes)) first last o
goes-after next reads writes first middle last o read m = after (goes_to next writes) (goes_to next (reads ++ writes)) first middle last reads o refl read m

pub jumps-after : (pc target : ℕ) (reads writes first middle last : List Touch) (o : Outcome) → middle ≡ first ++ reads → AppendsExpected (jumps pc target [] writes) middle last o → AppendsExpected (jumps pc target reads writes) first last o
jumps-after pc target reads writes first middle last o read m = after (jumps pc target [] writes) (jumps pc target reads writes) first middle last reads o (same (target % 4 == 0)) read m
  where
    same : (b : Bool) → cond b (goes_to target (reads ++ writes)) (ends pc 3 0 reads) ≡ record (cond b (goes_to target writes) (ends pc 3 0 [])) { touches = reads ++ (cond b (goes_to target writes) (ends pc 3 0 [])).touches }
    same true = refl
    same false = ap (λ l. ends pc 3 0 l) (sym (append-nil reads))

pub moves-after : (pc width a kind : ℕ) (reads writes first middle last : List Touch) (o : Outcome) → middle ≡ first ++ reads → AppendsExpected (moves pc width a kind [] writes) middle last o → AppendsExpected (moves pc width a kind reads writes) first last o
moves-after pc width a kind reads writes first middle last o read m = after (moves pc width a kind [] writes) (moves pc width a kind reads writes) first middle last reads o (same (a % width == 0)) read m
  where
    same : (b : Bool) → cond b (goes_to ((pc + 4) % 2 ^ 32) (reads ++ writes)) (ends pc kind 0 reads) ≡ record (cond b (goes_to ((pc + 4) % 2 ^ 32) writes) (ends pc kind 0 [])) { touches = reads ++ (cond b (goes_to ((pc + 4) % 2 ^ 32) writes) (ends pc kind 0 [])).touches }
    same true = refl
    same false = ap (λ l. ends pc kind 0 l) (sym (append-nil reads))

-- what an aligned address moves stays within its word
pub load-within : (kind : LoadKind) (a : ℕ) → a % load_width kind ≡ 0 → a % 4 + load_width kind ≤ 4
load-within loads.B a e = omega arith
load-within loads.H a e = omega arith
load-within loads.W a e = omega arith
load-within loads.Bu a e = omega arith
load-within loads.Hu a e = omega arith

pub store-within : (kind : StoreKind) (a : ℕ) → a % store_width kind ≡ 0 → a % 4 + store_width kind ≤ 4
store-within stores.B a e = omega arith
store-within stores.H a e = omega arith
store-within stores.W a e = omega arith

pub ruleset made = (goes-after, jumps-after, moves-after)

pub ruleset lanes = (load-within, store-within)
