-- A walk stands behind the shards that it gave, or has an error.
use Rattle.std.proofs.Common.{◌≡◌, ℕ, ◌*◌, List, [], Some, None, sym, ◌∙◌, ap, subst, arith}
use Rattle.std.specs.Int.{IsInRange, div_ceil}
use Rattle.rv_base.specs.declared.limits.TheConstants.{BUDGET_LIMIT, SHARD_SIZE_LIMIT}
use Rattle.rv_base.specs.declared.record.End.{End}
use Rattle.rv_spec.specs.Words.{AreBytes}
use Rattle.rv_spec.specs.Elf.{Image}
use Rattle.rv_spec.specs.Step.{start}
use Rattle.rv_spec.specs.Run.{run, EndsIn}
use Rattle.rv_spec.specs.Trace.{history, table}
use Rattle.rv_rules.specs.Agreement.{IsProgram}
use Rattle.rv_mem.specs.Contents.{IsTable}
use Rattle.rv_isa.proofs.Lemmas.{touched-table}
use Rattle.rv_isa.specs.HartState.{HartState, StandsFor, IsTimed}
use Rattle.rv_point.specs.declared.walk.Walk.TheInside.{Inside}
use Rattle.rv_point.specs.declared.walk.Whole.{Whole}
use Rattle.rv_point.specs.Course.{IsBegun}
use Rattle.rv_point.specs.Walk.{HasGivenAll, IsWhole}
use Rattle.rv_point.specs.WalkView.{walk_view, IsWalk}

pub walk-opened : (w : Inside) (i : Image) → IsProgram i → AreBytes w.course.hart.input → w.course.hart.cells.image ≡ i → StandsFor w.course.hart (start i) → IsTimed w.course.hart [] 0 → w.course.output.items ≡ [] → w.course.steps ≡ 0 → w.course.ended ≡ None → w.given ≡ 0 → w.fault ≡ None
    → IsInRange 1 SHARD_SIZE_LIMIT w.size → IsInRange 1 BUDGET_LIMIT w.budget → IsWalk w
unfolding run history
walk-opened w i program bytes image stands timed output steps going given fault size budget =
    let h : HartState = w.course.hart in
    let begin : StandsFor h (start h.cells.image) = subst (λ (a : Image). StandsFor h (start a)) (sym image) stands in
    let none : w.given * w.size ≡ 0 = ap (λ g. g * w.size) given ∙ (let zero : 0 * w.size ≡ 0 = omega arith in zero) in
    record {
      program = subst IsProgram (sym image) program;
      bytes = bytes;
      few = omega (arith, given);
      begun = λ e. record {
        at = record {
          after = record {
            stands = subst (λ n. StandsFor h (run h.cells.image h.input n)) (sym steps) begin;
            timed = subst (λ n. IsTimed h (history h.cells.image h.input n) n) (sym steps) timed;
            put = output ∙ ap (λ n. (run h.cells.image h.input n).output) (sym steps);
          };
          going = λ e k less. absurd (omega (arith, steps, less));
          done = λ e some. absurd cc;
        };
        size_within = size;
        budget_within = budget;
        within = omega (arith, steps);
        whole = λ e. omega (arith, steps, none);
        all = λ e some. absurd cc;
      };
      failed = λ f some. absurd cc;
    }

-- all shards of the run were given
pub walk-given : (w : Inside) (e : End) → IsWalk w → w.fault ≡ None → w.course.ended ≡ Some e → HasGivenAll (walk_view w)
walk-given w e h none some =
    let b : IsBegun w.course w.size w.budget w.given = h.begun none in
    record { steps = w.course.steps; end = e; ended = some; faultless = none; ends = b.at.done e some; within = b.within; all = b.all e some }

-- the whole of the run
pub whole-is : (w : Inside) (e : End) (o : Whole) → IsWalk w → w.fault ≡ None → w.course.ended ≡ Some e → o.steps ≡ w.course.steps → o.shards ≡ w.given → o.end ≡ e → o.consumed ≡ w.course.hart.position
    → o.output ≡ w.course.output.items → IsTable w.course.hart.cells o.table → IsWhole (walk_view w) o
whole-is w e o h none some steps shards end consumed output listed =
    let b : IsBegun w.course w.size w.budget w.given = h.begun none in
    let i : Image = w.course.hart.cells.image in
    let input : List ℕ = w.course.hart.input in
    record {
      ends = subst (λ n. EndsIn i input n o.end) (sym steps) (subst (EndsIn i input w.course.steps) (sym end) (b.at.done e some));
      within = omega (arith, steps, b.within);
      shards = shards ∙ b.all e some ∙ ap (λ n. div_ceil n w.size) (sym steps);
      few = omega (arith, shards, h.few);
      consumed = consumed ∙ b.at.after.stands.position ∙ ap (λ n. (run i input n).position) (sym steps);
      output = output ∙ b.at.after.put ∙ ap (λ n. (run i input n).output) (sym steps);
      table = touched-table i input w.course.steps w.course.hart o.table h.program h.bytes b.at.after.stands b.at.after.timed listed ∙ ap (table i input) (sym steps);
    }
