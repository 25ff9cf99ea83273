-- What a start tells of a run.
use Rattle.std.proofs.Common.{◌≡◌, ℕ, ◌+◌, ◌*◌, ◌%◌, ◌<◌, ◌≤◌, List, length, map, sym, ◌∙◌, ap, subst, arith}
use Rattle.std.specs.List.{AllByRecursion}
use Rattle.std.proofs.Math.Nat.{mul-le-mul_left}
use Rattle.rv_base.specs.declared.limits.TheConstants.{SHARD_SIZE_LIMIT, SHARDS_LIMIT}
use Rattle.rv_base.specs.declared.record.TableEntry.{TableEntry}
use Rattle.rv_spec.specs.Words.{AreBytes}
use Rattle.rv_spec.specs.Elf.{Image}
use Rattle.rv_spec.specs.Run.{run}
use Rattle.rv_spec.specs.Trace.{rows}
use Rattle.rv_spec.specs.Record.{place_at}
use Rattle.rv_spec.specs.Grammar.{IsRising}
use Rattle.rv_rules.specs.Agreement.{IsState, IsProgram}
use Rattle.rv_isa.proofs.Lemmas.{runs-are-states, runs-fit}
use Rattle.rv_isa.specs.Resumed.{IsKnown}
use Rattle.rv_point.specs.declared.start.ShardStart.{ShardStart}
use Rattle.rv_point.specs.Start.{steps_from, cell_at, cells_of, shard_start, IsStart}
use Rattle.rv_point.proofs.Lemmas.{steps-within, start-known}
use Rattle.rv_replay.specs.Making.{IsStartOf}

module _ (i : Image) (input : List ℕ) (program : IsProgram i) (bytes : AreBytes input) (s : ShardStart) (is : IsStart i input s) where
  abbrev size : ℕ
  size = is.0

  abbrev j : ℕ
  j = is.1

  same : s ≡ shard_start i input size j
  same = is.5

  pub step-is : s.step ≡ j * size
  step-is = ap (λ (x : ShardStart). x.step) same

  pub rows-are : s.rows ≡ steps_from i input (j * size) size
  rows-are = ap (λ (x : ShardStart). x.rows) same

  pub cells-are : s.cells ≡ map (cell_at i input s.step) (cells_of (rows i input s.step s.rows))
  cells-are = ap (λ (x : ShardStart). x.cells) same ∙ (λ t. map (cell_at i input (sym step-is t)) (cells_of (rows i input (sym step-is t) (sym rows-are t))))

  pub place-is : s.place ≡ place_at i input s.step
  place-is = ap (λ (x : ShardStart). x.place) same ∙ ap (place_at i input) (sym step-is)

  pub start-of : IsStartOf i input s
  start-of =
      let few : s.rows ≤ size = omega (arith, rows-are, steps-within i input size (j * size)) in
      let last : j + 1 ≤ SHARDS_LIMIT = (let less : j < SHARDS_LIMIT = is.3 in omega arith) in
      let most : size * (j + 1) ≤ size * SHARDS_LIMIT = mul-le-mul_left size last in
      let limit : size ≤ SHARD_SIZE_LIMIT = is.2.1 in
      let spread : size * (j + 1) ≡ j * size + size = omega arith in
      record {
        few = omega arith;
        number = omega (arith, step-is);
        place_is = place-is;
        output = (runs-fit i input program bytes s.step).put_most;
      }

  known : IsRising (map (λ e. e.cell) (map (cell_at i input s.step) (cells_of (rows i input s.step s.rows)))) × AllByRecursion (IsKnown i) (map (cell_at i input s.step) (cells_of (rows i input s.step s.rows)))
  known = start-known i input program bytes s.step s.rows

  pub cells-rise : IsRising (map (λ e. e.cell) s.cells)
  cells-rise = subst (λ (es : List TableEntry). IsRising (map (λ e. e.cell) es)) (sym cells-are) known.0

  pub cells-known : AllByRecursion (IsKnown i) s.cells
  cells-known = subst (λ (es : List TableEntry). AllByRecursion (IsKnown i) es) (sym cells-are) known.1

  state : IsState (run i input s.step) × ((run i input s.step).position ≤ length input)
  state = runs-are-states i input program bytes s.step

  pub place-aligned : s.place.pc % 4 ≡ 0
  place-aligned = ap (λ p. p.pc % 4) place-is ∙ state.0.aligned

  pub place-within : s.place.input ≤ length input
  place-within = (let at : s.place.input ≡ (run i input s.step).position = ap (λ p. p.input) place-is in omega (arith, state.1))
