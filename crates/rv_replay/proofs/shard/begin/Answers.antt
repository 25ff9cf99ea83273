use Rattle.std.proofs.Common.{ℕ, ◌++◌, List, length, map, replicate, refl, sym, ◌∙◌, ap, subst, arith}
use Rattle.std.specs.List.{AllByRecursion}
use Rattle.rv_base.specs.declared.record.TableEntry.{TableEntry}
use Rattle.rv_spec.specs.Words.{AreBytes}
use Rattle.rv_spec.specs.Elf.{Image}
use Rattle.rv_spec.specs.Trace.{rows}
use Rattle.rv_spec.specs.Grammar.{IsRising}
use Rattle.rv_rules.proofs.Lemmas.{bytes-are}
use Rattle.rv_isa.specs.Resumed.{IsKnown, HoldsListed, resumed}
use Rattle.rv_point.specs.Start.{cell_at, cells_of}
use Rattle.rv_point.specs.Replays.{IsReplaying}
use Rattle.rv_point.proofs.Lemmas.{replays-begin}
use Rattle.rv_replay.proofs.MakingLaws.{begun}
use Rattle.rv_replay.proofs.StartLaws.{start-of, place-is, cells-are, cells-rise, cells-known, place-aligned, place-within}
use Rattle.rv_replay.proofs.shard.begin.Goals as goal

pub resume-requires-clause-rising : goal.resume-requires-clause-rising
resume-requires-clause-rising c =
    let bytes : AreBytes c.args.input.now = bytes-are c.args.input.now (λ i. omega (arith, c.type_inv.input i)) in
    subst (λ (es : List TableEntry). IsRising (map (λ e. e.cell) es)) (sym c.list.ensures) (cells-rise c.args.image.now c.args.input.now c.copy-image.ensures.program bytes c.args.start.now c.requires)

pub resume-requires-clause-known : goal.resume-requires-clause-known
resume-requires-clause-known c =
    let bytes : AreBytes c.args.input.now = bytes-are c.args.input.now (λ i. omega (arith, c.type_inv.input i)) in
    subst (λ (i : Image). AllByRecursion (IsKnown i) c.list.result.now) (sym c.copy-image.ensures.same)
    (subst (λ (es : List TableEntry). AllByRecursion (IsKnown c.args.image.now) es) (sym c.list.ensures) (cells-known c.args.image.now c.args.input.now c.copy-image.ensures.program bytes c.args.start.now c.requires))

pub resume-requires-clause-aligned : goal.resume-requires-clause-aligned
resume-requires-clause-aligned c =
    let bytes : AreBytes c.args.input.now = bytes-are c.args.input.now (λ i. omega (arith, c.type_inv.input i)) in
    place-aligned c.args.image.now c.args.input.now c.copy-image.ensures.program bytes c.args.start.now c.requires

pub resume-requires-clause-within : goal.resume-requires-clause-within
resume-requires-clause-within c =
    let bytes : AreBytes c.args.input.now = bytes-are c.args.input.now (λ i. omega (arith, c.type_inv.input i)) in
    place-within c.args.image.now c.args.input.now c.copy-image.ensures.program bytes c.args.start.now c.requires

pub returns : goal.returns
returns c =
    let i = c.args.image.now in
    let input = c.args.input.now in
    let s = c.args.start.now in
    let h = c.in_ok-hart.hart in
    let program = c.copy-image.ensures.program in
    let bytes : AreBytes input = bytes-are input (λ i. omega (arith, c.type_inv.input i)) in
    let image = c.in_ok-hart.ensures.image ∙ c.copy-image.ensures.same in
    let place = place-is i input program bytes s c.requires in
    let listed = c.list.ensures ∙ cells-are i input program bytes s c.requires in
    let holds : HoldsListed h i (map (cell_at i input s.step) (cells_of (rows i input s.step s.rows))) =
    subst (λ (es : List TableEntry). HoldsListed h i es) listed (subst (λ (a : Image). HoldsListed h a c.list.result.now) c.copy-image.ensures.same c.in_ok-hart.ensures.cells) in
    let replaying : IsReplaying i input s.step s.rows 0 h = replays-begin i input s.step s.rows h (resumed c.copy-image.result s.place c.list.result.now) program bytes image c.in_ok-hart.ensures.input
    (c.in_ok-hart.ensures.pc ∙ ap (λ p. p.pc) place) (c.in_ok-hart.ensures.position ∙ ap (λ p. p.input) place) holds c.in_ok-hart.ensures.stands in
    record {
      program = program;
      input_bytes = bytes;
      start = start-of i input program bytes s c.requires;
      image = image;
      input_is = c.in_ok-hart.ensures.input;
      none_made = λ lanes pairing covers. begun i input lanes s.step s.rows _ pairing replaying (ap length c.in_ok-extend_from_slice.ensures.items ∙ ap (λ (bs : List ℕ). length (bs ++ replicate 32 0)) c.in_ok-bytes.ensures.items) covers refl;
    }
