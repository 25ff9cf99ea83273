use Rattle.std.proofs.Common.{◌≢◌, ◌≤◌, ◌++◌, [], not, refl, ap, ◌∙◌, arith, length, take}
use Rattle.std.proofs.lemmas.List.{length-take-le}
use Rattle.rv_plan.proofs.Lemmas.{front-more}
use Rattle.rv_commands.proofs.Judged.{all-read, begun, concluded, decided, fed-more, some-of}
use Rattle.rv_commands.proofs.judging.judge_pieces.Goals as goal

pub loop-piece-init : goal.loop-piece-init
loop-piece-init g c = record {
  piece = c.in-Ok.ensures.len;
  files = refl;
  reads = λ any. refl;
  writes = λ any. refl;
  fed = ([], begun (g.S.Shelf.view c.args.shelf.now) c.args.name.now c.args.program.now.elf c.args.program.now.input c.args.front.now c.new-judge.result c.requires.first c.new-judge.ensures);
}

pub returns-in_default-read_at : goal.returns-in_default-read_at
returns-in_default-read_at g c = (
  record { files = c.read_at.ensures.same_files ∙ c.loop-piece.invariant.files; writes = λ any. c.read_at.ensures.writes any ∙ c.loop-piece.invariant.writes any },
  rw (← c.loop-piece.invariant.reads c.args.name.now) c.in_default-read_at.ensures.failed,
)

pub returns-then-taken-eq0 : goal.returns-then-taken-eq0
returns-then-taken-eq0 g c =
    let fed = c.loop-piece.invariant.fed in
    let room : length c.as_mut_slice-into.result.now ≢ 0 = λ e. absurd (omega (arith, e, c.as_mut_slice-into.ensures.len, c.loop-piece.invariant.piece)) in (
      record {
        files = c.read_at.ensures.same_files ∙ c.loop-piece.invariant.files;
        reads = λ any. (c.in-Ok-read_at.ensures.reads any).ok_leaves ∙ c.loop-piece.invariant.reads any;
        writes = λ any. c.read_at.ensures.writes any ∙ c.loop-piece.invariant.writes any;
      },
      concluded (g.S.Shelf.view c.args.shelf.now) c.args.name.now c.args.program.now.elf c.args.program.now.input c.args.front.now c.loop-piece.at c.loop-piece.judge fed.0 c.finish.result fed.1 c.verdicts_conclude.ensures.sound c.requires.faultless c.requires.elf c.requires.input
          c.requires.front c.finish.ensures.verdict
          (all-read _ _ c.args.name.now (c.args.front.now ++ fed.0) _ _ c.loop-piece.at _ c.loop-piece.invariant.files fed.1.place c.if-taken-eq0.true room fed.1.first c.in-Ok-read_at.ensures.bytes),
    )

pub returns-in_default-checked_add : goal.returns-in_default-checked_add
returns-in_default-checked_add g c = record {
  files = c.read_at.ensures.same_files ∙ c.loop-piece.invariant.files;
  writes = λ any. c.read_at.ensures.writes any ∙ c.loop-piece.invariant.writes any;
}

pub loop-piece-preserved : goal.loop-piece-preserved
loop-piece-preserved g c =
    let fed = c.loop-piece.invariant.fed in
    let fits : c.in-Ok-read_at.taken ≤ length c.read_at.new.into = omega (arith, c.in-Ok-read_at.ensures.fits, c.read_at.auto.into) in record {
      piece = c.loop-piece.invariant.piece;
      files = c.read_at.ensures.same_files ∙ c.loop-piece.invariant.files;
      reads = λ any. (c.in-Ok-read_at.ensures.reads any).ok_leaves ∙ c.loop-piece.invariant.reads any;
      writes = λ any. c.read_at.ensures.writes any ∙ c.loop-piece.invariant.writes any;
      fed = (
        fed.0 ++ take c.in-Ok-read_at.taken c.read_at.new.into,
        fed-more (g.S.Shelf.view c.args.shelf.now) c.args.name.now c.args.program.now.elf c.args.program.now.input c.args.front.now c.loop-piece.at c.in-Some.next c.loop-piece.judge c.feed.new.judge fed.0 (take c.in-Ok-read_at.taken c.read_at.new.into) fed.1 c.feed.ensures.bytes
            (omega (arith, c.in-Some.ensures, length-take-le c.in-Ok-read_at.taken c.read_at.new.into fits)) c.feed.ensures.comes
            (λ told is. front-more _ _ c.args.name.now (c.args.front.now ++ fed.0) c.read_at.new.into _ c.loop-piece.at c.in-Ok-read_at.taken c.loop-piece.invariant.files fed.1.place fits c.in-Ok-read_at.ensures.bytes told is (fed.1.first told is)),
      );
    }

pub returns : goal.returns
returns g c =
    let fed = c.loop-piece.invariant.fed in
    let stays = some-of c.refused.result _ (c.is_none.ensures ∙ ap not c.loop-piece-test.false) c.refused.ensures.stays in (
      record { files = c.loop-piece.invariant.files; reads = c.loop-piece.invariant.reads; writes = c.loop-piece.invariant.writes },
      decided (g.S.Shelf.view c.args.shelf.now) c.args.name.now c.args.program.now.elf c.args.program.now.input c.args.front.now c.loop-piece.at c.loop-piece.judge fed.0 c.finish-2.result stays.0 fed.1 stays.1.1 c.finish-2.ensures.verdict,
    )
