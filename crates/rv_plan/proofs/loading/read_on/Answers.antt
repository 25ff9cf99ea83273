use Rattle.std.proofs.Common.{◌≡◌, ◌≢◌, ◌≤◌, ◌++◌, length, take, [], refl, sym, ◌∙◌, ap, append-nil, append_assoc, arith}
use Rattle.std.proofs.lemmas.List.{length-take}
use Rattle.rv_plan.proofs.Fronts.{front-more, front-whole, front-filled}
use Rattle.rv_host.specs.Files.{file}
use Rattle.rv_plan.proofs.loading.read_on.Goals as goal

pub loop-bytes-init : goal.loop-bytes-init
loop-bytes-init g c = record {
  room = c.requires.room;
  piece = c.in-Ok.ensures.len;
  files = refl;
  reads = λ any. refl;
  writes = λ any. refl;
  more = ([], sym (append-nil c.args.bytes.now.items));
  front = λ told is begun. begun;
}

pub returns-in_default-read_at : goal.returns-in_default-read_at
returns-in_default-read_at g c = (
  record { files = c.read_at.ensures.same_files ∙ c.loop-bytes.invariant.files; writes = λ any. c.read_at.ensures.writes any ∙ c.loop-bytes.invariant.writes any },
  rw (← c.loop-bytes.invariant.reads c.args.name.now) c.in_default-read_at.ensures.failed,
)

pub returns-then-taken-eq0 : goal.returns-then-taken-eq0
returns-then-taken-eq0 g c =
    let place : c.len-in-loop-bytes-2.result ≡ length c.loop-bytes.bytes.items = omega (arith, c.loop-bytes.bytes.ok.0, c.len-in-loop-bytes-2.ensures) in
    let room : length (take c.min-room.result c.deref_mut.result.now) ≢ 0 =
    λ e. absurd (omega (arith, e, length-take c.min-room.result c.deref_mut.result.now, c.min-room.ensures, c.deref_mut.ensures.len, c.loop-bytes.invariant.piece, c.loop-bytes-test.true, c.len.ensures, c.len-in-loop-bytes.ensures)) in (
      record {
        files = c.read_at.ensures.same_files ∙ c.loop-bytes.invariant.files;
        reads = λ any. (c.in-Ok-read_at.ensures.reads any).ok_leaves ∙ c.loop-bytes.invariant.reads any;
        writes = λ any. c.read_at.ensures.writes any ∙ c.loop-bytes.invariant.writes any;
      },
      c.loop-bytes.invariant.room,
      c.loop-bytes.invariant.more,
      λ told is begun. front-whole _ _ c.args.name.now c.loop-bytes.bytes.items _ _ _ _ c.args.most c.loop-bytes.invariant.files place c.if-taken-eq0.true room c.loop-bytes.invariant.room c.in-Ok-read_at.ensures.bytes told is (c.loop-bytes.invariant.front told is begun),
    )

pub returns-in_default-extend_from_slice : goal.returns-in_default-extend_from_slice
returns-in_default-extend_from_slice g c = record {
  files = c.read_at.ensures.same_files ∙ c.loop-bytes.invariant.files;
  writes = λ any. c.read_at.ensures.writes any ∙ c.loop-bytes.invariant.writes any;
}

pub loop-bytes-preserved : goal.loop-bytes-preserved
loop-bytes-preserved g c =
    let place : c.len-in-loop-bytes-2.result ≡ length c.loop-bytes.bytes.items = omega (arith, c.loop-bytes.bytes.ok.0, c.len-in-loop-bytes-2.ensures) in
    let fits : c.in-Ok-read_at.taken ≤ length c.read_at.new.into = omega (arith, c.in-Ok-read_at.ensures.fits, c.read_at.auto.into) in record {
      room = omega (arith, fits, c.in-Ok-extend_from_slice.ensures.len, c.extend_from_slice.new.self.ok.0, c.loop-bytes.bytes.ok.0, length-take c.in-Ok-read_at.taken c.read_at.new.into, length-take c.min-room.result c.deref_mut.result.now, c.in-Ok-read_at.ensures.fits, c.min-room.ensures, c.len-in-loop-bytes.ensures, c.loop-bytes.invariant.room);
      piece = c.loop-bytes.invariant.piece;
      files = c.read_at.ensures.same_files ∙ c.loop-bytes.invariant.files;
      reads = λ any. (c.in-Ok-read_at.ensures.reads any).ok_leaves ∙ c.loop-bytes.invariant.reads any;
      writes = λ any. c.read_at.ensures.writes any ∙ c.loop-bytes.invariant.writes any;
      more = (
        c.loop-bytes.invariant.more.0 ++ take c.in-Ok-read_at.taken c.read_at.new.into,
        c.in-Ok-extend_from_slice.ensures.items ∙ ap (λ xs. xs ++ take c.in-Ok-read_at.taken c.read_at.new.into) c.loop-bytes.invariant.more.1
            ∙ append_assoc c.args.bytes.now.items c.loop-bytes.invariant.more.0 (take c.in-Ok-read_at.taken c.read_at.new.into),
      );
      front = λ told is begun. rw c.in-Ok-extend_from_slice.ensures.items
          (front-more _ _ c.args.name.now c.loop-bytes.bytes.items c.read_at.new.into _ _ c.in-Ok-read_at.taken c.loop-bytes.invariant.files place fits c.in-Ok-read_at.ensures.bytes told is (c.loop-bytes.invariant.front told is begun));
    }

pub returns : goal.returns
returns g c = (
  record { files = c.loop-bytes.invariant.files; reads = c.loop-bytes.invariant.reads; writes = c.loop-bytes.invariant.writes },
  c.loop-bytes.invariant.room,
  c.loop-bytes.invariant.more,
  λ told is begun. front-filled (file told c.args.name.now) c.loop-bytes.bytes.items c.args.most (omega (arith, c.loop-bytes.bytes.ok.0, c.loop-bytes.invariant.room, c.loop-bytes-test.false, c.len.ensures)) (c.loop-bytes.invariant.front told is begun),
)
