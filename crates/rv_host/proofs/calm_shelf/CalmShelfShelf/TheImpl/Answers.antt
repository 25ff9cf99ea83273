use Rattle.std.proofs.Common.{◌≡◌, [], Bool, true, false, not, Some, is_ok, length, if◌then◌else◌, refl, inl, ap, ◌∙◌}
use Rattle.rv_host.specs.Files.{file, with_added, with_file}
use Rattle.rv_host.proofs.CallLaws.{counted-if, counted-same, failed-not, on-err, on-ok, read-fits, read-is, rose-if}
use Rattle.rv_host.proofs.calm_shelf.CalmShelfShelf.TheImpl.Goals as goal

pub read_at-tells : goal.read_at-tells
read_at-tells c =
    let file = file c.args.self.now.files c.args.name.now in
    let size = length c.args.into.now in
    rw (c.ensures.answer, c.ensures.buffer, c.ensures.state) (record {
      fits = read-fits file c.args.at size size;
      bytes = read-is file c.args.at size c.args.into.now (λ none. none);
      same_files = refl;
      reads = λ any. counted-same _ 0 0 refl;
      writes = λ any. refl;
      failed = tt;
    })

pub create-tells : goal.create-tells
create-tells c =
    let s = c.args.self.now in
    let failed = failed-not c.result (is_ok c.result) refl in
    let files : (done : Bool) → is_ok c.result ≡ done → Some c.new.self.now.files ≡ Some (if done then with_file s.files c.args.name.now [] else s.files) =
    λ done is. ap (λ after. Some after.files) c.ensures ∙ ap (λ b. Some (if b then with_file s.files c.args.name.now [] else s.files)) is in
    record {
      created = on-ok c.result (is_ok c.result) refl (files true);
      same_files = on-err c.result (is_ok c.result) refl (files false);
      reads = λ any. counted-same c.result 0 0 refl;
      writes = λ any. counted-if c.result (not (is_ok c.result)) s.write_faults c.new.self.now.write_faults failed (ap (λ after. after.write_faults) c.ensures);
      failed = rose-if c.result (not (is_ok c.result)) s.write_faults c.new.self.now.write_faults failed (ap (λ after. after.write_faults) c.ensures);
    }

pub append-tells : goal.append-tells
append-tells c =
    let s = c.args.self.now in
    let failed = failed-not c.result (is_ok c.result) refl in
    let files : (done : Bool) → is_ok c.result ≡ done → Some c.new.self.now.files ≡ Some (if done then with_added s.files c.args.name.now c.args.bytes.now else s.files) =
    λ done is. ap (λ after. Some after.files) c.ensures ∙ ap (λ b. Some (if b then with_added s.files c.args.name.now c.args.bytes.now else s.files)) is in
    record {
      added = on-ok c.result (is_ok c.result) refl (files true);
      prefix = on-err c.result (is_ok c.result) refl (λ failed. inl (files false failed));
      reads = λ any. counted-same c.result 0 0 refl;
      writes = λ any. counted-if c.result (not (is_ok c.result)) s.write_faults c.new.self.now.write_faults failed (ap (λ after. after.write_faults) c.ensures);
      failed = rose-if c.result (not (is_ok c.result)) s.write_faults c.new.self.now.write_faults failed (ap (λ after. after.write_faults) c.ensures);
    }
