use Rattle.std.proofs.Common.{◌≡◌, ◌≤◌, ◌==◌, [], Bool, true, false, not, Some, length, if◌then◌else◌, unwrap_or, inl, inr, ap, ◌∙◌}
use Rattle.rv_host.specs.Files.{file, with_added, with_file}
use Rattle.rv_host.specs.MemShelf.{appends, creates, read_fails}
use Rattle.rv_host.specs.Transfers.{Reads, read_count, read_into}
use Rattle.rv_host.proofs.CallLaws.{all-added, answered, cap-is, counted-if, counted-same, failed-none, failed-not, if-ok, on-err, on-ok, part-added, read-fits, read-is, rose-if}
use Rattle.rv_host.proofs.mem_shelf.MemShelfShelf.TheImpl.Goals as goal

pub read_at-tells : goal.read_at-tells
read_at-tells c =
    let s = c.args.self.now in
    let into = c.args.into.now in
    let size = length into in
    let file = file s.files c.args.name.now in
    let most = unwrap_or s.most size in
    let fails = read_fails s c.args.name.now in
    let count = read_count file c.args.at size most in
    let failed = failed-none c.result fails count c.ensures.answer in
    let state = c.ensures.state in
    let buffer : fails ≡ false → c.new.into.now ≡ read_into file c.args.at most into =
    λ works. c.ensures.buffer ∙ ap (λ b. if b then into else read_into file c.args.at most into) works in
    record {
      fits = if-ok c.result _ c.ensures.answer (λ x is. answered (λ n. n ≤ size) fails count x is (λ works. read-fits file c.args.at size most));
      bytes = if-ok c.result _ c.ensures.answer (λ x is. answered (λ n. Reads file c.args.at n into c.new.into.now) fails count x is (λ works.
          rw (buffer works) (read-is file c.args.at most into (cap-is s.most size c.ensures.capped))));
      same_files = ap (λ after. Some after.files) state;
      reads = λ any. counted-if c.result fails s.read_faults c.new.self.now.read_faults failed (ap (λ after. after.read_faults) state);
      writes = λ any. ap (λ after. after.write_faults) state;
      failed = rose-if c.result fails s.read_faults c.new.self.now.read_faults failed (ap (λ after. after.read_faults) state);
    }

pub create-tells : goal.create-tells
create-tells c =
    let s = c.args.self.now in
    let done = creates s c.ensures.0 in
    let state = c.ensures.1 in
    let failed = failed-not c.result done c.ensures.2 in
    let files : (b : Bool) → done ≡ b → Some c.new.self.now.files ≡ Some (if b then with_file s.files c.args.name.now [] else s.files) =
    λ b is. ap (λ after. Some after.files) state ∙ ap (λ b. Some (if b then with_file s.files c.args.name.now [] else s.files)) is in
    record {
      created = on-ok c.result done c.ensures.2 (files true);
      same_files = on-err c.result done c.ensures.2 (files false);
      reads = λ any. counted-same c.result s.read_faults c.new.self.now.read_faults (ap (λ after. after.read_faults) state);
      writes = λ any. counted-if c.result (not done) s.write_faults c.new.self.now.write_faults failed (ap (λ after. after.write_faults) state);
      failed = rose-if c.result (not done) s.write_faults c.new.self.now.write_faults failed (ap (λ after. after.write_faults) state);
    }

pub append-tells : goal.append-tells
append-tells c =
    let s = c.args.self.now in
    let name = c.args.name.now in
    let bytes = c.args.bytes.now in
    let done = appends s c.ensures.0 in
    let state = c.ensures.1 in
    let failed = failed-not c.result done c.ensures.2 in
    record {
      added = on-ok c.result done c.ensures.2 (λ is.
          ap (λ after. Some after.files) state ∙ ap Some (all-added (λ part. with_added s.files name part) s.files c.ensures.0 (s.append_plan == 1) bytes s.taken is));
      prefix = on-err c.result done c.ensures.2 (λ is.
          elim (part-added (λ part. with_added s.files name part) s.files c.ensures.0 (s.append_plan == 1) bytes s.taken) [
            | inl same ↦ inl (ap (λ after. Some after.files) state ∙ ap Some same)
            | inr more ↦ inr (more.0, ap (λ after. Some after.files) state ∙ ap Some more.1)
          ]);
      reads = λ any. counted-same c.result s.read_faults c.new.self.now.read_faults (ap (λ after. after.read_faults) state);
      writes = λ any. counted-if c.result (not done) s.write_faults c.new.self.now.write_faults failed (ap (λ after. after.write_faults) state);
      failed = rose-if c.result (not done) s.write_faults c.new.self.now.write_faults failed (ap (λ after. after.write_faults) state);
    }
