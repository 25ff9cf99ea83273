use Rattle.std.proofs.Common.{◌++◌, ◌==◌, not, Some, inl, inr, append-nil, ap, ◌∙◌, sym}
use Rattle.rv_host.specs.MemSink.{puts}
use Rattle.rv_host.proofs.CallLaws.{all-added, counted-if, failed-not, on-err, on-ok, part-added, rose-if}
use Rattle.rv_host.proofs.mem_sink.MemSinkSink.TheImpl.Goals as goal

pub put-tells : goal.put-tells
put-tells c =
    let s = c.args.self.now in
    let has_memory = c.ensures.0 in
    let state = c.ensures.1 in
    let is = c.ensures.2 in
    let failed = failed-not c.result (puts s has_memory) is in
    record {
      added = on-ok c.result (puts s has_memory) is (λ done.
          ap (λ after. Some after.bytes) state ∙ ap Some (all-added (λ part. s.bytes ++ part) s.bytes has_memory (s.plan == 1) c.args.bytes.now s.taken done));
      prefix = on-err c.result (puts s has_memory) is (λ _.
          elim (part-added (λ part. s.bytes ++ part) s.bytes has_memory (s.plan == 1) c.args.bytes.now s.taken) [
            | inl same ↦ (0, ap (λ after. Some after.bytes) state ∙ ap Some (same ∙ sym (append-nil s.bytes)))
            | inr more ↦ (more.0, ap (λ after. Some after.bytes) state ∙ ap Some more.1)
          ]);
      count = counted-if c.result (not (puts s has_memory)) s.faults c.new.self.now.faults failed (ap (λ after. after.faults) state);
      failed = rose-if c.result (not (puts s has_memory)) s.faults c.new.self.now.faults failed (ap (λ after. after.faults) state);
    }
