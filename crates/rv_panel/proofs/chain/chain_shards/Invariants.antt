use Rattle.std.proofs.Common.{◌≡◌, ℕ, ◌-◌, ◌<◌, ◌≤◌, List, [], length}
use Rattle.rv_spec.specs.Tuples.{Event}
use Rattle.rv_file.specs.Parsing.{behind_shards}
use Rattle.rv_rowcheck.specs.RowChecking.{IsPlace}
use Rattle.rv_panel.specs.Chaining.{AreDigests, subject_of, verdict_from}
use Rattle.rv_panel.proofs.chain.chain_shards.Given as goal

abbrev pub invariant-loop-i : goal.invariant-loop-i
invariant-loop-i g l =
    let s = subject_of l.program l.header l.output in
    record {
      at : l.rest ≡ behind_shards l.i l.shards;
      within : (found : ℕ) → (found < l.header.shards → length (behind_shards found l.shards) < 32) → l.i ≤ found;
      stands : IsPlace l.place l.program.input l.output;
      events : (es : List Event) × AreDigests g.L.Lanes.lanes es l.reads.lanes l.writes.lanes
          × (verdict_from g.L.Lanes.lanes s l.header.shards 0 l.fn.first [] l.shards ≡ verdict_from g.L.Lanes.lanes s (l.header.shards - l.i) l.i l.place es l.rest);
    }
