use Rattle.std.proofs.Common.{◌≡◌, ℕ, ◌<◌, length, drop, get_or}
use Rattle.rv_file.specs.Parsing.{behind_shards}
use Rattle.rv_panel.proofs.starts.find_starts.Given as goal

abbrev pub invariant-loop : goal.invariant-loop
invariant-loop l = record {
  count : length l.starts.items ≡ l.counter;
  at : l.rest ≡ behind_shards l.counter l.bytes;
  suffix : (n : ℕ) × (l.rest ≡ drop n l.bytes);
  each : (i : ℕ) → i < l.counter → drop (get_or l.starts.items i 0) l.bytes ≡ behind_shards i l.bytes;
}
