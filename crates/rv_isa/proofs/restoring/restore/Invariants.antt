use Rattle.std.proofs.Common.{◌≡◌, ℕ, ◌^◌, ◌<◌, take}
use Rattle.std.specs.List.{AllByRecursion}
use Rattle.rv_mem.specs.Contents.{value_at, time_at}
use Rattle.rv_isa.proofs.restoring.restore.Given as goal

abbrev pub invariant-loop-entry : goal.invariant-loop-entry
invariant-loop-entry l = record {
  image : l.memory.image ≡ l.fn.memory.image;
  values : (c : ℕ) → value_at l.memory c ≡ value_at (record { image = l.fn.memory.image; touched = take l.entry-index l.entries }) c;
  words : AllByRecursion (λ e. e.value < 2 ^ 32) (take l.entry-index l.entries);
  times : (c : ℕ) → time_at l.memory c ≡ time_at (record { image = l.fn.memory.image; touched = take l.entry-index l.entries }) c;
}
