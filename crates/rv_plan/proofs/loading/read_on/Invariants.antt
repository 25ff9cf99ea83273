use Rattle.std.proofs.Common.{◌≡◌, ℕ, ◌-◌, ◌≤◌, List, ◌++◌, length, take, vec_len, Some}
use Rattle.rv_host.specs.Files.{Files, file}
use Rattle.rv_plan.proofs.loading.read_on.Given as goal

abbrev pub invariant-loop-bytes : goal.invariant-loop-bytes
invariant-loop-bytes g l = record {
  room : length l.bytes.items ≤ l.fn.most;
  piece : vec_len l.piece ≡ 65536;
  files : (g.S.Shelf.view l.shelf).files ≡ (g.S.Shelf.view l.fn.shelf).files;
  reads : (any : List ℕ) → (g.S.Shelf.view l.shelf).read_faults any ≡ (g.S.Shelf.view l.fn.shelf).read_faults any;
  writes : (any : List ℕ) → (g.S.Shelf.view l.shelf).write_faults any ≡ (g.S.Shelf.view l.fn.shelf).write_faults any;
  more : (more : List ℕ) × (l.bytes.items ≡ l.fn.bytes.items ++ more);
  front : (told : Files) → (g.S.Shelf.view l.fn.shelf).files ≡ Some told → l.fn.bytes.items ≡ take (length l.fn.bytes.items) (file told l.fn.name) → l.bytes.items ≡ take (length l.bytes.items) (file told l.fn.name);
}

abbrev pub decreases-loop-bytes : goal.decreases-loop-bytes
decreases-loop-bytes g l = l.fn.most - length l.bytes.items
