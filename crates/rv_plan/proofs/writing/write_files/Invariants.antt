use Rattle.std.proofs.Common.{◌≡◌, ℕ, List, map, take}
use Rattle.std.specs.Option.{option_map}
use Rattle.rv_plan.specs.Plan.{with_due}
use Rattle.rv_plan.specs.FileCalls.{due_of}
use Rattle.rv_plan.proofs.writing.write_files.Given as goal

abbrev pub invariant-loop-file : goal.invariant-loop-file
invariant-loop-file g l = record {
  writes : (any : List ℕ) → (g.S.Shelf.view l.shelf).write_faults any ≡ (g.S.Shelf.view l.fn.shelf).write_faults any;
  files : (g.S.Shelf.view l.shelf).files ≡ option_map (λ told. with_due told (map due_of (take l.file-index l.fn.files))) (g.S.Shelf.view l.fn.shelf).files;
}
