use Rattle.std.proofs.Common.{◌≡◌, ℕ, List, take}
use Rattle.std.specs.List.{flat_map}
use Rattle.std.specs.Option.{option_map}
use Rattle.rv_host.specs.Files.{with_file}
use Rattle.rv_plan.proofs.writing.write_parts.Given as goal

abbrev pub invariant-loop-part : goal.invariant-loop-part
invariant-loop-part g l = record {
  writes : (any : List ℕ) → (g.S.Shelf.view l.shelf).write_faults any ≡ (g.S.Shelf.view l.fn.shelf).write_faults any;
  files : (g.S.Shelf.view l.shelf).files ≡ option_map (λ told. with_file told l.fn.name (flat_map (λ part. part.now) (take l.part-index l.fn.parts))) (g.S.Shelf.view l.fn.shelf).files;
}
