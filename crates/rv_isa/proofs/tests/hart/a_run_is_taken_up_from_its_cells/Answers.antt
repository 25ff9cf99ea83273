use Rattle.std.proofs.Common.{List, sym, subst}
use Rattle.std.specs.List.{AllByRecursion}
use Rattle.rv_base.specs.declared.record.TableEntry.{TableEntry}
use Rattle.rv_isa.specs.Resumed.{IsKnown}
use Rattle.rv_isa.proofs.TableOfRun.{table-known}
use Rattle.rv_isa.proofs.tests.hart.a_run_is_taken_up_from_its_cells.Goals as goal

pub resume-requires-clause-known : goal.resume-requires-clause-known
resume-requires-clause-known g c =
    subst (λ (es : List TableEntry). AllByRecursion (IsKnown c.in_ok-image.image) es) (sym c.as_slice-2.ensures.value) (table-known _ c.in_ok-image.image c.in_ok-cells.cells.items c.in_ok-cells.ensures)
