use Rattle.std.proofs.Common.{rules}
use Rattle.std.proofs.lemmas.List.Sorted.{IsNonDecreasingBy-from_sort_by_key}
use Rattle.rv_base.specs.declared.record.TableEntry.{TableEntry}
use Rattle.rv_point.proofs.course.sort_by_cell.Goals as goal

pub returns-clause-sorted : goal.returns-clause-sorted
returns-clause-sorted c = IsNonDecreasingBy-from_sort_by_key (λ (e : TableEntry). e.cell) _ c.sort_unstable_by_key.ensures.sorted (λ a r q k. search rules)
