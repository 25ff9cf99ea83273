use Rattle.std.proofs.Common.{◌≡◌, length, List, [], sym, subst, ◌∙◌, arith}
use Rattle.std.specs.List.Sorted.{IsPermutation}
use Rattle.std.proofs.lemmas.Grind.{common_steps}
use Rattle.std.proofs.lemmas.List.Sorted.{length_permutation}
use Rattle.rv_base.specs.declared.record.TableEntry.{TableEntry}
use Rattle.rv_point.specs.Course.{TakesRows, TakesShard}
use Rattle.rv_point.proofs.StartLaws.{shard-taken}
use Rattle.rv_point.proofs.course.Course.take_shard.Goals as goal

pub returns-clause-ok : goal.returns-clause-ok
returns-clause-ok c =
    let found = c.take_steps.new.entries.items in
    let sorted = c.sort_by_cell.new.entries in
    let new = c.take_steps.new.self in
    let moved : IsPermutation found sorted = subst (λ (xs : List TableEntry). IsPermutation xs sorted) c.deref_mut.ensures.value c.sort_by_cell.ensures.permutation in
    let size : length sorted ≡ length found = length_permutation found sorted moved in
    let full = c.take_steps.new.entries.ok.0 in
    let same : sorted ≡ c.of.result = sym (c.of.ensures ∙ grind (arith, common_steps)) in
    let taken : TakesRows c.args.self.now new c.args.most [] found = subst (λ (xs : List TableEntry). TakesRows c.args.self.now new c.args.most xs found) c.new-entries.ensures.items c.in_ok-take_steps.ensures.ok in
    subst (TakesShard c.args.self.now new c.args.most) same (shard-taken c.args.self.now new c.args.most found sorted taken moved c.sort_by_cell.ensures.sorted)
