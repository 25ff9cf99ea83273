use Rattle.std.proofs.Common.{Some, sym, ap, ◌∙◌, arith}
use Rattle.std.specs.Prelude.{slice_get}
use Rattle.rv_spec.specs.Record.{Parts}
use Rattle.rv_file.proofs.Showing.{no-entry, few-entries, entry-room, entry-is}
use Rattle.rv_file.proofs.parsing.Parsed.entry.Goals as goal

pub returns-then-j-self : goal.returns-then-j-self
returns-then-j-self c =
    sym (ap (λ (p : Parts). slice_get p.table c.args.j) (sym c.self.view_is)
    ∙ no-entry c.self.inside.file.now c.self.inside.header c.self.inside.entries c.args.j c.self.invariant c.if-j-self.true)

pub overflow_mul-behind : goal.overflow_mul-behind
overflow_mul-behind c = omega (arith, few-entries c.self.inside.file.now c.self.inside.header c.self.inside.entries c.self.invariant)

pub entry_before_end-requires : goal.entry_before_end-requires
entry_before_end-requires c = record {
  there = omega (arith, c.if-j-self.false);
  within = omega (arith, c.if-j-self.false, entry-room c.self.inside.file.now c.self.inside.header c.self.inside.entries c.self.invariant);
}

pub returns : goal.returns
returns c =
    (λ t. Some (c.entry_before_end.ensures t))
    ∙ sym (entry-is c.self.inside.file.now c.self.inside.header c.self.inside.entries c.args.j c.self.invariant c.if-j-self.false)
    ∙ ap (λ (p : Parts). slice_get p.table c.args.j) c.self.view_is
