use Rattle.std.proofs.lemmas.Fn.{always_returns_same}
use Rattle.std.proofs.Common.{rules, of_calls, arith, nat_le, Bool, get_or}
use Rattle.std.proofs.lemmas.Bool.{leb-true, leb-false, le-leb}
use Rattle.rv_elf.specs.declared.segment.Segment.{Segment}
use Rattle.rv_elf.proofs.index.begun.Goals as goal

pub returns : goal.returns
returns c =
    let test : Segment → Bool = λ s. nat_le s.address c.args.address in
    let parts = c.partition_point.ensures.partitioned test (always_returns_same _ _ _ (λ a r f k. search (rules, of_calls)))
    (λ i j d le h e. le-leb (get_or c.args.index.now i d).address c.args.address
    (let later = leb-true (get_or c.args.index.now j d).address c.args.address e in let rising = c.requires i j d le h in omega arith)) in
    record {
      bound = c.partition_point.ensures.bound;
      begun = λ i d h. leb-true (get_or c.args.index.now i d).address c.args.address (parts.0 i d (omega arith) h);
      above = λ i d low h. leb-false (get_or c.args.index.now i d).address c.args.address (parts.1 i d low h);
    }
