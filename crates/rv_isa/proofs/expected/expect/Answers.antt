use Rattle.std.proofs.Common.{◌++◌, ◌∙◌, ap}
use Rattle.rv_rules.specs.Expected as isa
use Rattle.rv_isa.proofs.expected.expect.Goals as goal

pub returns : goal.returns
returns c =
    let m = c.make-outcome.ensures c.args.version c.of_word-decoded.ensures in
    let e = isa.expected c.args.version c.args.pc c.args.seen.now c.args.input.now c.args.at in
    record {
      touches = m.touches ∙ ap (λ l. l ++ e.touches) c.new-touches.ensures.items;
      next = m.next;
      end = m.end;
      took = m.took;
      put = m.put;
      word = m.word;
      most = m.most;
    }
