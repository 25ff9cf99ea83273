use Rattle.std.proofs.Common.{◌/◌, ◌++◌, Option, ◌∙◌, ap, subst, append_assoc}
use Rattle.rv_base.specs.declared.cells.TheConstants.{FETCH_SLOT}
use Rattle.rv_spec.specs.Decode.{AnyInstr, decode_any}
use Rattle.rv_rules.specs.Expected as isa
use Rattle.rv_isa.specs.Represented.{AppendsExpected}
use Rattle.rv_isa.proofs.expected.make.Goals as goal

pub returns : goal.returns
unfolding isa.expected
returns c version is =
    let p = c.args.step.now in
    let any : Option AnyInstr → isa.Expected = λ (x : Option AnyInstr). isa.expected_any p.input.now p.at p.pc x p.seen.now in
    let first = c.touch.new.self.list.items in
    let last = c.after_fetch.new.touches.list.items in
    let o = c.after_fetch.result in
    let m : AppendsExpected (any (decode_any version p.seen.now.s1)) first last o = subst (λ (x : Option AnyInstr). AppendsExpected (any x) first last o) is c.after_fetch.ensures in
    let rest = (any (decode_any version p.seen.now.s1)).touches in
    record {
      touches = m.touches ∙ ap (λ l. l ++ rest) c.touch.ensures.items ∙ append_assoc c.args.touches.now.list.items (isa.touch FETCH_SLOT (p.pc / 4) p.seen.now.s1) rest;
      next = m.next;
      end = m.end;
      took = m.took;
      put = m.put;
      word = m.word;
      most = m.most;
    }
