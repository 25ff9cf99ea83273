use Rattle.std.proofs.Common.{◌≡◌, length, ap, sym, ◌∙◌, eqb-true, arith, rules}
use Rattle.rv_asm.proofs.AssemblyLaws.{words-begin, words-next, words-fault, words-end, on-went}
use Rattle.rv_asm.proofs.assembling.words_of.Goals as goal

pub loop-rest-init : goal.loop-rest-init
loop-rest-init c = record {
  same = words-begin c.args.symbols.now c.new-words.result.items c.args.source.now c.new-words.ensures.items c.requires.symbols;
  few = omega (arith, ap length c.new-words.ensures.items);
  room = omega arith;
}

pub loop-rest-preserved : goal.loop-rest-preserved
loop-rest-preserved c =
    let many : c.len.result ≡ length c.loop-rest.words.items = search rules in
    let pushed = on-went c.push_word.result (sym c.is_err.ensures.value ∙ c.if-is_err.false) c.push_word.ensures.pushed in
    record {
      same =
          sym (words-next c.args.symbols.now c.loop-rest.number c.len.result c.loop-rest.words.items c.push_word.new.words.items c.first_line.result.0.now c.loop-rest.rest.now c.first_line.result.1.now c.in-Ok.word c.first_line.ensures.lines many c.in-Ok.ensures pushed)
          ∙ c.loop-rest.invariant.same;
      few = omega (arith, c.push_word.ensures.one);
      room = omega arith;
    }

pub returns-in-Err-clause-fault : goal.returns-in-Err-clause-fault
returns-in-Err-clause-fault c =
    let many : c.len.result ≡ length c.loop-rest.words.items = search rules in
    sym c.loop-rest.invariant.same
    ∙ words-fault c.args.symbols.now c.loop-rest.number c.len.result c.loop-rest.words.items c.first_line.result.0.now c.loop-rest.rest.now c.first_line.result.1.now c.in-Err.kind c.first_line.ensures.lines many c.in-Err.ensures

pub returns-clause-words : goal.returns-clause-words
returns-clause-words c =
    let none : length c.loop-rest.rest.now ≡ 0 = eqb-true (length c.loop-rest.rest.now) 0 (sym c.is_empty.ensures ∙ c.loop-rest-test.false) in
    sym c.loop-rest.invariant.same ∙ words-end c.args.symbols.now c.loop-rest.number c.loop-rest.words.items c.loop-rest.rest.now none
