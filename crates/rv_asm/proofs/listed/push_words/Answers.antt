use Rattle.std.proofs.Common.{refl, arith, string_bytes}
use Rattle.rv_asm.proofs.ListedLaws.{words-listed, words-all-listed}
use Rattle.rv_asm.proofs.listed.push_words.Goals as goal

pub loop-word-init : goal.loop-word-init
loop-word-init c = record { listed = refl; here = omega arith }

pub loop-word-preserved : goal.loop-word-preserved
loop-word-preserved c = record {
  listed = words-listed c.args.words.now c.loop-word.word-index _ c.loop-word.address _ (string_bytes c.loop-word.text) _ c.loop-word-test.true refl c.in_ok-push_word.ensures c.loop-word.invariant.listed;
  here = omega arith;
}

pub returns : goal.returns
returns c = words-all-listed c.args.words.now c.loop-word.word-index c.loop-word.address _ (string_bytes c.loop-word.text) c.loop-word-test.false c.loop-word.invariant.listed
