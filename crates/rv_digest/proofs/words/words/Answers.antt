use Rattle.std.proofs.Common.{rules, ◌≡◌, ◌<◌, [], ◌∷◌, ◌++◌, length, refl, sym, ◌∙◌, arith}
use Rattle.std.proofs.lemmas.List.{take_more_set, take_all}
use Rattle.std.proofs.lemmas.Simd.{length-replicate}
use Rattle.rv_digest.proofs.Numbers.{numbers-more}
use Rattle.rv_digest.proofs.words.words.Goals as goal

pub loop-i-init : goal.loop-i-init
loop-i-init g c = (length-replicate g.row.N 0, refl)

pub loop-i-preserved : goal.loop-i-preserved
loop-i-preserved g c =
    let room : c.loop-i.i < length c.loop-i.words = omega (arith, c.loop-i.invariant.0) in (
      search (rules, c.loop-i.invariant.0),
      take_more_set c.loop-i.words c.loop-i.i c.get64.result room
          ∙ (λ i. c.loop-i.invariant.1 i ++ c.get64.ensures i ∷ [])
          ∙ sym (numbers-more c.args.bytes.now c.loop-i.i),
    )

pub returns : goal.returns
returns g c =
    let done : c.loop-i.i ≡ g.row.N = omega arith in
    sym (take_all g.row.N c.loop-i.words (omega (arith, c.loop-i.invariant.0))) ∙ (rw done at c.loop-i.invariant.1)
