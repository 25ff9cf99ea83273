use Rattle.std.proofs.Common.{◌<◌, ◌^◌, arith}
use Rattle.std.specs.Prelude.{slice_index}
use Rattle.std.specs.Int.{w64}
use Rattle.std.proofs.lemmas.Simd.{Each1-get_or, below_from_Fits}
use Rattle.rv_lanes.proofs.ChMaj.{ch-short}
use Rattle.rv_lanes.proofs.functions.ch.Goals as goal

pub returns : goal.returns
returns c = λ j l.
    let x : slice_index c.args.x j < 2 ^ 64 = Each1-get_or (λ n. n < 2 ^ 64) c.args.x j 0 (omega (arith, c.fits-x.0)) (below_from_Fits w64 c.args.x c.fits-x.1) in
    let y : slice_index c.args.y j < 2 ^ 64 = Each1-get_or (λ n. n < 2 ^ 64) c.args.y j 0 (omega (arith, c.fits-y.0)) (below_from_Fits w64 c.args.y c.fits-y.1) in
    let z : slice_index c.args.z j < 2 ^ 64 = Each1-get_or (λ n. n < 2 ^ 64) c.args.z j 0 (omega (arith, c.fits-z.0)) (below_from_Fits w64 c.args.z c.fits-z.1) in
    rw (c.xor-2.ensures j l, c.and.ensures j l, c.xor.ensures j l) (ch-short w64 _ _ _ x y z)
