use Rattle.std.proofs.Common.{◌≤◌, length, arith}
use Rattle.rv_text.specs.Syntax.{hex}
use Rattle.rv_text.proofs.Digits.{length-hex}
use Rattle.rv_text.proofs.disassembly.push_upper.Goals as goal

pub push_hex-requires : goal.push_hex-requires
push_hex-requires c =
    let few : length (hex c.args.n) ≤ 8 = length-hex 7 c.args.n (omega arith) (omega arith) in
    omega arith
