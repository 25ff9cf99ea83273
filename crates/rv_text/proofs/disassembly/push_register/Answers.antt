use Rattle.std.proofs.Common.{◌≤◌, length, decimal, ap, arith}
use Rattle.std.proofs.lemmas.Fmt.{length-decimal-le}
use Rattle.std.proofs.lemmas.List.{length-append}
use Rattle.rv_text.proofs.disassembly.push_register.Goals as goal

pub push_decimal-requires : goal.push_decimal-requires
push_decimal-requires c =
    let few : length (decimal c.args.r) ≤ 3 = length-decimal-le 3 c.args.r (omega arith) (omega arith) (omega arith) in
    omega arith

pub returns-clause-room : goal.returns-clause-room
returns-clause-room c =
    let few : length (decimal c.args.r) ≤ 3 = length-decimal-le 3 c.args.r (omega arith) (omega arith) (omega arith) in
    omega (arith, ap length c.push_decimal.ensures, length-append c.push_str.new.self.bytes (decimal c.args.r))
