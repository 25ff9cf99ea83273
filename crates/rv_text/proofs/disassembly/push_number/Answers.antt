use Rattle.std.proofs.Common.{◌+◌, ◌≤◌, length, decimal, ap, arith}
use Rattle.std.proofs.lemmas.Fmt.{length-decimal-le}
use Rattle.std.proofs.lemmas.List.{length-append}
use Rattle.rv_text.proofs.disassembly.push_number.Goals as goal
use Rattle.rv_text.proofs.disassembly.push_number.Goals.{then-n-lt0, else-n-lt0}

pub push_decimal-requires : goal.push_decimal-requires
push_decimal-requires c =
    let few : length (decimal c.unsigned_abs.result) ≤ 10 = length-decimal-le 10 c.unsigned_abs.result (omega arith) (omega arith) (omega arith) in
    let room : length c.if-n-lt0.text.bytes ≤ length c.args.text.now.bytes + 3 = elim c.if-n-lt0.branch [
      | then-n-lt0 w ↦ omega (arith, ap (λ s. length s.bytes) w.text-is)
      | else-n-lt0 w ↦ omega (arith, ap (λ s. length s.bytes) w.text-is)
    ] in
    omega arith

pub returns-clause-room : goal.returns-clause-room
returns-clause-room c =
    let few : length (decimal c.unsigned_abs.result) ≤ 10 = length-decimal-le 10 c.unsigned_abs.result (omega arith) (omega arith) (omega arith) in
    let room : length c.if-n-lt0.text.bytes ≤ length c.args.text.now.bytes + 3 = elim c.if-n-lt0.branch [
      | then-n-lt0 w ↦ omega (arith, ap (λ s. length s.bytes) w.text-is)
      | else-n-lt0 w ↦ omega (arith, ap (λ s. length s.bytes) w.text-is)
    ] in
    omega (arith, ap length c.push_decimal.ensures, length-append c.if-n-lt0.text.bytes (decimal c.unsigned_abs.result))
