use Rattle.std.proofs.Common.{◌<◌, length, refl, arith, string_bytes}
use Rattle.rv_asm.proofs.ListedLaws.{symbol-at, symbols-listed, symbols-all-listed}
use Rattle.rv_asm.proofs.listed.push_symbols.Goals as goal

pub loop-j-init : goal.loop-j-init
loop-j-init c = refl

pub loop-j-preserved : goal.loop-j-preserved
loop-j-preserved c =
    let within : c.loop-j.j < length c.args.symbols.now = omega arith in
    let here = symbol-at c.args.symbols.now c.loop-j.j within in
    symbols-listed c.args.symbols.now c.loop-j.j here.0 _ (string_bytes c.loop-j.text) _ here.2 (c.in_ok-push_symbol.ensures here.0 here.1) c.loop-j.invariant

pub returns : goal.returns
returns c = symbols-all-listed c.args.symbols.now c.loop-j.j _ (string_bytes c.loop-j.text) (omega arith) c.loop-j.invariant
