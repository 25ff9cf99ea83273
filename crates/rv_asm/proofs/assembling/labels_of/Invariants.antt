use Rattle.std.proofs.Common.{◌≡◌, ◌+◌, ◌<◌, ◌≤◌, length}
use Rattle.std.specs.Str.Lines.{lines}
use Rattle.rv_asm.specs.Assembly.{symbols_from, symbols_of}
use Rattle.rv_asm.proofs.assembling.labels_of.Given as goal

abbrev pub invariant-loop-rest : goal.invariant-loop-rest
invariant-loop-rest l = record {
  same : symbols_from l.symbols l.number l.statements (lines l.rest) ≡ symbols_of l.fn.source;
  labels : length l.symbols < l.number;
  few : l.statements < l.number;
  room : l.number + length l.rest ≤ 1048577;
}

abbrev pub decreases-loop-rest : goal.decreases-loop-rest
decreases-loop-rest l = length l.rest
