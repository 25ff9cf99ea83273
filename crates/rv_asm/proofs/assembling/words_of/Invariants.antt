use Rattle.std.proofs.Common.{◌≡◌, ◌+◌, ◌<◌, ◌≤◌, length}
use Rattle.std.specs.Str.Lines.{lines}
use Rattle.rv_asm.specs.Assembly.{assembly, words_from}
use Rattle.rv_asm.proofs.AssemblyLaws.{after}
use Rattle.rv_asm.proofs.assembling.words_of.Given as goal

abbrev pub invariant-loop-rest : goal.invariant-loop-rest
invariant-loop-rest l = record {
  same : after l.words.items (words_from l.symbols l.number (length l.words.items) (lines l.rest)) ≡ assembly l.fn.source;
  few : length l.words.items < l.number;
  room : l.number + length l.rest ≤ 1048577;
}

abbrev pub decreases-loop-rest : goal.decreases-loop-rest
decreases-loop-rest l = length l.rest
