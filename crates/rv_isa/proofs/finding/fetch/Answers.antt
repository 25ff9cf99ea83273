use Rattle.std.proofs.Common.{◌/◌, ◌^◌, ◌<◌, sym, ◌∙◌, ap, arith}
use Rattle.rv_rules.proofs.Lemmas.{word-aligned}
use Rattle.rv_mem.specs.Contents.{value_at}
use Rattle.rv_isa.proofs.Loads.{value-word}
use Rattle.rv_isa.proofs.Seeing.{word-cell}
use Rattle.rv_isa.proofs.finding.fetch.Goals as goal

pub returns : goal.returns
returns c s is holds pc =
    let low : s.pc / 4 < 2 ^ 30 = omega (arith, is.pc) in
    c.held.ensures ∙ ap (λ n. value_at c.args.cells.now (n / 4)) (sym pc) ∙ holds (s.pc / 4) (word-cell (s.pc / 4) low)
    ∙ value-word s (s.pc / 4) low ∙ word-aligned s.memory s.pc is.aligned
