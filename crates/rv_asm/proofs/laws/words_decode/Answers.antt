use Rattle.rv_asm.proofs.DecodeLaws.{words-decode}
use Rattle.rv_asm.proofs.laws.words_decode.Goals as goal

pub returns : goal.returns
returns c = λ meaning text w plain told. words-decode meaning text w plain told
