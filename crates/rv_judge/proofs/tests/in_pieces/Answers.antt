use Rattle.rv_judge.proofs.Headers.{whole-front}
use Rattle.rv_judge.proofs.tests.in_pieces.Goals as goal

pub new-judge-requires : goal.new-judge-requires
new-judge-requires c = whole-front c.args.file.now c.in-Some.header.now c.front_len-length.result c.in-Some.ensures.cases.same c.front_len-length.ensures c.if-file-length.false
