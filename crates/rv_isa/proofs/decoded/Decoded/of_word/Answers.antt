-- The word is decoded as the definition decodes it, case by case.
use Rattle.std.proofs.Common.{◌≡◌, cond, ◌==◌, Some, None, sym}
use Rattle.rv_spec.specs.Decode.{decode, decode_atomic}
use Rattle.rv_isa.proofs.Fetched.{any-of-base, any-of-other}
use Rattle.rv_isa.proofs.decoded.Decoded.of_word.Goals as goal

pub returns-in-Some : goal.returns-in-Some
returns-in-Some c =
    let e : decode c.args.word ≡ Some c.in-Some.instr = cc in
    sym (any-of-base c.args.version c.args.word c.in-Some.instr e)

pub returns-in-Some-atomic_of : goal.returns-in-Some-atomic_of
returns-in-Some-atomic_of c =
    let e : decode c.args.word ≡ None = cc in
    let f : Some c.in-Some-atomic_of.instr ≡ cond (c.args.version == 2) (decode_atomic c.args.word) None = cc in
    sym (any-of-other c.args.version c.args.word (Some c.in-Some-atomic_of.instr) e f)

pub returns-in-None-atomic_of : goal.returns-in-None-atomic_of
returns-in-None-atomic_of c =
    let e : decode c.args.word ≡ None = cc in
    let f : None ≡ cond (c.args.version == 2) (decode_atomic c.args.word) None = cc in
    sym (any-of-other c.args.version c.args.word None e f)
