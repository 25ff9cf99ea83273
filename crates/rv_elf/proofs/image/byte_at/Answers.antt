use Rattle.std.proofs.Common.{sym, arith}
use Rattle.rv_elf.proofs.IndexLaws.{rises}
use Rattle.rv_elf.proofs.Lookups.{found-in-file, found-begins, found-within, found-behind, found-nothing}
use Rattle.rv_elf.proofs.image.byte_at.Goals as goal

pub last_begun-requires : goal.last_begun-requires
last_begun-requires c = rises _ _ c.requires.indexed

pub overflow_sub-result : goal.overflow_sub-result
overflow_sub-result c =
    let l = c.in-Some.ensures in
    found-begins c.args.file.now c.args.index.now c.requires.faultless c.requires.indexed c.args.address l.0 c.in-Some.segment l.1 l.2

pub bounds-file-segment : goal.bounds-file-segment
bounds-file-segment c =
    let l = c.in-Some.ensures in
    let begins = found-begins c.args.file.now c.args.index.now c.requires.faultless c.requires.indexed c.args.address l.0 c.in-Some.segment l.1 l.2 in
    let within = found-in-file c.args.file.now c.args.index.now c.requires.faultless c.requires.indexed c.args.address l.0 c.in-Some.segment l.1 l.2 in
    omega arith

pub returns-in-Some : goal.returns-in-Some
returns-in-Some c =
    let l = c.in-Some.ensures in
    let begins = found-begins c.args.file.now c.args.index.now c.requires.faultless c.requires.indexed c.args.address l.0 c.in-Some.segment l.1 l.2 in
    sym (found-within c.args.file.now c.args.index.now c.requires.faultless c.requires.indexed c.args.address l.0 c.in-Some.segment c.args.address l.1 l.2 begins (omega arith))

pub returns-in_default : goal.returns-in_default
returns-in_default c =
    let l = c.in-Some.ensures in
    sym (found-behind c.args.file.now c.args.index.now c.requires.faultless c.requires.indexed c.args.address l.0 c.in-Some.segment c.args.address l.1 l.2 (omega arith) (omega arith))

pub returns-in_default-2 : goal.returns-in_default-2
returns-in_default-2 c =
    sym (found-nothing c.args.file.now c.args.index.now c.requires.faultless c.requires.indexed c.args.address c.args.address c.last_begun.result c.last_begun.ensures c.in_default.is (omega arith))
