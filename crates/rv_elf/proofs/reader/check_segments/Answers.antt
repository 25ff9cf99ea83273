use Rattle.std.proofs.Common.{map, sym, ◌∙◌, ap}
use Rattle.rv_spec.specs.Elf.{some_overlap}
use Rattle.rv_elf.specs.Faults.{IsClear}
use Rattle.rv_elf.specs.Segments.{described}
use Rattle.rv_elf.proofs.ScanLaws.{clear-10, clear-11, clear-12, clear-13, clear-14, clear-15, fault-10, fault-11, fault-12, fault-13, fault-14, fault-15}
use Rattle.rv_elf.proofs.reader.check_segments.Goals as goal

pub returns-then-scan-clause-fault : goal.returns-then-scan-clause-fault
returns-then-scan-clause-fault c = λ file clear x. fault-10 file c.args.scan.now x clear c.if-scan.true

pub returns-then-scan-2-clause-fault : goal.returns-then-scan-2-clause-fault
returns-then-scan-2-clause-fault c = λ file clear x.
    let s = c.args.scan.now in
    fault-11 file s x (clear-10 file s x clear c.if-scan.false) c.if-scan-2.true

pub returns-then-scan-3-clause-fault : goal.returns-then-scan-3-clause-fault
returns-then-scan-3-clause-fault c = λ file clear x.
    let s = c.args.scan.now in
    fault-12 file s x (clear-11 file s x (clear-10 file s x clear c.if-scan.false) c.if-scan-2.false) c.if-scan-3.true

pub returns-then-scan-4-clause-fault : goal.returns-then-scan-4-clause-fault
returns-then-scan-4-clause-fault c = λ file clear x.
    let s = c.args.scan.now in
    fault-13 file s x (clear-12 file s x (clear-11 file s x (clear-10 file s x clear c.if-scan.false) c.if-scan-2.false) c.if-scan-3.false) c.if-scan-4.true

pub returns-then-scan-5-clause-fault : goal.returns-then-scan-5-clause-fault
returns-then-scan-5-clause-fault c = λ file clear x.
    let s = c.args.scan.now in
    fault-14 file s x (clear-13 file s x (clear-12 file s x (clear-11 file s x (clear-10 file s x clear c.if-scan.false) c.if-scan-2.false) c.if-scan-3.false) c.if-scan-4.false) c.if-scan-5.true

pub returns-then-some_overlap-clause-fault : goal.returns-then-some_overlap-clause-fault
returns-then-some_overlap-clause-fault c = λ file clear x.
    let s = c.args.scan.now in
    let before : IsClear 13 file = clear-13 file s x (clear-12 file s x (clear-11 file s x (clear-10 file s x clear c.if-scan.false) c.if-scan-2.false) c.if-scan-3.false) c.if-scan-4.false in
    fault-15 file s x (clear-14 file s x before c.if-scan-5.false) c.if-scan-5.false
    (ap (λ z. some_overlap (map described z)) (sym c.as_slice.ensures.value) ∙ sym c.some_overlap.ensures ∙ c.if-some_overlap.true)

pub returns-clause-clear : goal.returns-clause-clear
returns-clause-clear c = λ file clear x.
    let s = c.args.scan.now in
    let before : IsClear 13 file = clear-13 file s x (clear-12 file s x (clear-11 file s x (clear-10 file s x clear c.if-scan.false) c.if-scan-2.false) c.if-scan-3.false) c.if-scan-4.false in
    clear-15 file s x (clear-14 file s x before c.if-scan-5.false) c.if-scan-5.false
    (ap (λ z. some_overlap (map described z)) (sym c.as_slice.ensures.value) ∙ sym c.some_overlap.ensures ∙ c.if-some_overlap.false)
