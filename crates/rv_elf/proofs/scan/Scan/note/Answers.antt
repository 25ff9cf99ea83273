use Rattle.std.proofs.Common.{refl, ap}
use Rattle.rv_elf.proofs.ScanLaws.{scan-load, scan-other}
use Rattle.rv_elf.proofs.scan.Scan.note.Goals as goal

pub returns-then-segment-eq-PT_LOAD : goal.returns-then-segment-eq-PT_LOAD
returns-then-segment-eq-PT_LOAD c = λ hs x.
    let e = c.load.ensures in
    scan-load hs c.args.segment.now c.if-segment-eq-PT_LOAD.true c.args.file_size c.args.self.now c.load.new.self x
    e.interpreter e.past_file e.above_memory e.past_memory e.fits
    (λ h. ((e.full h).0, ap (λ v. v.items) (e.full h).1)) e.room

pub returns-else-segment-eq-PT_LOAD : goal.returns-else-segment-eq-PT_LOAD
returns-else-segment-eq-PT_LOAD c = λ hs x. scan-other c.args.file_size hs _ c.args.self.now _ c.if-segment-eq-PT_LOAD.false x refl
