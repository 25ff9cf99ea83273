use Rattle.rv_file.proofs.Writing.{hashes-written}
use Rattle.rv_file.proofs.header.write_hashes.Goals as goal

pub returns : goal.returns
returns c =
    hashes-written c.args.h.now.version c.args.h.now.elf c.args.h.now.input c.args.bytes.now c.set_bytes.new.bytes c.set_hash.new.bytes c.set_hash-2.new.bytes c.requires.long c.set_hash.ensures.long c.set_hash-2.ensures.long
    c.set_bytes.ensures c.set_hash.ensures.written c.set_hash-2.ensures.written
