use Rattle.rv_file.proofs.Writing.{numbers-written}
use Rattle.rv_file.proofs.header.write_numbers.Goals as goal

pub returns : goal.returns
returns c =
    numbers-written c.args.h.now c.args.bytes.now c.set32.new.bytes c.set64.new.bytes c.set32-2.new.bytes c.set32-3.new.bytes c.set64-2.new.bytes c.set64-3.new.bytes c.requires
    c.set32.ensures c.set64.ensures c.set32-2.ensures c.set32-3.ensures c.set64-2.ensures c.set64-3.ensures
