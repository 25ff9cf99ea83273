use Rattle.rv_asm.proofs.RoundTrip.{round-trip}
use Rattle.rv_asm.proofs.laws.disassembly_assembles.Goals as goal

pub returns : goal.returns
returns c = λ w i small decodes other. round-trip w i small decodes other
