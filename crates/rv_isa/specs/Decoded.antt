-- What a word is, as the definition of decoding has it.
use Rattle.std.specs.Prelude.{Option, Some, None}
use Rattle.rv_spec.specs.Decode.{AnyInstr, rv32im, rv32a}
use Rattle.rv_isa.specs.declared.decoded.Decoded.{Decoded}
use Rattle.rv_isa.specs.declared.decoded.Decoded.TheVariants.{Rv32im, Rv32a, Illegal}

abbrev pub any_of : Decoded → Option AnyInstr
any_of (Rv32im i) = Some (rv32im i)
any_of (Rv32a i) = Some (rv32a i)
any_of Illegal = None
