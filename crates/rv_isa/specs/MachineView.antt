-- The machine's fields as what it keeps.
use Rattle.rv_isa.specs.declared.machine.Machine.TheInside.{Inside}
use Rattle.rv_isa.specs.MachineState.{MachineState}

abbrev pub machine_view : Inside → MachineState
machine_view m = record { hart = m.hart; output = m.output.items; ended = m.ended }
