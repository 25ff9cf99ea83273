-- The hart's fields as what it keeps.
use Rattle.rv_isa.specs.declared.hart.Hart.TheInside.{Inside}
use Rattle.rv_isa.specs.HartState.{HartState, StandsForSome}

abbrev pub hart_view : Inside → HartState
hart_view h = record { cells = h.cells; input = h.input.now; pc = h.pc; position = h.position }

abbrev pub IsHart : Inside → Type 0
IsHart h = StandsForSome (hart_view h)
