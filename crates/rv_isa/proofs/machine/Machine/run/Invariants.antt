use Rattle.std.proofs.Common.{◌≡◌, None}
use Rattle.rv_spec.specs.Run.{run, GoesOn}
use Rattle.rv_isa.specs.Machine.{Represents}
use Rattle.rv_isa.proofs.machine.Machine.run.Given as goal

abbrev pub invariant-loop-done : goal.invariant-loop-done
invariant-loop-done l = record {
  image : l.self.hart.cells.image ≡ l.fn.self.hart.cells.image;
  input : l.self.hart.input ≡ l.fn.self.hart.input;
  going : l.self.ended ≡ None;
  shows : Represents l.self (run l.fn.self.hart.cells.image l.fn.self.hart.input l.done);
  goes : GoesOn l.fn.self.hart.cells.image l.fn.self.hart.input l.done;
}
