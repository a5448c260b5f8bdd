use Rattle.translation.specs.Standing.{Named}
use Rattle.translation.proofs.formals.Formals.read.Given as goal

abbrev pub invariant-loop-i : goal.invariant-loop-i
invariant-loop-i l = Named l.cells l.i l.names
