use Rattle.std.proofs.Common.{length}
use Rattle.c_stepper.specs.Codes.{AreInts}
use Rattle.c_stepper.proofs.resolved.call.are_ints.Given as goal

abbrev pub invariant-loop-first : goal.invariant-loop-first
invariant-loop-first l = AreInts l.rest → AreInts l.fn.variables

abbrev pub decreases-loop-first : goal.decreases-loop-first
decreases-loop-first l = length l.rest
