use Rattle.std.proofs.Common.{length}
use Rattle.c_stepper.specs.Quick.{SameTodo}
use Rattle.c_stepper.proofs.quick.settled.Given as goal

abbrev pub invariant-loop-row : goal.invariant-loop-row
invariant-loop-row l = SameTodo l.fn.code l.fn.spot l.spot

abbrev pub decreases-loop-row : goal.decreases-loop-row
decreases-loop-row l = length l.spot.outer.items
