use Rattle.std.proofs.Common.{length}
use Rattle.c_stepper.proofs.Coding.{Walks}
use Rattle.c_stepper.proofs.quick.row_at.Given as goal

abbrev pub invariant-loop-level : goal.invariant-loop-level
invariant-loop-level l = Walks l.fn.code l.fn.outer l.row l.rest

abbrev pub decreases-loop-level : goal.decreases-loop-level
decreases-loop-level l = length l.rest
