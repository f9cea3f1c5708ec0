use Rattle.std.proofs.Common.{◌≡◌, length}
use Rattle.c_stepper.specs.declared.names.Mark.TheVariants as k
use Rattle.c_stepper.specs.Marks.{numbered_after}
use Rattle.c_stepper.proofs.names.ends_in_number.Given as goal

abbrev pub invariant-loop-rest : goal.invariant-loop-rest
invariant-loop-rest l = numbered_after l.mark l.rest ≡ numbered_after k.Outside l.fn.name

abbrev pub decreases-loop-rest : goal.decreases-loop-rest
decreases-loop-rest l = length l.rest
