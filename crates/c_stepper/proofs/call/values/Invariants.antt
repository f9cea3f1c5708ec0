use Rattle.std.proofs.Common.{◌≡◌, length}
use Rattle.c_meaning.specs.Evaluate.{values}
use Rattle.c_evaluation.specs.Scopes.{view_at}
use Rattle.c_evaluation.specs.Values.{values_of}
use Rattle.c_stepper.proofs.Calling.{with_values}
use Rattle.c_stepper.proofs.call.values.Given as goal

abbrev pub invariant-loop-rest : goal.invariant-loop-rest
invariant-loop-rest l = with_values (view_at l.scope) (values_of l.list) l.rest ≡ values (view_at l.fn.scope) l.fn.arguments

abbrev pub decreases-loop-rest : goal.decreases-loop-rest
decreases-loop-rest l = length l.rest
