use Rattle.std.proofs.Common.{◌≡◌, length, map}
use Rattle.c_meaning.specs.Types.{types_eq}
use Rattle.c_meaning.specs.States.{variable_type}
use Rattle.c_evaluation.proofs.types.same_variables.Given as goal

abbrev pub invariant-loop-left : goal.invariant-loop-left
invariant-loop-left l = types_eq (map variable_type l.left) (map variable_type l.right) ≡ types_eq (map variable_type l.fn.a) (map variable_type l.fn.b)

abbrev pub decreases-loop-left : goal.decreases-loop-left
decreases-loop-left l = length l.left
