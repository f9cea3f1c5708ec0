use Rattle.std.proofs.Common.{◌≡◌, ◌++◌, List, length}
use Rattle.c_tree.specs.Tree.{Expr}
use Rattle.c_evaluation.specs.Numbers.{variables_of}
use Rattle.c_stepper.specs.Codes.{ResolveAll}
use Rattle.c_stepper.proofs.resolved.call.arguments_resolved.Given as goal

abbrev pub invariant-loop-first : goal.invariant-loop-first
invariant-loop-first l = (done : List Expr) × (done ++ l.rest ≡ l.fn.arguments) × ResolveAll l.fn.names.program.now (variables_of l.fn.names) l.numbers.items done

abbrev pub decreases-loop-first : goal.decreases-loop-first
decreases-loop-first l = length l.rest
