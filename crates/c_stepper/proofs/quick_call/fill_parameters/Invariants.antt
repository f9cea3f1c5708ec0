use Rattle.std.proofs.Common.{◌≡◌, ◌++◌, List, length}
use Rattle.c_evaluation.specs.declared.numbers.Number.{Number}
use Rattle.c_stepper.specs.QuickCalls.{HoldAll}
use Rattle.c_stepper.proofs.quick_call.fill_parameters.Given as goal

abbrev pub invariant-loop-first : goal.invariant-loop-first
invariant-loop-first l = (done : List Number) × (done ++ l.rest ≡ l.fn.numbers) × HoldAll l.fn.memory l.fn.base done l.parameters.items

abbrev pub decreases-loop-first : goal.decreases-loop-first
decreases-loop-first l = length l.rest
