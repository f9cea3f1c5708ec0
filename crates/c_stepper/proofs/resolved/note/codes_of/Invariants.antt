use Rattle.std.proofs.Common.{◌≡◌, ◌++◌, List, length}
use Rattle.c_tree.specs.declared.program.CFunction.{CFunction}
use Rattle.c_stepper.specs.Codes.{AreCodes}
use Rattle.c_stepper.proofs.resolved.note.codes_of.Given as goal

abbrev pub invariant-loop-first : goal.invariant-loop-first
invariant-loop-first l = (done : List CFunction) × (done ++ l.rest ≡ l.fn.functions) × AreCodes l.fn.program l.codes.items done

abbrev pub decreases-loop-first : goal.decreases-loop-first
decreases-loop-first l = length l.rest
