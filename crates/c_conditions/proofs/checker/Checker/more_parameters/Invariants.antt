use Rattle.std.proofs.Common.{◌≡◌, length}
use Rattle.c_conditions.specs.World.{seen}
use Rattle.c_conditions.specs.ProgramSteps.{next_parameter}
use Rattle.c_conditions.specs.Steps.{each}
use Rattle.c_conditions.proofs.checker.Checker.more_parameters.Given as goal

abbrev pub invariant-loop-rest : goal.invariant-loop-rest
invariant-loop-rest l = each next_parameter l.fn.list (seen l.initial.self) ≡ each next_parameter l.rest (seen l.self)

abbrev pub decreases-loop-rest : goal.decreases-loop-rest
decreases-loop-rest l = length l.rest
