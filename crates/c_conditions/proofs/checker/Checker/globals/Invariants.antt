use Rattle.std.proofs.Common.{◌≡◌, length}
use Rattle.c_conditions.specs.World.{seen}
use Rattle.c_conditions.specs.ProgramSteps.{global}
use Rattle.c_conditions.specs.Steps.{each}
use Rattle.c_conditions.proofs.checker.Checker.globals.Given as goal

abbrev pub invariant-loop-rest : goal.invariant-loop-rest
invariant-loop-rest l = each global l.fn.list (seen l.initial.self) ≡ each global l.rest (seen l.self)

abbrev pub decreases-loop-rest : goal.decreases-loop-rest
decreases-loop-rest l = length l.rest
