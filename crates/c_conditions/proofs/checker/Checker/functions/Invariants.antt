use Rattle.std.proofs.Common.{◌≡◌, length}
use Rattle.c_conditions.specs.World.{seen}
use Rattle.c_conditions.specs.ProgramSteps.{function}
use Rattle.c_conditions.specs.Steps.{each}
use Rattle.c_conditions.proofs.checker.Checker.functions.Given as goal

abbrev pub invariant-loop-rest : goal.invariant-loop-rest
invariant-loop-rest l = each function l.fn.list (seen l.initial.self) ≡ each function l.rest (seen l.self)

abbrev pub decreases-loop-rest : goal.decreases-loop-rest
decreases-loop-rest l = length l.rest
