use Rattle.std.proofs.Common.{◌≡◌, length}
use Rattle.c_conditions.specs.World.{seen}
use Rattle.c_conditions.specs.DeclarationSteps.{next_typedef_type}
use Rattle.c_conditions.specs.Steps.{each}
use Rattle.c_conditions.proofs.checker.Checker.more_typedef_types.Given as goal

abbrev pub invariant-loop-rest : goal.invariant-loop-rest
invariant-loop-rest l = each next_typedef_type l.fn.list (seen l.initial.self) ≡ each next_typedef_type l.rest (seen l.self)

abbrev pub decreases-loop-rest : goal.decreases-loop-rest
decreases-loop-rest l = length l.rest
