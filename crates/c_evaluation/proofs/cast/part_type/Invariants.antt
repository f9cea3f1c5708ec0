use Rattle.std.proofs.Common.{◌≡◌, length, Some}
use Rattle.c_meaning.specs.Types.{part_type}
use Rattle.c_evaluation.specs.Types.{place_type_of}
use Rattle.c_evaluation.proofs.cast.part_type.Given as goal

abbrev pub invariant-loop-rest : goal.invariant-loop-rest
invariant-loop-rest l = part_type l.scope.program.now.declarations l.rest (Some (place_type_of l.here)) ≡ part_type l.fn.scope.program.now.declarations l.fn.path (Some (place_type_of l.fn.of))

abbrev pub decreases-loop-rest : goal.decreases-loop-rest
decreases-loop-rest l = length l.rest
