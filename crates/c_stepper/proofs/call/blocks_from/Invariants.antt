use Rattle.std.proofs.Common.{◌≡◌, ◌+◌, length, reverse}
use Rattle.c_meaning.specs.Steps.{parameter_blocks}
use Rattle.c_evaluation.specs.Values.{values_of}
use Rattle.c_stepper.proofs.Calling.{with_blocks}
use Rattle.c_stepper.proofs.call.blocks_from.Given as goal

abbrev pub invariant-loop-rest : goal.invariant-loop-rest
invariant-loop-rest l = record {
  same : with_blocks l.scope.program.now.declarations l.blocks l.rest (reverse (values_of l.left)) ≡ parameter_blocks l.fn.scope.program.now.declarations l.fn.parameters (reverse (values_of l.fn.values));
  length : length l.blocks + length l.rest ≡ length l.fn.parameters;
}

abbrev pub decreases-loop-rest : goal.decreases-loop-rest
decreases-loop-rest l = length l.rest
