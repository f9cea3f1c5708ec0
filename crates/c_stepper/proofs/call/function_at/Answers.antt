use Rattle.std.proofs.Common.{◌∙◌}
use Rattle.c_stepper.proofs.Calling.{function_first}
use Rattle.c_stepper.proofs.call.function_at.Goals as goal

pub returns-clause-value : goal.returns-clause-value
returns-clause-value c = c.function_place.ensures.value ∙ function_first c.args.name.now c.args.scope.now.program.now.functions 0
