use Rattle.std.proofs.Common.{◌∙◌}
use Rattle.c_evaluation.proofs.Lookups.{function_below}
use Rattle.c_evaluation.proofs.lookup.function_place.Goals as goal

pub returns-clause-value : goal.returns-clause-value
returns-clause-value c = c.get.ensures ∙ c.args.scope.now.fits.functions c.args.name.now

pub returns-clause-within : goal.returns-clause-within
returns-clause-within c = function_below c.args.name.now c.args.scope.now.program.now.functions c.get.result (returns-clause-value c)
