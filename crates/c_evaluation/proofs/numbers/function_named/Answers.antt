use Rattle.std.proofs.Common.{◌∙◌}
use Rattle.c_evaluation.proofs.numbers.function_named.Goals as goal

pub returns : goal.returns
returns c = c.get.ensures ∙ c.args.names.now.fits.functions c.args.name.now
