use Rattle.std.proofs.Common.{◌∙◌}
use Rattle.c_evaluation.proofs.lookup.typedef_place.Goals as goal

pub returns : goal.returns
returns c = c.get.ensures ∙ c.args.scope.now.fits.typedefs c.args.name.now
