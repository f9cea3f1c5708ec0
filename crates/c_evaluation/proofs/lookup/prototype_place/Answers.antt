use Rattle.std.proofs.Common.{◌∙◌}
use Rattle.c_evaluation.proofs.lookup.prototype_place.Goals as goal

pub returns : goal.returns
returns c = c.get.ensures ∙ c.args.scope.now.fits.prototypes c.args.name.now
