use Rattle.std.proofs.Common.{◌∙◌}
use Rattle.c_evaluation.proofs.lookup.struct_place.Goals as goal

pub returns : goal.returns
returns c = c.get.ensures ∙ c.args.scope.now.fits.structs c.args.name.now
