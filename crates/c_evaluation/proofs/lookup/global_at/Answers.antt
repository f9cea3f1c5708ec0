use Rattle.std.proofs.Common.{◌∙◌}
use Rattle.c_evaluation.proofs.Lookups.{global_first}
use Rattle.c_evaluation.proofs.lookup.global_at.Goals as goal

pub returns : goal.returns
returns c = c.get.ensures ∙ c.args.scope.now.fits.globals c.args.name.now ∙ global_first c.args.name.now c.args.scope.now.program.now.globals 0
