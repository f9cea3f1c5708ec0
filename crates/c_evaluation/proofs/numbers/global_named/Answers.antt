use Rattle.std.proofs.Common.{◌∙◌}
use Rattle.c_evaluation.proofs.Lookups.{global_first}
use Rattle.c_evaluation.proofs.numbers.global_named.Goals as goal

pub returns : goal.returns
returns c = c.get.ensures ∙ c.args.names.now.fits.globals c.args.name.now ∙ global_first c.args.name.now c.args.names.now.program.now.globals 0
