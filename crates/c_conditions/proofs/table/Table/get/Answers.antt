use Rattle.std.proofs.Common.{◌∙◌}
use Rattle.c_conditions.specs.Names.{look}
use Rattle.c_conditions.proofs.table.Table.get.Goals as goal

pub returns : goal.returns
unfolding look
returns c = c.copied.ensures ∙ c.get.ensures.value
