use Rattle.std.proofs.Common.{◌∙◌}
use Rattle.unit_linker.proofs.LinkLemmas.{files_taken}
use Rattle.unit_linker.proofs.linking.taken.Goals as goal

pub returns-clause-units : goal.returns-clause-units
returns-clause-units c = c.in_ok-units.ensures.files ∙ files_taken c.args.files.items c.in_ok-slots.slots.items c.args.order.now c.in_ok-slots.ensures
