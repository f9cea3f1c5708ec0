use Rattle.unit_linker.proofs.OrderLaws.{uses_stand_before as law}
use Rattle.unit_linker.proofs.laws.uses_stand_before.Goals as goal

pub returns : goal.returns
returns c = law
