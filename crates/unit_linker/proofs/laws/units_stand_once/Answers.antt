use Rattle.unit_linker.proofs.OrderLaws.{units_stand_once as law}
use Rattle.unit_linker.proofs.laws.units_stand_once.Goals as goal

pub returns : goal.returns
returns c = law
