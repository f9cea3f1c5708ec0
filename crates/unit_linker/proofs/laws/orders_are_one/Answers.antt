use Rattle.unit_linker.proofs.OrderLaws.{orders_are_one as law}
use Rattle.unit_linker.proofs.laws.orders_are_one.Goals as goal

pub returns : goal.returns
returns c = law
