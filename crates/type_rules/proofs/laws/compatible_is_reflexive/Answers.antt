use Rattle.type_rules.proofs.Symmetric.{compatible_is_reflexive as law}
use Rattle.type_rules.proofs.laws.compatible_is_reflexive.Goals as goal

pub returns : goal.returns
returns c = law
