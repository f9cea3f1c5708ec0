use Rattle.type_rules.proofs.Symmetric.{compatible_is_symmetric as law}
use Rattle.type_rules.proofs.laws.compatible_is_symmetric.Goals as goal

pub returns : goal.returns
returns c = law
