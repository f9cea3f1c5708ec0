use Rattle.type_rules.proofs.Symmetric.{compatible_is_assignable as law}
use Rattle.type_rules.proofs.laws.compatible_is_assignable.Goals as goal

pub returns : goal.returns
returns c = law
