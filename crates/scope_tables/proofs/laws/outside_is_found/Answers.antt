use Rattle.scope_tables.proofs.Found.{outside_is_found as law}
use Rattle.scope_tables.proofs.laws.outside_is_found.Goals as goal

pub returns : goal.returns
returns c = law
