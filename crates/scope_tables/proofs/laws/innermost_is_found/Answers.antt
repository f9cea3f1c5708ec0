use Rattle.scope_tables.proofs.Found.{innermost_is_found as law}
use Rattle.scope_tables.proofs.laws.innermost_is_found.Goals as goal

pub returns : goal.returns
returns c = law
