use Rattle.scope_tables.proofs.Found.{others_are_found as law}
use Rattle.scope_tables.proofs.laws.others_are_found.Goals as goal

pub returns : goal.returns
returns c = law
